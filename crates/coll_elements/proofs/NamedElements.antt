-- What one element more does to elements that are found by their names.
use Rattle.std.proofs.Common.{◌≡◌, ◌<◌, ℕ, ◌+◌, Bool, true, false, cond, List, [], ◌∷◌, ◌++◌, length, Option, Some, None, sym, ap, ap₂, subst, ◌∙◌, refl, arith}
use Rattle.std.proofs.Math.ListN.{get_or-append}
use Rattle.std.proofs.Math.Seq.{get_or-append_seam}
use Rattle.std.proofs.lemmas.List.{map-append, length-append}
use Rattle.std.proofs.lemmas.List.Elements.{All-push}
use Rattle.std.proofs.lemmas.Option.{slice_get-get_or}
use Rattle.std.specs.Prelude.{slice_get}
use Rattle.std.specs.Option.{option_map, option_or}
use Rattle.coll_syntax.specs.Identifier.{same_name}
use Rattle.coll_elements.specs.NameMaps.{NamedNumber, number_named}
use Rattle.coll_elements.specs.RankedElements.{RankedElement, ranked_text, last_string}
use Rattle.coll_elements.specs.NamedElements.{kept_element, elements_in, string_at, AreNamed, IsKept, IsKeptWell}
use Rattle.coll_elements.specs.declared.named_elements.PlacedElement.{PlacedElement}
use Rattle.coll_elements.proofs.Tests.{by_test}

-- the string of the last element of a name, where there is one more
last_with : (xs : List RankedElement) (x : RankedElement) (name : List ℕ) → last_string (xs ++ x ∷ []) name ≡ cond (same_name name x.element.name) (Some (ranked_text x)) (last_string xs name)
last_with [] x name = refl
last_with (y ∷ xs) x name =
    ap (λ later. option_or later (cond (same_name name y.element.name) (Some (ranked_text y)) None)) (last_with xs x name)
    ∙ by (same_name name x.element.name) where
      by : (b : Bool) → option_or (cond b (Some (ranked_text x)) (last_string xs name)) (cond (same_name name y.element.name) (Some (ranked_text y)) None)
          ≡ cond b (Some (ranked_text x)) (last_string (y ∷ xs) name)
      by true = refl
      by false = refl

-- the string at a place stays
string_before : (kept : List PlacedElement) (element : PlacedElement) (place : Option ℕ) → ((n : ℕ) → place ≡ Some n → n < length kept) → string_at (kept ++ element ∷ []) place ≡ string_at kept place
string_before kept element None within = refl
string_before kept element (Some n) within = ap (λ e. option_map (λ (e : PlacedElement). e.text) e) (same_get kept n (within n refl)) where
  same_get : (xs : List PlacedElement) (i : ℕ) → i < length xs → slice_get (xs ++ element ∷ []) i ≡ slice_get xs i
  same_get [] i l = absurd (omega arith)
  same_get (x ∷ xs) i l =
      slice_get-get_or (x ∷ xs ++ element ∷ []) i x (omega (arith, length-append (x ∷ xs) (element ∷ [])))
      ∙ (ap Some (get_or-append (x ∷ xs) (element ∷ []) x i l) ∙ sym (slice_get-get_or (x ∷ xs) i x l))

-- one element more, found by its name
named_with : (kept : List PlacedElement) (places names : List NamedNumber) (element : PlacedElement) → AreNamed kept places → IsKeptWell element
    → ((name : List ℕ) → number_named names name ≡ cond (same_name name element.name) (Some (length kept)) (number_named places name)) → AreNamed (kept ++ element ∷ []) names
named_with kept places names element sound well put = record {
  each = All-push IsKeptWell kept element sound.each well;
  bounds = λ name place found.
      by_test (λ b. cond b (Some (length kept)) (number_named places name) ≡ Some place → place < length (kept ++ element ∷ [])) (same_name name element.name)
      (λ same e. let here : length kept ≡ place = (let h = e in cc) in omega (arith, count, here))
      (λ other e. omega (arith, count, sound.bounds name place e)) (sym (put name) ∙ found);
  named = λ name.
      ap (string_at (kept ++ element ∷ [])) (put name)
      ∙ (by_test (λ b. string_at (kept ++ element ∷ []) (cond b (Some (length kept)) (number_named places name)) ≡ cond b (Some element.text) (last_string (elements_in kept) name))
      (same_name name element.name)
      (λ same. ap (λ e. option_map (λ (e : PlacedElement). e.text) e) (slice_get-get_or (kept ++ element ∷ []) (length kept) element (omega (arith, count))
      ∙ ap Some (get_or-append_seam kept element [] element)))
      (λ other. string_before kept element (number_named places name) (λ n e. sound.bounds name n e) ∙ sound.named name)
      ∙ sym (ap (λ es. last_string es name) (map-append kept_element kept (element ∷ [])) ∙ last_with (elements_in kept) (kept_element element) name));
} where
  count : length (kept ++ element ∷ []) ≡ length kept + 1
  count = length-append kept (element ∷ [])

-- the same of an element that is put in as it was made
pub named_put : (kept all : List PlacedElement) (places names : List NamedNumber) (element : PlacedElement) (name text : List ℕ) (rank place : ℕ) → AreNamed kept places → IsKept name text rank element
    → 0 < length text → place ≡ length kept → ((other : List ℕ) → number_named names other ≡ cond (same_name other name) (Some place) (number_named places other)) → all ≡ kept ++ element ∷ []
    → AreNamed all names
named_put kept all places names element name text rank place sound made some counted put with =
    subst (λ (es : List PlacedElement). AreNamed es names) (sym with)
    (named_with kept places names element sound
    (record { length_is = made.length_is ∙ ap length (sym made.text_is); some = subst (λ (t : List ℕ). 0 < length t) (sym made.text_is) some })
    (λ other. put other ∙ ap₂ (λ (s : List ℕ) (n : ℕ). cond (same_name other s) (Some n) (number_named places other)) (sym made.name_is) counted))
