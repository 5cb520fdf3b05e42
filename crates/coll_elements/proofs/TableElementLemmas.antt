-- The elements of declarations that have a rank are the placed ones of the table.
use Rattle.std.proofs.Common.{◌≡◌, ◌<◌, ◌≤◌, All, ℕ, suc, ◌+◌, Bool, true, false, cond, List, [], ◌∷◌, ◌++◌, length, map, Option}
use Rattle.std.proofs.Common.{Some, None, is_some, sym, ap, ap₂, ◌∙◌, refl, arith, append_assoc, length-append}
use Rattle.std.specs.Prelude.{◌||◌}
use Rattle.std.specs.List.{flat_map}
use Rattle.std.specs.Option.{option_or, option_map, unwrap_or}
use Rattle.std.proofs.lemmas.List.Elements.{All-head, All-tail, All-nil, All-cons}
use Rattle.coll_syntax.specs.Identifier.{same_id, has_id}
use Rattle.coll_syntax.specs.Proper.{IsElementText}
use Rattle.coll_syntax.specs.declared.identifiers.Id.{Id}
use Rattle.coll_syntax.specs.declared.identifiers.Id.TheVariants.{Named}
use Rattle.coll_lookups.specs.NamePlaces.{NamePlacesValue, place_named}
use Rattle.coll_nodes.specs.Placement.{place_among}
use Rattle.coll_nodes.specs.Table.{Collation, entries_of, ids_of, texts_of}
use Rattle.coll_nodes.specs.declared.declarations.Declaration.{Declaration}
use Rattle.coll_nodes.specs.declared.declarations.Declaration.TheVariants as declaration
use Rattle.coll_nodes.specs.declared.entries.Entry.{Entry}
use Rattle.coll_elements.specs.Elements.{element_placed}
use Rattle.coll_elements.specs.Rank.{known_rank}
use Rattle.coll_elements.specs.RankedElements.{RankedElement, ranked_in}
use Rattle.coll_elements.specs.TableElements.{AreNameRanksOf, ranked_if_any, ranked_declared, HasString}

-- what there is comes before nothing
pub or_none : {X : Type 0} (a : Option X) → option_or a None ≡ a
or_none None = refl
or_none (Some x) = refl

-- what is there has a place
pub has_place : (entries : List Entry) (id : Id) → has_id (ids_of entries) id ≡ is_some (place_among entries id)
has_place [] id = refl
has_place (entry ∷ entries) id = ap (λ b. same_id id entry.id || b) (has_place entries id) ∙ by (same_id id entry.id) (place_among entries id) where
  by : (b : Bool) (p : Option ℕ) → (b || is_some p) ≡ is_some (cond b (Some 1) (option_map (λ place. suc place) p))
  by true p = refl
  by false None = refl
  by false (Some n) = refl

-- the ranked elements of declarations are those placed, with their ranks
pub elements_ranked : (table : Collation) (places : NamePlacesValue) (declared : List Declaration) → AreNameRanksOf places table → flat_map (ranked_declared (place_named places)) declared
    ≡ map (ranked_in table) (flat_map (element_placed table) declared)
elements_ranked table places [] are = refl
elements_ranked table places (declaration.Symbol name ∷ declared) are = elements_ranked table places declared are
elements_ranked table places (declaration.Equivalence name symbol ∷ declared) are = elements_ranked table places declared are
elements_ranked table places (declaration.Element name text ∷ declared) are =
    ap₂ (λ (r : Option ℕ) (later : List RankedElement). ranked_if_any name text r ++ later) (are name ∙ or_none (place_among (entries_of table) (Named name)))
    (elements_ranked table places declared are)
    ∙ (by (place_among (entries_of table) (Named name)) refl ∙ ap (λ b. map (ranked_in table) (cond b (record { name = name; text = text } ∷ []) [] ++ flat_map (element_placed table) declared))
    (sym (has_place (entries_of table) (Named name)))) where
      by : (p : Option ℕ) → place_among (entries_of table) (Named name) ≡ p → ranked_if_any name text p ++ map (ranked_in table) (flat_map (element_placed table) declared)
          ≡ map (ranked_in table) (cond (is_some p) (record { name = name; text = text } ∷ []) [] ++ flat_map (element_placed table) declared)
      by None e = refl
      by (Some rank) e =
          let known : known_rank table (Named name) ≡ rank = ap (λ p. unwrap_or (option_or p None) 0) e in
          ap (λ r. record { element = record { name = name; text = text }; rank = r } ∷ map (ranked_in table) (flat_map (element_placed table) declared)) (sym known)

-- what is put in, and what is left
pub put_more : (all with whole : List RankedElement) (rank : List ℕ → Option ℕ) (left later : List Declaration) (item : Declaration) → left ≡ item ∷ later → with ≡ all ++ ranked_declared rank item
    → all ++ flat_map (ranked_declared rank) left ≡ whole → with ++ flat_map (ranked_declared rank) later ≡ whole
put_more all with whole rank left later item first put is =
    ap (λ es. es ++ flat_map (ranked_declared rank) later) put
    ∙ (append_assoc all (ranked_declared rank item) (flat_map (ranked_declared rank) later) ∙ (ap (λ ds. all ++ flat_map (ranked_declared rank) ds) (sym first) ∙ is))

-- a declaration is at most one element
one_at_most : (rank : List ℕ → Option ℕ) (item : Declaration) → length (ranked_declared rank item) ≤ 1
one_at_most rank (declaration.Symbol name) = omega arith
one_at_most rank (declaration.Equivalence name symbol) = omega arith
one_at_most rank (declaration.Element name text) = by (rank name) where
  by : (r : Option ℕ) → length (ranked_if_any name text r) ≤ 1
  by None = omega arith
  by (Some place) = omega arith

pub few_more : (all with : List RankedElement) (rank : List ℕ → Option ℕ) (left later : List Declaration) (item : Declaration) → left ≡ item ∷ later → with ≡ all ++ ranked_declared rank item
    → length all + length left < 1_000_000 → length with + length later < 1_000_000
few_more all with rank left later item first put few =
    let one = one_at_most rank item in
    let counted : length with ≡ length all + length (ranked_declared rank item) = ap length put ∙ length-append all (ranked_declared rank item) in
    let fewer : length left ≡ suc (length later) = ap length first in
    omega arith

-- the strings of elements have characters
pub have_strings : (declared : List Declaration) → All IsElementText (texts_of declared) → All HasString declared
have_strings [] h = All-nil HasString
have_strings (declaration.Symbol name ∷ declared) h = All-cons HasString (declaration.Symbol name) declared tt (have_strings declared h)
have_strings (declaration.Equivalence name symbol ∷ declared) h = All-cons HasString (declaration.Equivalence name symbol) declared tt (have_strings declared h)
have_strings (declaration.Element name text ∷ declared) h =
    let two : 2 ≤ length text = (All-head IsElementText text (texts_of declared) h).0 in
    let some : 0 < length text = omega arith in
    All-cons HasString (declaration.Element name text) declared some (have_strings declared (All-tail IsElementText text (texts_of declared) h))
