-- Numbers by name: what a look-up by bytes finds, and what one more name does.
use Rattle.std.proofs.Common.{◌≡◌, ℕ, Bool, true, false, cond, List, [], ◌∷◌, Option, Some, None, sym, ap, subst, ⊎_elim, ◌∙◌, refl}
use Rattle.std.specs.Prelude.{chars, string_bytes, encode_utf8_all, MatchOption}
use Rattle.std.specs.Str.{bytes_eq, IsUtf8}
use Rattle.std.specs.Map.{lookup, set_value, KeepsOthers}
use Rattle.std.specs.List.Sorted.{IsPermutation}
use Rattle.std.specs.declared.string.String.{String}
use Rattle.std.proofs.ByRecursion.{all_shuffled}
use Rattle.std.proofs.lemmas.Bool.{false≢true}
use Rattle.std.proofs.lemmas.Map.Text.{hash_map_text_after}
use Rattle.std.proofs.lemmas.Str.{encodes-chars}
use Rattle.coll_order.proofs.Sameness.{by_test}
use Rattle.coll_syntax.proofs.Spellings.{same_spelling}
use Rattle.coll_syntax.specs.Identifier.{same_name}
use Rattle.coll_lookups.proofs.Sameness.{same_name_decides}
use Rattle.coll_lookups.specs.IdSets.{characters_of}
use Rattle.coll_elements.specs.NameMaps.{named_numbers, number_named, AreKeys, IsText}

module _ {Y : Type 0} where
  -- a key has these bytes
  abbrev has_bytes : List ℕ → String Y → Bool
  has_bytes bytes text = bytes_eq bytes (string_bytes text)

  -- a name is found by its bytes
  found_spelled : (name bytes : List ℕ) (es : List (String Y × ℕ)) → encode_utf8_all name ≡ bytes → chars bytes ≡ name → AreKeys IsText es → number_named (named_numbers es) name ≡ lookup (has_bytes bytes) es
  found_spelled name bytes [] p q h = refl
  found_spelled name bytes (e ∷ es) p q h =
      let here : same_name name (characters_of e.0) ≡ has_bytes bytes e.0 =
      ap (λ n. same_name n (characters_of e.0)) (sym q) ∙ same_spelling bytes (string_bytes e.0) (ap encode_utf8_all q ∙ p) h.0 in
      ap (λ b. cond b (Some e.1) (number_named (named_numbers es) name)) here
      ∙ ap (λ later. cond (has_bytes bytes e.0) (Some e.1) later) (found_spelled name bytes es p q h.1)

  pub found_name : (name : List ℕ) (es : List (String Y × ℕ)) → IsUtf8 name → AreKeys IsText es → number_named (named_numbers es) (chars name) ≡ lookup (λ k. bytes_eq name (string_bytes k)) es
  found_name name es u h = found_spelled (chars name) name es (encodes-chars name u) refl h

  -- a text has no name that isn't read back from its bytes
  not_read_back : (name : List ℕ) (text : String Y) → IsText text → same_name (chars (encode_utf8_all name)) name ≡ false → same_name name (characters_of text) ≡ false
  not_read_back name text h lost =
      by_test (λ b. same_name name (characters_of text) ≡ b → b ≡ false) (same_name name (characters_of text))
      (λ on t.
      let same : name ≡ characters_of text = (same_name_decides name (characters_of text)).0 t in
      let read : chars (encode_utf8_all name) ≡ name = ap (λ n. chars (encode_utf8_all n)) same ∙ (ap chars h ∙ sym same) in
      absurd (false≢true (sym lost ∙ (same_name_decides (chars (encode_utf8_all name)) name).1 read)))
      (λ off t. refl) refl

  -- so no number is found for it
  not_found : (name : List ℕ) (es : List (String Y × ℕ)) → AreKeys IsText es → same_name (chars (encode_utf8_all name)) name ≡ false → number_named (named_numbers es) name ≡ None
  not_found name [] h lost = refl
  not_found name (e ∷ es) h lost =
      ap (λ b. cond b (Some e.1) (number_named (named_numbers es) name)) (not_read_back name e.0 h.0 lost) ∙ not_found name es h.1 lost

  -- two texts have the same bytes
  abbrev same_text : String Y → String Y → Bool
  same_text a b = bytes_eq (string_bytes a) (string_bytes b)

  -- a name that is put in has its number, and all others have theirs
  pub set_number : (old new : List (String Y × ℕ)) (text : String Y) (number : ℕ) → AreKeys IsText old → AreKeys IsText new → IsText text → lookup (same_text text) new ≡ Some number
      → KeepsOthers same_text (same_text text) old new → (other : List ℕ)
      → number_named (named_numbers new) other ≡ cond (same_name other (characters_of text)) (Some number) (number_named (named_numbers old) other)
  set_number old new text number h k g there kept other = by_test
      (λ b. same_name (chars (encode_utf8_all other)) other ≡ b → number_named (named_numbers new) other ≡ cond (same_name other (characters_of text)) (Some number) (number_named (named_numbers old) other))
      (same_name (chars (encode_utf8_all other)) other)
      (λ on t.
      let bytes = encode_utf8_all other in
      let read : chars bytes ≡ other = (same_name_decides (chars bytes) other).0 t in
      let same : same_name other (characters_of text) ≡ bytes_eq bytes (string_bytes text) =
      ap (λ n. same_name n (characters_of text)) (sym read) ∙ same_spelling bytes (string_bytes text) (ap encode_utf8_all read) g in
      found_spelled other bytes new refl read k
      ∙ (⊎_elim
      (λ is. is.3 ∙ (there ∙ sym (ap (λ b. cond b (Some number) (number_named (named_numbers old) other)) (same ∙ is.0))))
      (λ isnt. isnt.3 ∙ (sym (found_spelled other bytes old refl read h) ∙ sym (ap (λ b. cond b (Some number) (number_named (named_numbers old) other)) (same ∙ isnt.0))))
      (hash_map_text_after text bytes old new kept).2))
      (λ off t. not_found other new k t
      ∙ (sym (not_found other old h t) ∙ sym (ap (λ b. cond b (Some number) (number_named (named_numbers old) other)) (not_read_back other text g t)))) refl

  -- values are changed, and the keys stay texts
  texts_stay : (test : String Y → Bool) (es : List (String Y × ℕ)) (number : ℕ) → AreKeys IsText es → AreKeys IsText (set_value test es number)
  texts_stay test [] number h = h
  texts_stay test (e ∷ es) number h = by (test e.0) (texts_stay test es number h.1) where
    by : (b : Bool) → AreKeys IsText (set_value test es number) → AreKeys IsText (cond b ((e.0, number) ∷ es) (e ∷ set_value test es number))
    by true later = h
    by false later = (h.0, later)

  -- and all keys are texts
  pub set_texts : (led : Option ℕ) (old new : List (String Y × ℕ)) (text : String Y) (number : ℕ)
      → MatchOption led (IsPermutation ((text, number) ∷ old) new) (λ _. new ≡ set_value (same_text text) old number) → AreKeys IsText old → IsText text → AreKeys IsText new
  set_texts None old new text number put h g = all_shuffled (λ e. IsText e.0) ((text, number) ∷ old) new put (g, h)
  set_texts (Some led) old new text number put h g = subst (AreKeys IsText) (sym put) (texts_stay (same_text text) old number h)
