-- Names in a set: what is found there, and what one more does.
use Rattle.std.proofs.Common.{◌≡◌, ℕ, Bool, true, false, ◌||◌, not, List, [], ◌∷◌, sym, ap, subst, ◌∙◌, refl}
use Rattle.std.specs.Prelude.{chars, string_bytes, encode_utf8_all}
use Rattle.std.specs.Str.{bytes_eq}
use Rattle.std.specs.List.{list_any}
use Rattle.std.specs.declared.string.String.{String}
use Rattle.std.proofs.lemmas.Bool.{false≢true}
use Rattle.std.proofs.lemmas.List.Sorted.{list_any-IsPermutation, IsPermutation-map}
use Rattle.std.proofs.ByRecursion.{all_shuffled}
use Rattle.std.specs.Bool.{MatchBool}
use Rattle.std.specs.List.Sorted.{IsPermutation}
use Rattle.coll_syntax.proofs.Spellings.{same_spelling}
use Rattle.coll_syntax.specs.Identifier.{same_name, has_name}
use Rattle.coll_lookups.proofs.Sameness.{same_name_decides}
use Rattle.coll_lookups.specs.IdSets.{characters_of, all_characters_of, AddsName, AreTexts, IsText}

-- a name that is there is no other name, and is found still
there_still : (names : List (List ℕ)) (name other : List ℕ) → has_name names name ≡ true → has_name names other ≡ (same_name other name || has_name names other)
there_still names name other there = by (same_name other name) refl where
  by : (s : Bool) → same_name other name ≡ s → has_name names other ≡ (s || has_name names other)
  by true q = ap (has_name names) ((same_name_decides other name).0 q) ∙ there
  by false q = refl

module _ {Y : Type 0} where
  -- a text is found by its bytes where its characters are found
  pub found_name : (texts : List (String Y)) (name bytes : List ℕ) → encode_utf8_all name ≡ bytes → chars bytes ≡ name → AreTexts texts → list_any (λ text. bytes_eq bytes (string_bytes text)) texts
      ≡ has_name (all_characters_of texts) name
  found_name [] name bytes p q h = refl
  found_name (text ∷ texts) name bytes p q h =
      let here : bytes_eq bytes (string_bytes text) ≡ same_name name (characters_of text) =
      sym (same_spelling bytes (string_bytes text) (ap encode_utf8_all q ∙ p) h.0) ∙ ap (λ n. same_name n (characters_of text)) q in
      let there = found_name texts name bytes p q h.1 in
      ap (λ b. b || list_any (λ t. bytes_eq bytes (string_bytes t)) texts) here ∙ ap (λ b. same_name name (characters_of text) || b) there

  -- the texts stay texts where one more is put in
  pub put_are : (free : Bool) (old new : List (String Y)) (text : String Y) → MatchBool free (IsPermutation (text ∷ old) new) (new ≡ old) → AreTexts old → IsText text → AreTexts new
  put_are true old new text put h t = all_shuffled IsText (text ∷ old) new put (t, h)
  put_are false old new text same h t = subst AreTexts (sym same) h

  -- and then their names have one name more
  pub put_adds : (free : Bool) (old new : List (String Y)) (text : String Y) (name : List ℕ) → MatchBool free (IsPermutation (text ∷ old) new) (new ≡ old) → characters_of text ≡ name
      → free ≡ not (has_name (all_characters_of old) name) → AddsName (all_characters_of old) (all_characters_of new) name
  put_adds true old new text name put q e other =
      sym (list_any-IsPermutation (same_name other) (all_characters_of (text ∷ old)) (all_characters_of new) (IsPermutation-map characters_of (text ∷ old) new put))
      ∙ ap (λ n. same_name other n || has_name (all_characters_of old) other) q
  put_adds false old new text name same q e other =
      ap (λ texts. has_name (all_characters_of texts) other) same ∙ there_still (all_characters_of old) name other (there (has_name (all_characters_of old) name) e) where
        there : (b : Bool) → false ≡ not b → b ≡ true
        there true e = refl
        there false e = absurd (false≢true e)
