-- What characters weigh makes the keys of texts.
use Rattle.std.proofs.Common.{◌≡◌, ℕ, ◌<◌, true, List, [], ◌∷◌, ◌++◌, length, map, All, chars, refl, sym, ap, subst, ◌∙◌, append-nil, arith}
use Rattle.std.specs.List.{flat_map}
use Rattle.std.proofs.lemmas.List.Elements.{All-append, All-cons, All-nil}
use Rattle.coll_syntax.specs.declared.identifiers.Id.{Id}
use Rattle.coll_syntax.specs.declared.identifiers.Id.TheVariants.{Char}
use Rattle.coll_syntax.specs.declared.rules.Rule.{Rule}
use Rattle.coll_nodes.specs.Table.{Collation}
use Rattle.coll_elements.specs.Elements.{elements_of}
use Rattle.coll_ranks.specs.LevelWeights.{row_numbers}
use Rattle.coll_ranks.specs.RankLists.{WeightsValue}
use Rattle.coll_ranks.specs.WeightNumbers.{numbers_at}
use Rattle.coll_ranks.specs.declared.text_elements.ElementRow.{ElementRow}
use Rattle.coll_letters.specs.ElementMarks.{StandsAlone}
use Rattle.coll_words.specs.FirstKeys.{begins_plainly, packed_first_key}
use Rattle.coll_words.specs.LetterKeys.{BeginsWithKept, IsLetterKey}
use Rattle.coll_letters.specs.LetterWeights.{IsRowOf}
use Rattle.coll_word_lists.specs.PackedKeys.{packed_key}
use Rattle.coll_words.specs.declared.letter_keys.FirstKept.{FirstKept}
use Rattle.coll_words.specs.declared.letter_keys.LetterKey.{LetterKey}
use Rattle.coll_words.proofs.FirstLemmas.{element_packed, first_of_elements}
use Rattle.coll_letters.proofs.LetterLemmas.{letter_first}

-- a level that begins plainly is one
pub plain_level : (rules : List Rule) → begins_plainly rules ≡ true → 0 < length rules
plain_level [] plain = absurd cc
plain_level (rule ∷ rules) plain = omega arith

-- Characters.

-- a text begins with a character that stands alone
pub begins_kept : (table : Collation) (weights : WeightsValue) (text : List ℕ) (c : ℕ) (kept : LetterKey) (first : FirstKept) → 0 < length table.rules → text ≡ c ∷ chars first.rest.now
    → kept.letter ≡ c → first.number ≡ kept.number → first.row ≡ kept.row → IsLetterKey table weights kept → StandsAlone table c (chars first.rest.now)
    → BeginsWithKept table weights text first
begins_kept table weights text c kept first some is letter number row has alone = record {
  numbers = letter_first table weights c first.row text (chars first.rest.now) is alone
      (subst (λ (r : ElementRow). IsRowOf table weights c r) (sym row) (subst (λ (d : ℕ). IsRowOf table weights d kept.row) letter has.row)) 0 some;
  packed = λ above.
      ap (λ (r : ElementRow). packed_key (row_numbers weights 0 r)) row
      ∙ ap packed_key (has.row.numbers 0 some)
      ∙ (has.plain (omega (arith, above, number))).packed
      ∙ ap (λ (n : ℕ). n ∷ []) (sym number);
  shorter = omega (arith, ap length is);
}

-- a character that is kept with its number stands alone
pub plain_alone : (table : Collation) (weights : WeightsValue) (c : ℕ) (kept : LetterKey) (rest : List ℕ) → kept.letter ≡ c → IsLetterKey table weights kept → 0 < kept.number → StandsAlone table c rest
plain_alone table weights c kept rest letter is above = subst (λ (c : ℕ). StandsAlone table c rest) letter ((is.plain above).alone rest)

-- a number is that of its row
pub number_packed : (table : Collation) (weights : WeightsValue) (c number : ℕ) (row : ElementRow) (ns : List ℕ) → IsRowOf table weights c row → 0 < length table.rules → ns ≡ row_numbers weights 0 row
    → packed_key ns ≡ number ∷ [] → packed_key (numbers_at table 0 (Char c)) ≡ number ∷ []
number_packed table weights c number row ns is some numbers packed = ap packed_key (sym (numbers ∙ is.numbers 0 some)) ∙ packed

-- one more is kept
pub letters_more : (table : Collation) (weights : WeightsValue) (letters letters_now : List LetterKey) (kept : LetterKey) → letters_now ≡ letters ++ kept ∷ [] → IsLetterKey table weights kept
    → All (IsLetterKey table weights) letters → All (IsLetterKey table weights) letters_now
letters_more table weights letters letters_now kept with is all =
    let kept_so = IsLetterKey table weights in
    subst (All kept_so) (sym with) (All-append kept_so letters (kept ∷ []) all (All-cons kept_so kept [] is (All-nil kept_so)))

-- Texts.

joined : {P : Type 0} (f : P → List ℕ) (ps : List P) → flat_map f ps ≡ flat_map (λ (ns : List ℕ). ns) (map f ps)
joined f [] = refl
joined f (p ∷ ps) = ap (λ (l : List ℕ). f p ++ l) (joined f ps)

-- numbers element by element
pub numbers_by_lists : {P Q : Type 0} (f : P → List ℕ) (g : Q → List ℕ) (ps : List P) (qs : List Q) → map f ps ≡ map g qs → flat_map f ps ≡ flat_map g qs
numbers_by_lists f g ps qs same = joined f ps ∙ ap (flat_map (λ (ns : List ℕ). ns)) same ∙ sym (joined g qs)

-- the numbers of the first element are put
pub first_put : (f : Id → List ℕ) (ids later : List Id) (ns old now : List ℕ) → map f ids ≡ ns ∷ map f later → now ≡ old ++ packed_key ns
    → old ++ packed_key (flat_map f ids) ≡ now ++ packed_key (flat_map f later)
first_put f ids later ns old now begins put =
    ap (λ (l : List ℕ). old ++ packed_key l) (joined f ids ∙ ap (flat_map (λ (l : List ℕ). l)) begins)
    ∙ element_packed (λ (l : List ℕ). l) (ns ∷ map f later) (map f later) ns ns old now refl refl put
    ∙ ap (λ (l : List ℕ). now ++ packed_key l) (sym (joined f later))

no_elements : (table : Collation) → elements_of table [] ≡ []
unfolding elements_of
no_elements table = refl

module _ (table : Collation) (plain : begins_plainly table.rules ≡ true) (keys first now : List ℕ) (text left : List ℕ) (first_is : first ≡ keys) where
  abbrev numbers_of : List ℕ → List ℕ
  numbers_of text = flat_map (numbers_at table 0) (elements_of table text)

  -- what is put behind keys, with the numbers of what is left
  pub letters_left : first ++ packed_key (numbers_of text) ≡ now ++ packed_key (numbers_of left) → now ++ packed_key (numbers_of left) ≡ keys ++ packed_first_key table text
  letters_left same =
      sym same ∙ ap (λ (l : List ℕ). l ++ packed_key (numbers_of text)) first_is ∙ ap (λ (l : List ℕ). keys ++ packed_key l) (first_of_elements table text plain)

  -- and where nothing is left
  pub letters_done : first ++ packed_key (numbers_of text) ≡ now ++ packed_key (numbers_of left) → left ≡ [] → now ≡ keys ++ packed_first_key table text
  letters_done same none =
      sym
      (ap (λ (l : List ℕ). now ++ packed_key (numbers_of l)) none
      ∙ ap (λ (ids : List Id). now ++ packed_key (flat_map (numbers_at table 0) ids)) (no_elements table)
      ∙ append-nil now)
      ∙ letters_left same
