-- Words with their lines are sorted by their keys, and then kept without these, member by member.
use Rattle.std.proofs.Common.{◌≡◌, ℕ, suc, ◌+◌, ◌<◌, ◌≤◌, Bool, List, [], ◌∷◌, ◌++◌, length, map, take, get_or, refl, sym, ap, ◌∙◌, arith}
use Rattle.std.specs.List.Sorted.{IsSortedBy, IsSorted}
use Rattle.std.specs.Ordering.{is_lt, nat_cmp, ordering_then}
use Rattle.std.proofs.lemmas.List.{length-map, map-append, get_or-map, take_more, take_all}
use Rattle.coll_nodes.specs.Table.{Collation}
use Rattle.coll_nodes.specs.WellFormed.{IsWellFormed}
use Rattle.coll_key.specs.TextOrder.{list_order}
use Rattle.coll_reviews.specs.KeptWords.{AreLinesByKeys, keyed_line}
use Rattle.coll_word_lists.specs.KeyedWords.{KeyedWord, texts_of}
use Rattle.coll_word_lists.specs.Neighbours.{NumberedWord}
use Rattle.coll_word_lists.specs.NumberedWords.{line_order, numbered_from}
use Rattle.coll_reviews.specs.declared.numbered_words.KeyedLine.{KeyedLine}
use Rattle.coll_word_lists.proofs.SortedLemmas.{keys_order}

-- Sorted by keys.

-- by its key, or where that is the same by its line, a word comes first
abbrev pub has_less_line : KeyedLine → KeyedLine → Bool
has_less_line keyed other = is_lt (ordering_then (list_order keyed.word.key other.word.key) (nat_cmp keyed.line other.line))

-- words that are sorted by the keys of a table are sorted by it
pub lines_in_order : (table : Collation) → IsWellFormed table → (list : List KeyedLine) → AreLinesByKeys table list → IsSortedBy has_less_line list
    → IsSorted (line_order table) (map keyed_line list)
lines_in_order table well list keyed sorted = λ k d low high.
    let long = length-map list keyed_line in
    let none : KeyedLine = get_or list k (get_or list k (from_number d)) in
    let first = get_or-map keyed_line list k none d (omega (arith, high, long)) in
    let second = get_or-map keyed_line list (k + 1) none d (omega (arith, high, long)) in
    ap (λ (word : NumberedWord). is_lt (line_order table word (get_or (map keyed_line list) k d))) second
    ∙ ap (λ (word : NumberedWord). is_lt (line_order table (keyed_line (get_or list (k + 1) none)) word)) first
    ∙ sym (ap (λ o. is_lt (ordering_then o (nat_cmp (get_or list (k + 1) none).line (get_or list k none).line)))
    (keys_order table well (get_or list (k + 1) none).word (get_or list k none).word (keyed (k + 1) none (omega (arith, high, long))) (keyed k none (omega (arith, high, long)))))
    ∙ sorted k none low (omega (arith, high, long))
  where
    from_number : NumberedWord → KeyedLine
    from_number word = record { line = word.line; word = record { text = word.text; key = [] } }

-- Numbered one after another.

numbered_behind : (n : ℕ) (words : List (List ℕ)) (word : List ℕ) → numbered_from n (words ++ word ∷ []) ≡ numbered_from n words ++ record { line = n + length words; text = word } ∷ []
numbered_behind n [] word = ap (λ (line : ℕ). record { line = line; text = word } ∷ []) (plus_none n)
  where
    plus_none : (n : ℕ) → n ≡ n + 0
    plus_none n = omega arith
numbered_behind n (first ∷ words) word =
    ap (λ (l : List NumberedWord). record { line = n; text = first } ∷ l) (numbered_behind (suc n) words word
    ∙ ap (λ (line : ℕ). numbered_from (suc n) words ++ record { line = line; text = word } ∷ []) (shifted n (length words)))
  where
    shifted : (n k : ℕ) → suc n + k ≡ n + suc k
    shifted n k = omega arith

pub same_words : {X : Type 0} (words : List X) → map (λ (word : X). word) words ≡ words
same_words [] = refl
same_words (word ∷ words) = ap (λ l. word ∷ l) (same_words words)

-- of these words so many are numbered
pub record NumberedSoFar (words : List KeyedWord) (list : List KeyedLine) : Type 0 where
  pub lines : map keyed_line list ≡ numbered_from 1 (texts_of words)
  pub words_are : map (λ (keyed : KeyedLine). keyed.word) list ≡ words

module _ (words : List KeyedWord) (list : List KeyedLine) (so_far : NumberedSoFar words list) where
  pub as_many_numbered : length list ≡ length words
  as_many_numbered = omega (arith, length-map list (λ (keyed : KeyedLine). keyed.word), ap length so_far.words_are)

  -- one word more
  pub one_more_numbered : (word : KeyedWord) (line : ℕ) → line ≡ length list + 1 → NumberedSoFar (words ++ word ∷ []) (list ++ record { line = line; word = word } ∷ [])
  one_more_numbered word line is =
      let keyed : KeyedLine = record { line = line; word = word } in
      let number : line ≡ 1 + length (texts_of words) = omega (arith, is, as_many_numbered, length-map words (λ (word : KeyedWord). word.text)) in
      record {
        lines =
            map-append keyed_line list (keyed ∷ [])
            ∙ ap (λ (l : List NumberedWord). l ++ keyed_line keyed ∷ []) so_far.lines
            ∙ ap (λ (n : ℕ). numbered_from 1 (texts_of words) ++ record { line = n; text = word.text } ∷ []) number
            ∙ sym (numbered_behind 1 (texts_of words) word.text)
            ∙ ap (numbered_from 1) (sym (map-append (λ (word : KeyedWord). word.text) words (word ∷ [])));
        words_are = map-append (λ (keyed : KeyedLine). keyed.word) list (keyed ∷ []) ∙ ap (λ (l : List KeyedWord). l ++ word ∷ []) so_far.words_are;
      }

-- Members that read alike.

module _ {X Y Z : Type 0} (f : X → Z) (g : Y → Z) where
  -- one member more reads as that of another list
  pub one_more_alike : (xs with : List X) (x : X) (ys : List Y) (i : ℕ) (d : Y) → i < length ys → map f xs ≡ map g (take i ys) → with ≡ xs ++ x ∷ [] → f x ≡ g (get_or ys i d)
      → map f with ≡ map g (take (i + 1) ys)
  one_more_alike xs with x ys i d within so_far is same =
      ap (map f) is
      ∙ map-append f xs (x ∷ [])
      ∙ ap (λ (l : List Z). l ++ f x ∷ []) so_far
      ∙ ap (λ (z : Z). map g (take i ys) ++ z ∷ []) same
      ∙ sym (ap (map g) (take_more ys i d within) ∙ map-append g (take i ys) (get_or ys i d ∷ []))

  -- all do
  pub all_alike : (xs : List X) (ys : List Y) (i : ℕ) → length ys ≤ i → map f xs ≡ map g (take i ys) → map f xs ≡ map g ys
  all_alike xs ys i all so_far = so_far ∙ ap (map g) (take_all i ys all)
