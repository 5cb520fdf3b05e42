-- Words that are sorted by their keys are sorted by each table that they are keyed by.
use Rattle.std.proofs.Common.{◌≡◌, ℕ, ◌+◌, ◌<◌, ◌&&◌, not, Bool, cond, List, [], ◌∷◌, length, get_or, refl, sym, ap, ◌∙◌, arith}
use Rattle.std.specs.List.{filter}
use Rattle.std.specs.List.Sorted.{IsPermutation, IsSortedBy, IsSorted, IsStableBy, ties}
use Rattle.std.specs.Ordering.{is_lt}
use Rattle.std.proofs.lemmas.List.{length-map, get_or-map}
use Rattle.std.proofs.lemmas.List.Sorted.{All-permutation, IsPermutation-map}
use Rattle.coll_nodes.specs.Table.{Collation}
use Rattle.coll_nodes.specs.WellFormed.{IsWellFormed}
use Rattle.coll_elements.proofs.Tests.{by_test}
use Rattle.coll_key.specs.SortKey.{key_of}
use Rattle.coll_key.specs.TextOrder.{list_order, order_of}
use Rattle.coll_key.proofs.KeyOrder.{keys_in_order, All-first, All-others}
use Rattle.coll_word_lists.specs.KeyedWords.{KeyedWord, IsKeyed, AreKeyed, has_less_key, texts_of}
use Rattle.coll_word_lists.specs.PackedKeys.{packed_key}
use Rattle.coll_word_lists.specs.SortRuns.{SortsWords}
use Rattle.coll_word_lists.specs.SortedWords.{AreSorted}
use Rattle.coll_word_lists.proofs.PackedOrder.{packed_in_order}

-- words stay keyed in another order
pub keyed_still : (old new : List KeyedWord) → IsPermutation old new → (table : Collation) → AreKeyed table old → AreKeyed table new
keyed_still old new same table keyed = All-permutation (IsKeyed table) old new same keyed

module _ (table : Collation) (well : IsWellFormed table) where
  -- a text is less
  abbrev is_less : List ℕ → List ℕ → Bool
  is_less text other = is_lt (order_of table text other)

  -- a text as a word
  abbrev keyed : List ℕ → KeyedWord
  keyed text = record { text = text; key = packed_key (key_of table text) }

  -- the keys of words are ordered as the words
  pub keys_order : (word other : KeyedWord) → IsKeyed table word → IsKeyed table other → list_order word.key other.key ≡ order_of table word.text other.text
  keys_order word other is other_is =
      ap (λ key. list_order key other.key) is ∙ ap (list_order (packed_key (key_of table word.text))) other_is
      ∙ packed_in_order (key_of table word.text) (key_of table other.text)
      ∙ keys_in_order table well word.text other.text

  -- words that tie by their keys are equal
  ties_alike : (word other : KeyedWord) → IsKeyed table word → IsKeyed table other → ties has_less_key word other ≡ ties is_less word.text other.text
  ties_alike word other is other_is =
      ap (λ o. not (is_lt o) && not (has_less_key other word)) (keys_order word other is other_is)
      ∙ ap (λ o. not (is_less word.text other.text) && not (is_lt o)) (keys_order other word other_is is)

  -- those that tie with a text
  tied : (text : List ℕ) (words : List KeyedWord) → AreKeyed table words → filter (ties is_less text) (texts_of words) ≡ texts_of (filter (ties has_less_key (keyed text)) words)
  tied text [] all = refl
  tied text (word ∷ words) all =
      ap (λ b. cond b (word.text ∷ filter (ties is_less text) (texts_of words)) (filter (ties is_less text) (texts_of words)))
      (sym (ties_alike (keyed text) word refl (All-first (IsKeyed table) word words all)))
      ∙ by_test
      (λ b. cond b (word.text ∷ filter (ties is_less text) (texts_of words)) (filter (ties is_less text) (texts_of words))
      ≡ texts_of (cond b (word ∷ filter (ties has_less_key (keyed text)) words) (filter (ties has_less_key (keyed text)) words)))
      (ties has_less_key (keyed text) word)
      (λ on. ap (λ texts. word.text ∷ texts) (tied text words (All-others (IsKeyed table) word words all)))
      (λ off. tied text words (All-others (IsKeyed table) word words all))

  -- no text is less than the one before it
  texts_ordered : (words : List KeyedWord) → AreKeyed table words → IsSortedBy has_less_key words → IsSorted (order_of table) (texts_of words)
  texts_ordered words all sorted = λ k d low high.
      let none : KeyedWord = keyed [] in
      let within : k + 1 < length words = omega (arith, high, length-map words (λ (word : KeyedWord). word.text)) in
      let first = get_or-map (λ (word : KeyedWord). word.text) words k none d (omega arith) in
      let second = get_or-map (λ (word : KeyedWord). word.text) words (k + 1) none d within in
      ap (λ text. is_less text (get_or (texts_of words) k d)) second
      ∙ ap (λ text. is_less (get_or words (k + 1) none).text text) first
      ∙ sym (ap is_lt (keys_order (get_or words (k + 1) none) (get_or words k none) (all (k + 1) none within) (all k none (omega arith))))
      ∙ sorted k none low within

  -- words are sorted by the table
  pub sorted_texts : (old new : List KeyedWord) → AreKeyed table old → IsPermutation old new → IsSortedBy has_less_key new → IsStableBy has_less_key old new
      → AreSorted table (texts_of old) (texts_of new)
  sorted_texts old new all same sorted stable =
      let all_new = keyed_still old new same table all in
      record {
        same = IsPermutation-map (λ word. word.text) old new same;
        ordered = texts_ordered new all_new sorted;
        stable = λ text. tied text new all_new ∙ ap texts_of (stable (keyed text)) ∙ sym (tied text old all);
      }

-- words that were sorted by their keys
pub sorts_words : (old new : List KeyedWord) → IsPermutation old new → IsSortedBy has_less_key new → IsStableBy has_less_key old new → SortsWords old (texts_of new)
sorts_words old new same sorted stable = λ table well all. sorted_texts table well old new all same sorted stable
