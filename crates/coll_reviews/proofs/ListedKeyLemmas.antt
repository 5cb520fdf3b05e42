-- Words of a list that are sorted by keys beside them.
use Rattle.std.proofs.Common.{◌≡◌, ◌+◌, Bool, List, [], ◌∷◌, ◌++◌, length, map, get_or, sym, ap, subst, ◌∙◌, arith}
use Rattle.std.specs.List.Sorted.{IsPermutation, IsSortedBy}
use Rattle.std.specs.Ordering.{is_lt, nat_cmp, ordering_then}
use Rattle.std.proofs.lemmas.List.{length-map, get_or-map}
use Rattle.std.proofs.lemmas.List.Elements.{All-append, All-cons, All-nil}
use Rattle.std.proofs.lemmas.List.Sorted.{IsPermutation-map}
use Rattle.coll_nodes.specs.Table.{Collation}
use Rattle.coll_nodes.specs.WellFormed.{IsWellFormed}
use Rattle.coll_key.specs.TextOrder.{list_order}
use Rattle.coll_word_lists.specs.KeyedWords.{KeyedWord}
use Rattle.coll_reviews.specs.ListedKeys.{HasKey, HaveKeys, word_of}
use Rattle.coll_reviews.specs.ListedWords.{all_numbered, numbered_of}
use Rattle.coll_reviews.specs.MovedWords.{StandInOrder}
use Rattle.coll_word_lists.specs.Neighbours.{NumberedWord}
use Rattle.coll_word_lists.specs.NumberedWords.{line_order}
use Rattle.coll_reviews.specs.declared.listed_keys.KeyedListed.{KeyedListed}
use Rattle.coll_reviews.specs.declared.listed_words.ListedWord.{ListedWord}
use Rattle.coll_word_lists.proofs.SortedLemmas.{keys_order}

-- by its key, or where that is the same by its line, a word comes first
abbrev pub comes_by_key : KeyedListed → KeyedListed → Bool
comes_by_key one other = is_lt (ordering_then (list_order one.key.key other.key.key) (nat_cmp one.listed.line other.listed.line))

-- a word with the key beside it
abbrev with_key : KeyedListed → KeyedWord
with_key keyed = record { text = (numbered_of keyed.listed).text; key = keyed.key.key }

-- words that are sorted by the keys of a table are sorted by it
keyed_in_order : (table : Collation) → IsWellFormed table → (list : List KeyedListed) (none : KeyedListed) → HaveKeys table list → IsSortedBy comes_by_key list
    → StandInOrder table (map word_of list)
keyed_in_order table well list none keyed sorted = λ k d low high.
    let words = map word_of list in
    let long : length (all_numbered words) ≡ length list = length-map words numbered_of ∙ length-map list word_of in
    let listed : length words ≡ length list = length-map list word_of in
    let first : get_or (all_numbered words) k d ≡ numbered_of (get_or list k none).listed =
    get_or-map numbered_of words k none.listed d (omega (arith, high, long, listed)) ∙ ap numbered_of (get_or-map word_of list k none none.listed (omega (arith, high, long))) in
    let second : get_or (all_numbered words) (k + 1) d ≡ numbered_of (get_or list (k + 1) none).listed =
    get_or-map numbered_of words (k + 1) none.listed d (omega (arith, high, long, listed)) ∙ ap numbered_of (get_or-map word_of list (k + 1) none none.listed (omega (arith, high, long))) in
    ap (λ (word : NumberedWord). is_lt (line_order table word (get_or (all_numbered words) k d))) second
    ∙ ap (λ (word : NumberedWord). is_lt (line_order table (numbered_of (get_or list (k + 1) none).listed) word)) first
    ∙ sym (ap (λ o. is_lt (ordering_then o (nat_cmp (get_or list (k + 1) none).listed.line (get_or list k none).listed.line)))
    (keys_order table well (with_key (get_or list (k + 1) none)) (with_key (get_or list k none)) (keyed (k + 1) none (omega (arith, high, long))) (keyed k none (omega (arith, high, long)))))
    ∙ sorted k none low (omega (arith, high, long))

pub sorted_by_keys : (table : Collation) → IsWellFormed table → (list : List KeyedListed) → HaveKeys table list → IsSortedBy comes_by_key list → StandInOrder table (map word_of list)
sorted_by_keys table well [] keyed sorted = λ k d low high. absurd (omega (arith, high))
sorted_by_keys table well (first ∷ others) keyed sorted = keyed_in_order table well (first ∷ others) first keyed sorted

-- one word more with its key
pub one_more_key : (table : Collation) (list with : List KeyedListed) (next : KeyedListed) → HaveKeys table list → HasKey table next → with ≡ list ++ next ∷ [] → HaveKeys table with
one_more_key table list with next all one is =
    subst (HaveKeys table) (sym is) (All-append (HasKey table) list (next ∷ []) all (All-cons (HasKey table) next [] one (All-nil (HasKey table))))

-- a list that was sorted so
pub moved_so : (list new : List ListedWord) (keyed sorted : List KeyedListed) → map word_of keyed ≡ list → new ≡ map word_of sorted → IsPermutation keyed sorted → IsPermutation list new
moved_so list new keyed sorted is new_is same =
    subst (λ (l : List ListedWord). IsPermutation l new) is (subst (IsPermutation (map word_of keyed)) (sym new_is) (IsPermutation-map word_of keyed sorted same))
