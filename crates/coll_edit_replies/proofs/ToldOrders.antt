-- Lists of words that are sorted by their keys, and sorted anew behind a change of the table.
use Rattle.std.proofs.Common.{◌≡◌, ℕ, ◌+◌, Bool, List, [], ◌∷◌, ◌++◌, length, get_or, take, refl, sym, ap, subst, ◌∙◌, arith}
use Rattle.std.specs.Prelude.{All, OnOk, Result, Ok, Err}
use Rattle.std.specs.List.Sorted.{IsPermutation, IsSortedBy, IsSorted}
use Rattle.std.specs.Ordering.{is_lt, nat_cmp, ordering_then}
use Rattle.std.proofs.lemmas.List.{get_or-map, length-map}
use Rattle.std.proofs.lemmas.List.Elements.{All-cons, All-map, All-nil}
use Rattle.std.proofs.lemmas.List.Sorted.{All-permutation, IsPermutation-map, IsPermutation-trans}
use Rattle.coll_nodes.specs.Table.{Collation}
use Rattle.coll_nodes.specs.WellFormed.{IsWellFormed}
use Rattle.coll_key.specs.TextOrder.{list_order}
use Rattle.coll_key.proofs.KeyOrder.{All-first, All-others}
use Rattle.coll_key.specs.declared.key_faults.KeyFault.{KeyFault}
use Rattle.coll_word_lists.specs.KeyedWords.{IsKeyed}
use Rattle.coll_word_lists.specs.Neighbours.{NumberedWord}
use Rattle.coll_word_lists.specs.NumberedWords.{AreInOrder, HaveLines, line_order}
use Rattle.coll_word_lists.proofs.NumberedLemmas.{lines_still}
use Rattle.coll_word_lists.proofs.SortedLemmas.{keys_order}
use Rattle.coll_edit_replies.specs.ToldLists.{AreKeyedLines, AreListedBy, IsListed, IsSortedAnew, IsToldFrom, IsToldIn, ListsAnew, all_numbered, numbered_of, without_key, without_keys}
use Rattle.coll_edit_replies.specs.declared.word_lists.ListedWord.{ListedWord}
use Rattle.coll_edit_replies.proofs.ToldLemmas.{all_told, numbered_told}

-- Sorted by keys.

-- by its key, or where that is the same by its line, a word comes first
abbrev pub has_less_line : ListedWord → ListedWord → Bool
has_less_line listed other = is_lt (ordering_then (list_order listed.word.key other.word.key) (nat_cmp listed.line other.line))

-- words that are sorted by the keys of a table are sorted by it
pub lines_in_order : (table : Collation) → IsWellFormed table → (list : List ListedWord) → AreKeyedLines table list → IsSortedBy has_less_line list
    → IsSorted (line_order table) (all_numbered list)
lines_in_order table well list keyed sorted = λ k d low high.
    let long = length-map list numbered_of in
    let none : ListedWord = get_or list k (get_or list k (from_number d)) in
    let first = get_or-map numbered_of list k none d (omega (arith, high, long)) in
    let second = get_or-map numbered_of list (k + 1) none d (omega (arith, high, long)) in
    ap (λ (word : NumberedWord). is_lt (line_order table word (get_or (all_numbered list) k d))) second
    ∙ ap (λ (word : NumberedWord). is_lt (line_order table (numbered_of (get_or list (k + 1) none)) word)) first
    ∙ sym (ap (λ o. is_lt (ordering_then o (nat_cmp (get_or list (k + 1) none).line (get_or list k none).line)))
    (keys_order table well (get_or list (k + 1) none).word (get_or list k none).word (keyed (k + 1) none (omega (arith, high, long))) (keyed k none (omega (arith, high, long)))))
    ∙ sorted k none low (omega (arith, high, long))
  where
    from_number : NumberedWord → ListedWord
    from_number word = record { line = word.line; before = 0; behind = 0; word = record { text = word.text; key = [] } }

-- the same of a list that was sorted
pub lines_sorted : (old new : List ListedWord) → IsPermutation old new → IsSortedBy has_less_line new → (table : Collation) → AreListedBy table old
    → IsSorted (line_order table) (all_numbered new)
lines_sorted old new same sorted table by =
    lines_in_order table by.well new (All-permutation (λ (listed : ListedWord). IsKeyed table listed.word) old new same by.keyed) sorted

-- Without their keys.

numbered_still : (list : List ListedWord) → all_numbered (without_keys list) ≡ all_numbered list
numbered_still [] = refl
numbered_still (listed ∷ list) = ap (λ (words : List NumberedWord). numbered_of listed ∷ words) (numbered_still list)

told_still : (words : List NumberedWord) (list : List ListedWord) → All (IsToldIn 0 words) (without_keys list) → All (IsToldIn 0 words) list
told_still words [] all = All-nil (IsToldIn 0 words)
told_still words (listed ∷ list) all =
    All-cons (IsToldIn 0 words) listed list (All-first (IsToldIn 0 words) (without_key listed) (without_keys list) all)
    (told_still words list (All-others (IsToldIn 0 words) (without_key listed) (without_keys list) all))

-- Sorted, told, and sorted anew.

module _ (now before : Collation) (old between : List ListedWord) (tells : IsToldFrom old between) (by : AreListedBy before old) (lines : HaveLines (all_numbered old)) where
  abbrev moved : List NumberedWord
  moved = all_numbered tells.moved

  moved_lines : HaveLines moved
  moved_lines = lines_still (all_numbered old) moved (IsPermutation-map numbered_of old tells.moved tells.same) lines

  -- in the order of the table before
  was_in_order : AreInOrder before (all_numbered old) moved
  was_in_order = record { same = IsPermutation-map numbered_of old tells.moved tells.same; ordered = tells.sorted before by }

  between_is : all_numbered between ≡ moved
  between_is = ap all_numbered tells.told_is ∙ numbered_told 0 tells.moved

  between_told : All (IsToldIn 0 moved) between
  between_told = subst (All (IsToldIn 0 moved)) (sym tells.told_is) (all_told 0 tells.moved moved_lines.once)

  -- where both tables are the same
  pub listed_still : before ≡ now → IsListed before now (all_numbered old) between
  listed_still same = record {
    old = moved;
    was = was_in_order;
    is = subst (λ (words : List NumberedWord). AreInOrder now (all_numbered old) words) (sym between_is)
        (subst (λ (table : Collation). AreInOrder table (all_numbered old) moved) same was_in_order);
    told_in = between_told;
  }

  -- and where they aren't
  pub listed_anew : (new : List ListedWord) → IsSortedAnew now between new → IsListed before now (all_numbered old) new
  listed_anew new anew = record {
    old = moved;
    was = was_in_order;
    is = record {
      same = IsPermutation-trans (all_numbered old) moved (all_numbered new) was_in_order.same
          (subst (λ (words : List NumberedWord). IsPermutation words (all_numbered new)) (numbered_still between ∙ between_is)
          (subst (IsPermutation (all_numbered (without_keys between))) (numbered_still new)
          (IsPermutation-map numbered_of (without_keys between) (without_keys new) anew.same)));
      ordered = anew.ordered;
    };
    told_in = told_still moved new
        (All-permutation (IsToldIn 0 moved) (without_keys between) (without_keys new) anew.same (All-map (IsToldIn 0 moved) without_key between between_told));
  }

-- so many members of a list and of what stands behind it
all_taken : (list rest : List ListedWord) → take (length list) (list ++ rest) ≡ list
all_taken [] rest = refl
all_taken (listed ∷ list) rest = ap (λ (l : List ListedWord). listed ∷ l) (all_taken list rest)

-- a list that was lent as a slice of as many members
pub lent_whole : (len : ℕ) (list rest : List ListedWord) → length list ≡ len → take len (list ++ rest) ≡ list
lent_whole len list rest same = subst (λ (n : ℕ). take n (list ++ rest) ≡ list) same (all_taken list rest)

-- a list that got its keys by a table, and was sorted by these
pub sorted_anew : (table : Collation) → IsWellFormed table → (old lent keyed items new : List ListedWord) → lent ≡ old → items ≡ keyed → without_keys keyed ≡ without_keys lent
    → AreKeyedLines table keyed → IsPermutation items new → ((by : Collation) → AreListedBy by items → IsSorted (line_order by) (all_numbered new)) → IsSortedAnew table old new
sorted_anew table well old lent keyed items new lent_is items_is same are moved sorts = record {
  same = subst (λ (l : List ListedWord). IsPermutation l (without_keys new)) (ap without_keys items_is ∙ same ∙ ap without_keys lent_is)
      (IsPermutation-map without_key items new moved);
  ordered = sorts table (record { well = well; keyed = subst (AreKeyedLines table) (sym items_is) are });
}

-- the same of what sorting anew answers
pub lists_anew : (now : Collation) (changed : Bool) (old between new : List ListedWord) (r : Result (Unit {0}) KeyFault) → IsToldFrom old between → OnOk r (IsSortedAnew now between new)
    → OnOk r (ListsAnew now changed old new)
lists_anew now changed old between new (Ok done) tells anew = λ before by lines same. listed_anew now before old between tells by lines new anew
lists_anew now changed old between new (Err fault) tells anew = tt
