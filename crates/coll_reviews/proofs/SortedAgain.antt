-- A list is sorted again, and anew.
use Rattle.std.proofs.Common.{◌≡◌, zero, List, ◌++◌, reverse, sym, subst}
use Rattle.std.specs.Prelude.{OnOk, Result, Ok, Err}
use Rattle.std.specs.List.Sorted.{IsPermutation, IsSorted}
use Rattle.std.proofs.lemmas.List.{reverse-reverse}
use Rattle.std.proofs.lemmas.List.Sorted.{IsPermutation-refl, IsPermutation-reverse, IsPermutation-trans, IsPermutation-append_right}
use Rattle.coll_nodes.specs.Table.{Collation}
use Rattle.coll_key.specs.declared.key_faults.KeyFault.{KeyFault}
use Rattle.coll_reviews.specs.ListedWords.{IsSortedAgain, IsSortedAnew, all_numbered, led_by}
use Rattle.coll_reviews.specs.MovedWords.{IsSortedFromLast, StandInOrder}
use Rattle.coll_word_lists.specs.NumberedWords.{line_order}
use Rattle.coll_reviews.specs.declared.listed_words.ListedWord.{ListedWord}

-- words that were sorted, and turned round
pub from_last : (table : Collation) (old sorted new : List ListedWord) → IsSortedAgain table old sorted → new ≡ reverse sorted → IsSortedFromLast table old new
from_last table old sorted new sorts is = record {
  moved = subst (IsPermutation old) (sym is) (IsPermutation-trans old sorted (reverse sorted) sorts.moved (IsPermutation-reverse sorted));
  ordered = subst (λ (l : List ListedWord). StandInOrder table (reverse l)) (sym is) (subst (StandInOrder table) (sym (reverse-reverse sorted)) sorts.ordered);
}

-- a list that was taken apart, of which some words were sorted, and both put together, which may lack memory
pub again_put : (table : Collation) (old kept moved sorted new : List ListedWord) (r : Result (Unit {0}) KeyFault) → IsPermutation old (kept ++ moved)
    → IsSortedFromLast table moved sorted → OnOk r (IsPermutation (kept ++ sorted) new) → OnOk r (StandInOrder table new) → OnOk r (IsSortedAgain table old new)
again_put table old kept moved sorted new (Ok done) apart sorts together ordered = record {
  moved = IsPermutation-trans _ _ _ apart (IsPermutation-trans _ _ _ (IsPermutation-append_right kept _ _ sorts.moved) together);
  ordered = ordered;
}
again_put table old kept moved sorted new (Err fault) apart sorts together ordered = tt

-- a list that is in order
pub again_in_order : (table : Collation) (list : List ListedWord) → IsSorted (line_order table) (all_numbered list) → IsSortedAgain table list list
again_in_order table list ordered = record { moved = IsPermutation-refl list; ordered = ordered }

-- a list that was put into another order before
pub again_behind : (table : Collation) (old between new : List ListedWord) (r : Result (Unit {0}) KeyFault) → IsPermutation old between → OnOk r (IsSortedAgain table between new)
    → OnOk r (IsSortedAgain table old new)
again_behind table old between new (Ok done) apart sorts = record { moved = IsPermutation-trans _ _ _ apart sorts.moved; ordered = sorts.ordered }
again_behind table old between new (Err fault) apart sorts = tt

-- a list that was led before
pub anew_led : (table : Collation) (old led new : List ListedWord) (r : Result (Unit {0}) KeyFault) → led ≡ led_by zero old → OnOk r (IsSortedAgain table led new)
    → OnOk r (IsSortedAnew table old new)
anew_led table old led new (Ok done) led_is sorts =
    record { moved = subst (λ (l : List ListedWord). IsPermutation l new) led_is sorts.moved; ordered = sorts.ordered }
anew_led table old led new (Err fault) led_is sorts = tt
