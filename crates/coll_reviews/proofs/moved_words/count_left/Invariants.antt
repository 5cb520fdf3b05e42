-- The place that is sought is among the places.
use Rattle.std.proofs.Common.{◌≡◌, ◌<◌, ◌≤◌, ◌-◌, get_or, length, false}
use Rattle.std.specs.Ordering.{is_lt}
use Rattle.coll_nodes.specs.TableLayout.{collation}
use Rattle.coll_reviews.specs.ListedWords.{numbered_of}
use Rattle.coll_word_lists.specs.NumberedWords.{line_order}
use Rattle.coll_reviews.specs.declared.listed_words.ListedWord.{ListedWord}
use Rattle.coll_reviews.specs.WordOrders.{Serves}
use Rattle.coll_reviews.proofs.moved_words.count_left.Given as goal

abbrev pub invariant-parts : goal.invariant-parts
invariant-parts l = record {
  order : l.low ≤ l.high;
  within : l.high ≤ length l.words;
  put : (d : ListedWord) → l.high < length l.words → is_lt (line_order (collation l.table) (numbered_of l.next) (numbered_of (get_or l.words l.high d))) ≡ false;
  stay : (d : ListedWord) → 0 < l.low → is_lt (line_order (collation l.table) (numbered_of (get_or l.words (l.low - 1) d)) (numbered_of l.next)) ≡ false;
  serves : Serves l.order l.table;
}

abbrev pub decreases-parts : goal.decreases-parts
decreases-parts l = l.high - l.low
