-- Those so far are in order.
use Rattle.std.proofs.Common.{◌<◌}
use Rattle.std.specs.List.Sorted.{IsSortedWithin}
use Rattle.std.specs.Ordering.{is_lt}
use Rattle.coll_nodes.specs.TableLayout.{collation}
use Rattle.coll_reviews.specs.ListedWords.{all_numbered}
use Rattle.coll_word_lists.specs.NumberedWords.{line_order}
use Rattle.coll_reviews.specs.WordOrders.{Serves}
use Rattle.coll_reviews.proofs.listed_words.count_in_order.Given as goal

abbrev pub invariant-loop-place : goal.invariant-loop-place
invariant-loop-place l =
    record {
      above : 0 < l.place;
      sorted : IsSortedWithin (λ x y. is_lt (line_order (collation l.table) x y)) (all_numbered l.list) 0 l.place;
      serves : Serves l.order l.table;
    }
