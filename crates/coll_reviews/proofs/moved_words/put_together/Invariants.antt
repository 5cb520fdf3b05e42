-- How far both are put together.
use Rattle.coll_nodes.specs.TableLayout.{collation}
use Rattle.coll_reviews.proofs.OrderedWords.{TogetherSoFar}
use Rattle.coll_reviews.specs.WordOrders.{Serves}
use Rattle.coll_reviews.proofs.moved_words.put_together.Given as goal

abbrev pub invariant-moved : goal.invariant-moved
invariant-moved l = record {
  together : TogetherSoFar (collation l.table) l.initial.moved.items l.initial.kept.items l.list.items l.moved.items l.kept.items;
  serves : Serves l.order l.table;
}

abbrev pub decreases-moved : goal.decreases-moved
decreases-moved l = goal.left-moved l
