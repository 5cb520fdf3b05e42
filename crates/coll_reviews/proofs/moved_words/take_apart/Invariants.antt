-- How far the list is taken apart, and where the word that was kept last stood.
use Rattle.coll_nodes.specs.TableLayout.{collation}
use Rattle.coll_reviews.proofs.OrderedWords.{ApartSoFar}
use Rattle.coll_reviews.proofs.SeenWords.{KeptPlace}
use Rattle.coll_reviews.specs.WordOrders.{Serves}
use Rattle.coll_reviews.proofs.moved_words.take_apart.Given as goal

abbrev pub invariant-words : goal.invariant-words
invariant-words l = record {
  apart : ApartSoFar (collation l.table) l.initial.list.items l.list.items l.kept.items l.moved.items;
  placed : KeptPlace l.initial.list.items l.list.items l.kept.items l.last;
  serves : Serves l.order l.table;
}

abbrev pub decreases-words : goal.decreases-words
decreases-words l = goal.left-words l
