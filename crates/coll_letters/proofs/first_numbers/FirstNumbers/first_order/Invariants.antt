-- What is left of both texts decides their order at the first level.
use Rattle.std.proofs.Common.{chars, length}
use denote.Shadow.{shadow}
use denote.Text.{Utf8}
use Rattle.coll_nodes.specs.TableLayout.{collation}
use Rattle.coll_letters.specs.LetterWeights.{OrdersAlike}
use Rattle.coll_letters.proofs.first_numbers.FirstNumbers.first_order.Given as goal

abbrev pub invariant-letters : goal.invariant-letters
invariant-letters l = record {
  left : shadow (Utf8 l.left);
  right : shadow (Utf8 l.right);
  same : OrdersAlike (collation l.table) 0 (chars l.text) (chars l.other) (chars l.left) (chars l.right);
}

abbrev pub decreases-letters : goal.decreases-letters
decreases-letters l = length (chars l.left)
