-- What is left of both texts decides their order at the level.
use Rattle.std.proofs.Common.{◌+◌, chars, length}
use denote.Shadow.{shadow}
use denote.Text.{Utf8}
use Rattle.coll_nodes.specs.TableLayout.{collation}
use Rattle.coll_letters.specs.LetterWeights.{OrdersAlikeAt}
use Rattle.coll_letters.proofs.letter_weights.LetterWeights.forward_order.Given as goal

abbrev pub invariant-letters : goal.invariant-letters
invariant-letters l = record {
  left : shadow (Utf8 l.left);
  right : shadow (Utf8 l.right);
  same : OrdersAlikeAt (collation l.table) l.level l.position (chars l.text) (chars l.other) (chars l.left) (chars l.right);
}

abbrev pub decreases-letters : goal.decreases-letters
decreases-letters l = length (chars l.left) + length (chars l.right)
