-- What is left of both texts decides their order at so many of the first levels.
use Rattle.std.proofs.Common.{◌+◌, ◌<◌, ◌≤◌, ℕ, chars, false, length}
use denote.Shadow.{shadow}
use denote.Text.{Utf8}
use Rattle.coll_nodes.specs.TableLayout.{collation}
use Rattle.coll_letters.specs.LetterWeights.{OrdersAlikeAt}
use Rattle.coll_letters.proofs.alike_levels.alike_levels.Given as goal

abbrev pub invariant-letters : goal.invariant-letters
invariant-letters l = record {
  left : shadow (Utf8 l.left);
  right : shadow (Utf8 l.right);
  levels : l.levels ≤ length (collation l.table).rules;
  same : (level : ℕ) → level < l.levels → OrdersAlikeAt (collation l.table) level false (chars l.text) (chars l.other) (chars l.left) (chars l.right);
}

abbrev pub decreases-letters : goal.decreases-letters
decreases-letters l = length (chars l.left) + length (chars l.right)
