-- The rows so far are those of what they were kept for, and the elements that are left those of the text that is.
use denote.Text.{Utf8}
use denote.Shadow.{shadow}
use Rattle.std.proofs.Common.{chars, drop}
use Rattle.coll_nodes.specs.TableLayout.{collation}
use Rattle.coll_letters.proofs.PieceRowLemmas.{PiecesSoFar}
use Rattle.coll_letters.proofs.piece_rows.piece_rows.Given as goal

abbrev pub invariant-loop-element : goal.invariant-loop-element
invariant-loop-element l = record {
  text : shadow (Utf8 l.left);
  so_far : PiecesSoFar (collation l.table) l.made.weights (drop l.element-index l.made.elements) l.rows (chars l.left);
}
