-- Marks that tell what these do, and of what is left, tell of all that is declared.
use Rattle.std.proofs.Common.{All}
use Rattle.coll_nodes.specs.TableLayout.{collation}
use Rattle.coll_elements.specs.TableElements.{HasString}
use Rattle.coll_letters.specs.ElementMarks.{KeepMarks, TellOfAll}
use Rattle.coll_letters.specs.declared.element_marks.ElementMarks.{ElementMarks}
use Rattle.coll_letters.proofs.element_marks.ElementMarks.of.Given as goal

abbrev pub invariant-declared : goal.invariant-declared
invariant-declared l = record {
  some : All HasString l.left;
  so_far : (marks : ElementMarks) → KeepMarks l.marks marks → TellOfAll marks l.left → TellOfAll marks (collation l.table).declared;
}
