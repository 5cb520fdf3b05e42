-- What is left has strings.
use Rattle.std.proofs.Common.{All}
use Rattle.coll_elements.specs.TableElements.{HasString}
use Rattle.coll_letters.proofs.element_marks.ElementMarks.since.Given as goal

abbrev pub invariant-declared : goal.invariant-declared
invariant-declared l = All HasString l.left
