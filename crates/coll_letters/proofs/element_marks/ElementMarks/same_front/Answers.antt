-- One byte more is the same.
use Rattle.std.proofs.Common.{arith}
use Rattle.coll_letters.proofs.element_marks.ElementMarks.same_front.Goals as goal

pub loop-place-init : goal.loop-place-init
loop-place-init c = λ k within. absurd (omega (arith, within))
