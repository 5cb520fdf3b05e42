-- The bytes so far are the same.
use Rattle.std.proofs.Common.{ℕ, ◌<◌}
use Rattle.coll_letters.specs.ElementMarks.{IsSameAt}
use Rattle.coll_letters.proofs.element_marks.ElementMarks.same_front.Given as goal

abbrev pub invariant-loop-place : goal.invariant-loop-place
invariant-loop-place l = (k : ℕ) → k < l.place → IsSameAt l.self l.text l.other k
