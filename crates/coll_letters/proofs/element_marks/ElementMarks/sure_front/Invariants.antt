-- The places that were passed are sure where what begins there has ended, and those before the front are.
use Rattle.std.proofs.Common.{ℕ, ◌<◌, ◌+◌}
use Rattle.coll_letters.specs.ElementMarks.{IsSureAt}
use Rattle.coll_letters.proofs.element_marks.ElementMarks.sure_front.Given as goal

abbrev pub invariant-loop-place : goal.invariant-loop-place
invariant-loop-place l = record {
  passed : (k : ℕ) → k < l.place → IsSureAt l.self l.text l.other (l.place + l.left) k;
  front : (k : ℕ) → k < l.front → IsSureAt l.self l.text l.other l.front k;
}
