-- No fault is told.
use Rattle.std.proofs.Common.{◌≡◌}
use Rattle.coll_surveys.proofs.delta_surveys.warn_of_lines.Given as goal

abbrev pub invariant-loop-line : goal.invariant-loop-line
invariant-loop-line l = l.told.told.faults ≡ l.initial.told.told.faults
