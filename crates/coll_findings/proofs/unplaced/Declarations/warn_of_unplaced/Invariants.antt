-- No fault is told.
use Rattle.std.proofs.Common.{◌≡◌}
use Rattle.coll_findings.proofs.unplaced.Declarations.warn_of_unplaced.Given as goal

abbrev pub invariant-loop-declared : goal.invariant-loop-declared
invariant-loop-declared l = l.told.told.faults ≡ l.initial.told.told.faults
