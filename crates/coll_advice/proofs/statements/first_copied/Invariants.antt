-- The first is among those that are left.
use Rattle.std.proofs.Common.{◌≡◌, drop}
use Rattle.coll_advice.specs.Faults.{first_with}
use Rattle.coll_advice.proofs.statements.first_copied.Given as goal

abbrev pub invariant-loop-fault : goal.invariant-loop-fault
invariant-loop-fault l = first_with l.refusal (drop l.fault-index l.found) ≡ first_with l.refusal l.found
