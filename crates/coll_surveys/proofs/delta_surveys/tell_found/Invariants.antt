-- The faults so far were told.
use Rattle.std.proofs.Common.{map, take}
use Rattle.coll_surveys.specs.DeltaSurveys.{found_fault}
use Rattle.coll_findings.specs.ToldFaults.{Tells}
use Rattle.coll_surveys.proofs.delta_surveys.tell_found.Given as goal

abbrev pub invariant-loop-fault : goal.invariant-loop-fault
invariant-loop-fault l =
    Tells l.initial.told.told.faults.items l.told.told.faults.items (map (found_fault l.begins l.numbers) (take l.fault-index l.found))
