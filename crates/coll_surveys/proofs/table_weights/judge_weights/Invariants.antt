-- The faults of those so far were told.
use Rattle.std.proofs.Common.{take}
use Rattle.coll_nodes.specs.TableLayout.{collation}
use Rattle.coll_surveys.specs.TableWeights.{weights_faults}
use Rattle.coll_findings.specs.ToldFaults.{Tells}
use Rattle.coll_surveys.proofs.table_weights.judge_weights.Given as goal

abbrev pub invariant-loop-weight : goal.invariant-loop-weight
invariant-loop-weight l =
    Tells l.initial.told.told.faults.items l.told.told.faults.items (weights_faults (collation l.table) l.number (take l.weight-index l.weights))
