-- The faults of those so far were told.
use Rattle.std.proofs.Common.{take}
use Rattle.coll_nodes.specs.TableLayout.{collation}
use Rattle.coll_surveys.specs.TableWeights.{ids_faults}
use Rattle.coll_findings.specs.ToldFaults.{Tells}
use Rattle.coll_surveys.proofs.table_weights.judge_ids.Given as goal

abbrev pub invariant-loop-id : goal.invariant-loop-id
invariant-loop-id l =
    Tells l.initial.told.told.faults.items l.told.told.faults.items (ids_faults (collation l.table) l.number (take l.id-index l.ids))
