-- The first fault is among those of the weights that are left.
use Rattle.std.proofs.Common.{◌≡◌, drop}
use Rattle.std.specs.List.{flat_map}
use Rattle.coll_nodes.specs.Entries.{weight_ids}
use Rattle.coll_nodes.specs.TableLayout.{collation}
use Rattle.coll_advice.specs.LineFaults.{ids_fault}
use Rattle.coll_advice.proofs.lines.find_in_given.Given as goal

abbrev pub invariant-loop-weight : goal.invariant-loop-weight
invariant-loop-weight l =
    ids_fault (collation l.table) l.place l.more (flat_map weight_ids (drop l.weight-index l.weights)) ≡ ids_fault (collation l.table) l.place l.more (flat_map weight_ids l.weights)
