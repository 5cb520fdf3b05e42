-- The first fault is among those that are left.
use Rattle.std.proofs.Common.{◌≡◌, drop}
use Rattle.coll_nodes.specs.TableLayout.{collation}
use Rattle.coll_advice.specs.LineFaults.{ids_fault}
use Rattle.coll_advice.proofs.lines.find_in_ids.Given as goal

abbrev pub invariant-loop-id : goal.invariant-loop-id
invariant-loop-id l = ids_fault (collation l.table) l.place l.more (drop l.id-index l.ids) ≡ ids_fault (collation l.table) l.place l.more l.ids
