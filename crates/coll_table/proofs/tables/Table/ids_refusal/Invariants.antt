-- The first refusal is among those that are left.
use Rattle.std.proofs.Common.{◌≡◌, drop}
use Rattle.coll_table.specs.Judging.{ids_refusal}
use Rattle.coll_nodes.specs.TableLayout.{collation}
use Rattle.coll_table.proofs.tables.Table.ids_refusal.Given as goal

abbrev pub invariant-loop-id : goal.invariant-loop-id
invariant-loop-id l = ids_refusal (collation l.self) l.more (drop l.id-index l.ids) ≡ ids_refusal (collation l.self) l.more l.ids
