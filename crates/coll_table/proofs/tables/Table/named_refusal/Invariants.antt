-- The first refusal is among those of the weights that are left.
use Rattle.std.proofs.Common.{◌≡◌, drop}
use Rattle.std.specs.List.{flat_map}
use Rattle.coll_nodes.specs.Entries.{weight_ids}
use Rattle.coll_table.specs.Judging.{ids_refusal}
use Rattle.coll_nodes.specs.TableLayout.{collation}
use Rattle.coll_table.proofs.tables.Table.named_refusal.Given as goal

abbrev pub invariant-loop-weight : goal.invariant-loop-weight
invariant-loop-weight l = ids_refusal (collation l.self) l.more (flat_map weight_ids (drop l.weight-index l.weights)) ≡ ids_refusal (collation l.self) l.more (flat_map weight_ids l.weights)
