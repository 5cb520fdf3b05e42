-- The first refusal is among those of the lines that are left.
use Rattle.std.proofs.Common.{◌≡◌, drop}
use Rattle.coll_table.specs.Delta.{ids_given}
use Rattle.coll_table.specs.Judging.{ids_refusal}
use Rattle.coll_nodes.specs.TableLayout.{collation}
use Rattle.coll_table.proofs.tables.Table.all_given_refusal.Given as goal

abbrev pub invariant-loop-line : goal.invariant-loop-line
invariant-loop-line l = ids_refusal (collation l.self) l.more (ids_given (drop l.line-index l.lines)) ≡ ids_refusal (collation l.self) l.more (ids_given l.lines)
