-- The lines before a place have been counted.
use Rattle.std.proofs.Common.{◌≡◌, take}
use Rattle.coll_table.specs.Judging.{entries_added}
use Rattle.coll_nodes.specs.TableLayout.{collation}
use Rattle.coll_table.proofs.tables.Table.added_len.Given as goal

abbrev pub invariant-loop-line : goal.invariant-loop-line
invariant-loop-line l = l.added ≡ entries_added (collation l.self) (take l.line-index l.lines)
