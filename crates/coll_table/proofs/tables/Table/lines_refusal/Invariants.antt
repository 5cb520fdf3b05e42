-- The lines before a place have been judged.
use Rattle.coll_nodes.specs.TableLayout.{collation}
use Rattle.coll_table.proofs.DeltaLines.{Judging}
use Rattle.coll_table.proofs.tables.Table.lines_refusal.Given as goal

abbrev pub invariant-loop-line : goal.invariant-loop-line
invariant-loop-line l = Judging (collation l.self) l.target l.lines l.line-index l.ids
