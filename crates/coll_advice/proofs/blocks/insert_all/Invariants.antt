-- The identifiers of the target and of the lines before a place were put in.
use Rattle.coll_nodes.specs.TableLayout.{collation}
use Rattle.coll_table.specs.Judging.{HaveSame}
use Rattle.coll_advice.proofs.BlockLines.{ids_before}
use Rattle.coll_advice.proofs.blocks.insert_all.Given as goal

abbrev pub invariant-loop-line : goal.invariant-loop-line
invariant-loop-line l = HaveSame l.all (ids_before (collation l.table) l.target l.lines l.line-index)
