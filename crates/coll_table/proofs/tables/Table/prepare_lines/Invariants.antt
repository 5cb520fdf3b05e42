-- Items are prepared for the lines so far.
use Rattle.coll_table.proofs.PreparedLemmas.{Preparing}
use Rattle.coll_table.proofs.tables.Table.prepare_lines.Given as goal

abbrev pub invariant-loop-line : goal.invariant-loop-line
invariant-loop-line l = Preparing l.initial.self l.self l.fn.target l.lines l.line-index l.items.items l.before
