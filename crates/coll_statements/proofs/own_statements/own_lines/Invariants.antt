-- What is put on the list are the lines so far, by own names.
use Rattle.std.proofs.Common.{◌≡◌, take}
use Rattle.coll_nodes.specs.TableLayout.{declared_at}
use Rattle.coll_statements.specs.OwnStatements.{own_lines}
use Rattle.coll_statements.proofs.own_statements.own_lines.Given as goal

abbrev pub invariant-loop-line : goal.invariant-loop-line
invariant-loop-line l = l.own.items ≡ own_lines (declared_at l.body.layout) (take l.line-index l.lines)
