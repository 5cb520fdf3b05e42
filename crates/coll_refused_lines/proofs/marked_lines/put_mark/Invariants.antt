-- So many columns of a mark were put as turns were made.
use Rattle.std.proofs.Common.{◌≡◌, ◌++◌, replicate}
use Rattle.coll_refused_lines.specs.MarkedLines.{mark_column}
use Rattle.coll_refused_lines.proofs.marked_lines.put_mark.Given as goal

abbrev pub invariant-loop : goal.invariant-loop
invariant-loop l = l.below.items ≡ l.initial.below.items ++ replicate l.counter mark_column
