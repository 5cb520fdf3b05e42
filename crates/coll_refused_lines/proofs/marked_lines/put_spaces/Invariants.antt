-- So many spaces were put as turns were made.
use Rattle.std.proofs.Common.{◌≡◌, ◌++◌, replicate}
use Rattle.coll_lex.specs.Characters.{space}
use Rattle.coll_refused_lines.proofs.marked_lines.put_spaces.Given as goal

abbrev pub invariant-loop : goal.invariant-loop
invariant-loop l = l.columns.items ≡ l.initial.columns.items ++ replicate l.counter space
