-- The lines so far decide nothing; each is one of the most lines that a text may have.
use Rattle.std.proofs.Common.{◌≡◌, ◌-◌, false, None}
use Rattle.coll_lex.specs.Limits.{most_lines}
use Rattle.coll_bench.proofs.DeltaTexts.{Reached}
use Rattle.coll_bench.proofs.batches.delta_files.read_lines.Given as goal

abbrev pub invariant-lines : goal.invariant-lines
invariant-lines g l = record {
  reached : Reached l.input (g.T.TakesStatements.table l.initial.taker) g.T.TakesStatements.Reaches l.initial.taker l.taker (g.R.Source.left l.initial.delta) l.reader (g.R.Source.left l.delta)
      (g.T.TakesStatements.table l.taker) l.file;
  going : l.file.ended ≡ false;
  errors : g.R.Source.failed l.delta ≡ g.R.Source.failed l.initial.delta;
  goes_on : l.reader.stop ≡ None;
}

abbrev pub decreases-lines : goal.decreases-lines
decreases-lines g l = most_lines - l.file.lexer.count
