-- What is written and what is left are the whole.
use Rattle.std.proofs.Common.{◌≡◌, drop}
use Rattle.coll_texts.specs.StatementText.{statement_bytes}
use Rattle.coll_texts.proofs.PrintedParts.{HasWritten}
use Rattle.coll_delta_texts.proofs.delta_texts.write_statements.Given as goal

abbrev pub invariant-loop-statement : goal.invariant-loop-statement
invariant-loop-statement g l =
    record {
      sent : HasWritten statement_bytes l.statements (drop l.statement-index l.statements) (g.W.Sink.taken l.initial.out) (g.W.Sink.taken l.out);
      count : g.W.Sink.failed l.out ≡ g.W.Sink.failed l.initial.out;
    }
