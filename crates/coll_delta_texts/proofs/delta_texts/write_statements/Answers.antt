-- Each statement is one part.
use Rattle.std.proofs.Common.{◌+◌, drop, ◌∙◌, rules}
use Rattle.coll_texts.specs.StatementText.{statement_bytes}
use Rattle.coll_texts.proofs.PrintedParts.{left_begins, written_prefix, written_more}
use Rattle.coll_delta_texts.proofs.delta_texts.write_statements.Goals as goal

pub returns-in-Err : goal.returns-in-Err
returns-in-Err g c =
    let taken = g.W.Sink.taken in
    record {
      sent = written_prefix statement_bytes c.args.statements.now (drop c.loop-statement.statement-index c.args.statements.now)
          (drop (c.loop-statement.statement-index + 1) c.args.statements.now) c.statement-item.result (taken c.args.out.now) (taken c.loop-statement.out)
          (taken c.write_statement.new.out)
          (left_begins c.args.statements.now c.loop-statement.statement-index c.statement-item.result c.loop-statement-test.true c.statement-item.is) c.loop-statement.invariant.sent
          c.in-Err.ensures.sent;
      errors = search rules;
    }

pub loop-statement-preserved : goal.loop-statement-preserved
loop-statement-preserved g c =
    let taken = g.W.Sink.taken in
    record {
      sent = written_more statement_bytes c.args.statements.now (drop c.loop-statement.statement-index c.args.statements.now)
          (drop (c.loop-statement.statement-index + 1) c.args.statements.now) c.statement-item.result (taken c.args.out.now) (taken c.loop-statement.out)
          (taken c.write_statement.new.out)
          (left_begins c.args.statements.now c.loop-statement.statement-index c.statement-item.result c.loop-statement-test.true c.statement-item.is) c.loop-statement.invariant.sent
          c.in_default.ensures.sent;
      count = c.in_default.ensures.errors ∙ c.loop-statement.invariant.count;
    }
