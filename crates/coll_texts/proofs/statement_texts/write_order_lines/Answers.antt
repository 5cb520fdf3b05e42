-- Each order line is one part.
use Rattle.std.proofs.Common.{◌+◌, drop, ◌∙◌, rules}
use Rattle.coll_texts.specs.StatementText.{order_bytes}
use Rattle.coll_texts.proofs.PrintedParts.{left_begins, written_prefix, written_more}
use Rattle.coll_texts.proofs.statement_texts.write_order_lines.Goals as goal

pub returns-in-Err : goal.returns-in-Err
returns-in-Err g c =
    let taken = g.W.Sink.taken in
    record {
      sent = written_prefix order_bytes c.args.lines.now (drop c.loop-line.line-index c.args.lines.now) (drop (c.loop-line.line-index + 1) c.args.lines.now) c.line-item.result (taken c.args.out.now)
          (taken c.loop-line.out)
          (taken c.write_order_line.new.out)
          (left_begins c.args.lines.now c.loop-line.line-index c.line-item.result c.loop-line-test.true c.line-item.is) c.loop-line.invariant.sent c.in-Err.ensures.sent;
      errors = search rules;
    }

pub loop-line-preserved : goal.loop-line-preserved
loop-line-preserved g c =
    let taken = g.W.Sink.taken in
    record {
      sent = written_more order_bytes c.args.lines.now (drop c.loop-line.line-index c.args.lines.now) (drop (c.loop-line.line-index + 1) c.args.lines.now) c.line-item.result (taken c.args.out.now)
          (taken c.loop-line.out)
          (taken c.write_order_line.new.out)
          (left_begins c.args.lines.now c.loop-line.line-index c.line-item.result c.loop-line-test.true c.line-item.is) c.loop-line.invariant.sent c.in_default.ensures.sent;
      count = c.in_default.ensures.errors ∙ c.loop-line.invariant.count;
    }
