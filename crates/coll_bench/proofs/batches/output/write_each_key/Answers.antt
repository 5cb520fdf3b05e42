-- Each key is one part.
use Rattle.std.proofs.Common.{◌+◌, drop, ◌∙◌}
use Rattle.coll_nodes.specs.TableLayout.{collation}
use Rattle.coll_texts.proofs.PrintedParts.{left_begins, written_prefix, written_more}
use Rattle.coll_bench.specs.BatchOutcome.{key_line}
use Rattle.coll_bench.proofs.batches.output.write_each_key.Goals as goal

pub returns-in-Err-clause-sent : goal.returns-in-Err-clause-sent
returns-in-Err-clause-sent g c =
    let taken = g.W.Sink.taken in (
      c.in-Err.ensures.sent.0,
      written_prefix (key_line (collation c.args.table.now)) c.args.texts.now (drop c.loop-text.text-index c.args.texts.now) (drop (c.loop-text.text-index + 1) c.args.texts.now) c.text-item.result
          (taken c.args.out.now) (taken c.loop-text.out) (taken c.write_text_key.new.out)
          (left_begins c.args.texts.now c.loop-text.text-index c.text-item.result c.loop-text-test.true c.text-item.is) c.loop-text.invariant.sent c.in-Err.ensures.sent.1,
    )

pub loop-text-preserved : goal.loop-text-preserved
loop-text-preserved g c =
    let taken = g.W.Sink.taken in
    record {
      sent = written_more (key_line (collation c.args.table.now)) c.args.texts.now (drop c.loop-text.text-index c.args.texts.now) (drop (c.loop-text.text-index + 1) c.args.texts.now)
          c.text-item.result (taken c.args.out.now) (taken c.loop-text.out) (taken c.write_text_key.new.out)
          (left_begins c.args.texts.now c.loop-text.text-index c.text-item.result c.loop-text-test.true c.text-item.is) c.loop-text.invariant.sent c.in_default.ensures.sent;
      count = c.in_default.ensures.errors ∙ c.loop-text.invariant.count;
    }
