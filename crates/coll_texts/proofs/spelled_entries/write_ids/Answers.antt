-- Each identifier is one part.
use Rattle.std.proofs.Common.{◌+◌, drop, ◌∙◌, rules}
use Rattle.coll_texts.specs.PrintedParts.{id_bytes}
use Rattle.coll_texts.proofs.PrintedParts.{left_begins, written_prefix, written_more}
use Rattle.coll_texts.proofs.spelled_entries.write_ids.Goals as goal

pub returns-in-Err : goal.returns-in-Err
returns-in-Err g c =
    let taken = g.W.Sink.taken in
    record {
      sent = written_prefix id_bytes c.args.ids.now (drop c.loop-id.id-index c.args.ids.now) (drop (c.loop-id.id-index + 1) c.args.ids.now) c.id-item.result (taken c.args.out.now)
          (taken c.loop-id.out)
          (taken c.write_id.new.out)
          (left_begins c.args.ids.now c.loop-id.id-index c.id-item.result c.loop-id-test.true c.id-item.is) c.loop-id.invariant.sent c.in-Err.ensures.sent;
      errors = search rules;
    }

pub loop-id-preserved : goal.loop-id-preserved
loop-id-preserved g c =
    let taken = g.W.Sink.taken in
    record {
      sent = written_more id_bytes c.args.ids.now (drop c.loop-id.id-index c.args.ids.now) (drop (c.loop-id.id-index + 1) c.args.ids.now) c.id-item.result (taken c.args.out.now) (taken c.loop-id.out)
          (taken c.write_id.new.out)
          (left_begins c.args.ids.now c.loop-id.id-index c.id-item.result c.loop-id-test.true c.id-item.is) c.loop-id.invariant.sent c.in_default.ensures.sent;
      count = c.in_default.ensures.errors ∙ c.loop-id.invariant.count;
    }
