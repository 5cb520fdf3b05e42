-- Each weight is one part.
use Rattle.std.proofs.Common.{◌+◌, drop, ◌∙◌, rules}
use Rattle.coll_texts.specs.CanonicalText.{spelled_weight}
use Rattle.coll_texts.specs.PrintedParts.{behind_bytes}
use Rattle.coll_texts.proofs.PrintedParts.{left_begins, written_prefix, written_more}
use Rattle.coll_texts.proofs.spelled_entries.write_later_weights.Goals as goal

pub returns-in-Err : goal.returns-in-Err
returns-in-Err g c =
    let taken = g.W.Sink.taken in
    record {
      sent = written_prefix (behind_bytes (spelled_weight c.args.owner.now)) c.args.weights.now (drop c.loop-weight.weight-index c.args.weights.now) (drop
          (c.loop-weight.weight-index + 1) c.args.weights.now)
          c.weight-item.result (taken c.args.out.now) (taken c.loop-weight.out) (taken c.write_weight_behind.new.out)
          (left_begins c.args.weights.now c.loop-weight.weight-index c.weight-item.result c.loop-weight-test.true c.weight-item.is) c.loop-weight.invariant.sent c.in-Err.ensures.sent;
      errors = search rules;
    }

pub loop-weight-preserved : goal.loop-weight-preserved
loop-weight-preserved g c =
    let taken = g.W.Sink.taken in
    record {
      sent = written_more (behind_bytes (spelled_weight c.args.owner.now)) c.args.weights.now (drop c.loop-weight.weight-index c.args.weights.now)
          (drop (c.loop-weight.weight-index + 1) c.args.weights.now) c.weight-item.result (taken c.args.out.now) (taken c.loop-weight.out) (taken c.write_weight_behind.new.out)
          (left_begins c.args.weights.now c.loop-weight.weight-index c.weight-item.result c.loop-weight-test.true c.weight-item.is) c.loop-weight.invariant.sent c.in_default.ensures.sent;
      count = c.in_default.ensures.errors ∙ c.loop-weight.invariant.count;
    }
