-- Each member is one part.
use Rattle.std.proofs.Common.{codes, ◌+◌, drop, ◌∙◌, rules}
use Rattle.coll_texts.specs.WeighedEntries.{marked_weight}
use Rattle.coll_texts.proofs.PrintedParts.{left_begins, written_prefix, written_more}
use Rattle.coll_texts.proofs.weighed_entries.write_further_weights.Goals as goal

pub returns-in-Err : goal.returns-in-Err
returns-in-Err g c =
    let taken = g.W.Sink.taken in
    let all = c.args.weights.now in
    record {
      sent = written_prefix (marked_weight (codes ";") c.args.owner.now) all (drop c.loop-weight.weight-index all) (drop (c.loop-weight.weight-index + 1) all) c.weight-item.result (taken c.args.out.now)
          (taken c.loop-weight.out) (taken c.write_marked_weight.new.out)
          (left_begins all c.loop-weight.weight-index c.weight-item.result c.loop-weight-test.true c.weight-item.is) c.loop-weight.invariant.sent c.in-Err.ensures.sent;
      errors = search rules;
    }

pub loop-weight-preserved : goal.loop-weight-preserved
loop-weight-preserved g c =
    let taken = g.W.Sink.taken in
    let all = c.args.weights.now in
    record {
      sent = written_more (marked_weight (codes ";") c.args.owner.now) all (drop c.loop-weight.weight-index all) (drop (c.loop-weight.weight-index + 1) all) c.weight-item.result
          (taken c.args.out.now) (taken c.loop-weight.out) (taken c.write_marked_weight.new.out)
          (left_begins all c.loop-weight.weight-index c.weight-item.result c.loop-weight-test.true c.weight-item.is) c.loop-weight.invariant.sent c.in_default.ensures.sent;
      count = c.in_default.ensures.errors ∙ c.loop-weight.invariant.count;
    }
