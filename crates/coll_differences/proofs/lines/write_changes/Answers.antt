-- Each member is one part.
use Rattle.std.proofs.Common.{◌+◌, drop, ◌∙◌, rules}
use Rattle.coll_differences.specs.Lines.{change_told}
use Rattle.coll_texts.proofs.PrintedParts.{left_begins, written_prefix, written_more}
use Rattle.coll_differences.proofs.lines.write_changes.Goals as goal

pub returns-in-Err : goal.returns-in-Err
returns-in-Err g c =
    let taken = g.W.Sink.taken in
    let all = c.args.changes.now in
    record {
      sent = written_prefix change_told all (drop c.loop-change.change-index all) (drop (c.loop-change.change-index + 1) all) c.change-item.result (taken c.args.out.now) (taken c.loop-change.out)
          (taken c.write_change.new.out)
          (left_begins all c.loop-change.change-index c.change-item.result c.loop-change-test.true c.change-item.is) c.loop-change.invariant.sent c.in-Err.ensures.sent;
      errors = search rules;
    }

pub loop-change-preserved : goal.loop-change-preserved
loop-change-preserved g c =
    let taken = g.W.Sink.taken in
    let all = c.args.changes.now in
    record {
      sent = written_more change_told all (drop c.loop-change.change-index all) (drop (c.loop-change.change-index + 1) all) c.change-item.result (taken c.args.out.now) (taken c.loop-change.out)
          (taken c.write_change.new.out)
          (left_begins all c.loop-change.change-index c.change-item.result c.loop-change-test.true c.change-item.is) c.loop-change.invariant.sent c.in_default.ensures.sent;
      count = c.in_default.ensures.errors ∙ c.loop-change.invariant.count;
    }
