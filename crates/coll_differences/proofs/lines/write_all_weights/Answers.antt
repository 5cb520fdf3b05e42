-- Each member is one part.
use Rattle.std.proofs.Common.{◌+◌, drop, ◌∙◌, rules}
use Rattle.coll_differences.specs.Lines.{lent_weights_told}
use Rattle.coll_texts.proofs.PrintedParts.{left_begins, written_prefix, written_more}
use Rattle.coll_differences.proofs.lines.write_all_weights.Goals as goal

pub returns-in-Err : goal.returns-in-Err
returns-in-Err g c =
    let taken = g.W.Sink.taken in
    let all = c.args.entries.now in
    record {
      sent = written_prefix lent_weights_told all (drop c.loop-entry.entry-index all) (drop (c.loop-entry.entry-index + 1) all) c.entry-item.result (taken c.args.out.now) (taken c.loop-entry.out)
          (taken c.write_reweighted.new.out)
          (left_begins all c.loop-entry.entry-index c.entry-item.result c.loop-entry-test.true c.entry-item.is) c.loop-entry.invariant.sent c.in-Err.ensures.sent;
      errors = search rules;
    }

pub loop-entry-preserved : goal.loop-entry-preserved
loop-entry-preserved g c =
    let taken = g.W.Sink.taken in
    let all = c.args.entries.now in
    record {
      sent = written_more lent_weights_told all (drop c.loop-entry.entry-index all) (drop (c.loop-entry.entry-index + 1) all) c.entry-item.result (taken c.args.out.now) (taken c.loop-entry.out)
          (taken c.write_reweighted.new.out)
          (left_begins all c.loop-entry.entry-index c.entry-item.result c.loop-entry-test.true c.entry-item.is) c.loop-entry.invariant.sent c.in_default.ensures.sent;
      count = c.in_default.ensures.errors ∙ c.loop-entry.invariant.count;
    }
