-- Each thing that is lost is one part.
use Rattle.std.proofs.Common.{◌+◌, map, drop, string_bytes, ◌∙◌, rules}
use Rattle.coll_import.specs.ReportText.{dropped_line}
use Rattle.coll_texts.proofs.PrintedParts.{left_begins, written_prefix, written_more}
use Rattle.coll_import.proofs.reports.write_losses.Goals as goal

pub returns-in-Err : goal.returns-in-Err
returns-in-Err g c =
    let taken = g.W.Sink.taken in
    let all = c.args.losses.now in
    let i = c.loop-loss.loss-index in
    record {
      sent = written_prefix (dropped_line (map string_bytes c.args.names.now)) all (drop i all) (drop (i + 1) all) c.loss-item.result (taken c.args.out.now) (taken c.loop-loss.out)
          (taken c.write_loss.new.out)
          (left_begins all i c.loss-item.result c.loop-loss-test.true c.loss-item.is) c.loop-loss.invariant.sent c.in-Err.ensures.sent;
      errors = search rules;
    }

pub loop-loss-preserved : goal.loop-loss-preserved
loop-loss-preserved g c =
    let taken = g.W.Sink.taken in
    let all = c.args.losses.now in
    let i = c.loop-loss.loss-index in
    record {
      sent = written_more (dropped_line (map string_bytes c.args.names.now)) all (drop i all) (drop (i + 1) all) c.loss-item.result (taken c.args.out.now) (taken c.loop-loss.out)
          (taken c.write_loss.new.out)
          (left_begins all i c.loss-item.result c.loop-loss-test.true c.loss-item.is) c.loop-loss.invariant.sent c.in_default.ensures.sent;
      count = c.in_default.ensures.errors ∙ c.loop-loss.invariant.count;
    }
