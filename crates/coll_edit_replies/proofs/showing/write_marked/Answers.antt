-- Each line is one part.
use Rattle.std.proofs.Common.{◌+◌, drop, ◌∙◌, rules}
use Rattle.coll_texts.proofs.PrintedParts.{left_begins, written_prefix, written_more}
use Rattle.coll_edit_replies.specs.Showing.{marked_bytes}
use Rattle.coll_edit_replies.proofs.showing.write_marked.Goals as goal

pub returns-in-Err : goal.returns-in-Err
returns-in-Err g c =
    let taken = g.W.Sink.taken in
    let all = c.args.lines.now in
    let i = c.loop-line.line-index in
    record {
      sent = written_prefix marked_bytes all (drop i all) (drop (i + 1) all) c.line-item.result (taken c.args.out.now) (taken c.loop-line.out) (taken c.write_line.new.out)
          (left_begins all i c.line-item.result c.loop-line-test.true c.line-item.is) c.loop-line.invariant.sent c.in-Err.ensures.sent;
      errors = search rules;
    }

pub loop-line-preserved : goal.loop-line-preserved
loop-line-preserved g c =
    let taken = g.W.Sink.taken in
    let all = c.args.lines.now in
    let i = c.loop-line.line-index in
    record {
      sent = written_more marked_bytes all (drop i all) (drop (i + 1) all) c.line-item.result (taken c.args.out.now) (taken c.loop-line.out) (taken c.write_line.new.out)
          (left_begins all i c.line-item.result c.loop-line-test.true c.line-item.is) c.loop-line.invariant.sent c.in_default.ensures.sent;
      count = c.in_default.ensures.errors ∙ c.loop-line.invariant.count;
    }
