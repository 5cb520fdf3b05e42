-- Each word in turn is written.
use Rattle.std.proofs.Common.{◌++◌, ◌∷◌, [], rules, ◌∙◌}
use Rattle.coll_devices.specs.PhysicalLines.{line_feed}
use Rattle.coll_edit_replies.proofs.ToldLemmas.{line_written, written_next, written_part}
use Rattle.coll_edit_replies.proofs.word_lists.write_marked_words.Goals as goal

pub loop-listed-preserved : goal.loop-listed-preserved
loop-listed-preserved g c =
    let taken = g.W.Sink.taken in
    record {
      sent = written_next c.args.list.now c.loop-listed.left.now c.loop-listed.before (taken c.args.out.now) (taken c.loop-listed.out) (taken c.write_behind.new.out) c.loop-listed.invariant.sent
          c.in-Some.listed.now c.in-Some.later.now c.in-Some.ensures.cases.0 (c.mark.result.now ++ (c.text.result.now ++ line_feed ∷ []))
          (line_written c.in-Some.listed.now c.loop-listed.before c.line_at.result c.in-Some.later.now c.has_others-marked.result c.mark.result.now c.text.result.now c.has_others-marked.ensures
          c.line_at.ensures c.mark.ensures c.text.ensures.bytes)
          c.in_default-write_behind.ensures.sent;
      count = c.in_default-write_behind.ensures.errors ∙ c.loop-listed.invariant.count;
    }

pub returns-in-Err : goal.returns-in-Err
returns-in-Err g c =
    record {
      sent = let taken = g.W.Sink.taken in
          written_part c.args.list.now c.loop-listed.left.now c.loop-listed.before (taken c.args.out.now) (taken c.loop-listed.out) (taken c.write_behind.new.out) c.loop-listed.invariant.sent
          c.in-Some.listed.now c.in-Some.later.now c.in-Some.ensures.cases.0 (c.mark.result.now ++ (c.text.result.now ++ line_feed ∷ []))
          (line_written c.in-Some.listed.now c.loop-listed.before c.line_at.result c.in-Some.later.now c.has_others-marked.result c.mark.result.now c.text.result.now c.has_others-marked.ensures
          c.line_at.ensures c.mark.ensures c.text.ensures.bytes)
          c.in-Err.ensures.sent;
      errors = search rules;
    }
