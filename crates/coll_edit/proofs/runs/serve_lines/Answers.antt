-- A run goes on by a line, and ends in one of the ways in which a run can.
use Rattle.std.proofs.Common.{◌≡◌, ap, sym, ◌∙◌, subst, ℕ, List, Ok, Err}
use Rattle.std.proofs.lemmas.Bool.{false≢true}
use Rattle.coll_devices.specs.PhysicalLines.{IsInLine}
use Rattle.coll_devices.specs.LineReading.{ReaderState, Cuts, unread}
use Rattle.coll_bench.proofs.RunSteps.{underway_begun, unread_begun, gives_line, gives_end, stops_now}
use Rattle.coll_bench.proofs.RunExits.{cut_off_ended, text_ended}
use Rattle.coll_bench.specs.Serving.{history_of}
use Rattle.coll_edit.specs.Editing.{run_of}
use Rattle.coll_edit.specs.declared.editors.Next.TheVariants as next
use Rattle.coll_edit.specs.Watching.{device_of}
use Rattle.coll_edit.proofs.AskedLemmas.{asked_begun, asked_leaves, asked_on, line_leaves, unserved_start}
use Rattle.coll_edit.proofs.EditLemmas.{underway_edited, edit_ended}
use Rattle.coll_edit.proofs.runs.serve_lines.Goals as goal

pub lines-init : goal.lines-init
lines-init g c = record {
  going = ap (λ (r : ReaderState). r.stop) c.requires;
  underway = λ text before unserved left_is taken_is unanswered.
      underway_begun (history_of (run_of c.args.editor.now)) text before c.args.reader.now.ended (unread c.args.reader.now (g.R.Source.left c.args.input.now)) (g.W.Sink.taken (device_of c.args.output.now)) (run_of c.args.editor.now)
      (unserved_start c.args.editor.now unserved)
      (ap (λ (r : ReaderState). r.ended) c.requires) (unread_begun c.args.reader.now (g.R.Source.left c.args.input.now) text c.requires left_is) taken_is;
  asked = λ text unserved left_is.
      asked_begun text (unread c.args.reader.now (g.R.Source.left c.args.input.now)) c.args.editor.now unserved
      (unread_begun c.args.reader.now (g.R.Source.left c.args.input.now) text c.requires left_is);
}

pub lines-preserved : goal.lines-preserved
lines-preserved g c =
    let left = g.R.Source.left in
    let taken = g.W.Sink.taken in
    let line = gives_line c.lines.reader c.advance.new.self (left c.lines.input) (left c.advance.new.input) (g.R.Source.failed c.lines.input) (g.R.Source.failed c.advance.new.input)
    c.in-Ok-true.field-0 c.in-Ok-true.ensures c.in-Ok-true.field-0-test in
    record {
      going = line.stop;
      underway = λ text before unserved left_is taken_is.
          underway_edited (history_of (run_of c.args.editor.now)) text before c.lines.reader.ended c.advance.new.self.ended (unread c.lines.reader (left c.lines.input)) (unread c.advance.new.self (left c.advance.new.input))
          (taken (device_of c.lines.output)) (taken (device_of c.serve.new.output)) c.lines.editor c.serve.new.self c.line.result.now c.in-Ok-Line.field-0
          (c.lines.invariant.underway text before unserved left_is taken_is) line.not_ended
          (subst (λ (l : List ℕ). Cuts c.advance.new.self.ended (unread c.lines.reader (left c.lines.input)) (unread c.advance.new.self (left c.advance.new.input)) l) (sym c.line.ensures) line.cut)
          (subst (λ (l : List ℕ). IsInLine l) (sym c.line.ensures) line.whole)
          c.in-Ok-Line.ensures.served;
      asked = λ text unserved left_is.
          asked_on text c.advance.new.self.ended (unread c.lines.reader (left c.lines.input)) (unread c.advance.new.self (left c.advance.new.input))
          (taken (device_of c.lines.output)) (taken (device_of c.serve.new.output)) c.lines.editor c.serve.new.self c.line.result.now c.in-Ok-Line.field-0
          (c.lines.invariant.asked text unserved left_is)
          (subst (λ (l : List ℕ). Cuts c.advance.new.self.ended (unread c.lines.reader (left c.lines.input)) (unread c.advance.new.self (left c.advance.new.input)) l) (sym c.line.ensures) line.cut)
          (subst (λ (l : List ℕ). IsInLine l) (sym c.line.ensures) line.whole)
          c.in-Ok-Line.ensures.served;
    }

pub returns-in-Err-serve-clause-run : goal.returns-in-Err-serve-clause-run
returns-in-Err-serve-clause-run g c unserved unanswered text before left_is taken_is =
    let left = g.R.Source.left in
    let taken = g.W.Sink.taken in
    let line = gives_line c.lines.reader c.advance.new.self (left c.lines.input) (left c.advance.new.input) (g.R.Source.failed c.lines.input) (g.R.Source.failed c.advance.new.input)
    c.in-Ok-true.field-0 c.in-Ok-true.ensures c.in-Ok-true.field-0-test in
    edit_ended (history_of (run_of c.args.editor.now)) text before (left c.advance.new.input) c.lines.reader.ended c.advance.new.self.ended (unread c.lines.reader (left c.lines.input))
    (unread c.advance.new.self (left c.advance.new.input)) (taken (device_of c.lines.output)) (taken (device_of c.serve.new.output))
    c.lines.editor c.serve.new.self c.line.result.now c.in-Err-serve.ended (c.lines.invariant.underway text before unserved left_is taken_is) line.not_ended
    (subst (λ (l : List ℕ). Cuts c.advance.new.self.ended (unread c.lines.reader (left c.lines.input)) (unread c.advance.new.self (left c.advance.new.input)) l) (sym c.line.ensures) line.cut)
    (subst (λ (l : List ℕ). IsInLine l) (sym c.line.ensures) line.whole) c.in-Err-serve.ensures.served unanswered

pub returns-in-Ok-false-clause-run : goal.returns-in-Ok-false-clause-run
returns-in-Ok-false-clause-run g c unserved unanswered text before left_is taken_is =
    let left = g.R.Source.left in
    let taken = g.W.Sink.taken in
    let end = gives_end c.lines.reader c.advance.new.self (left c.lines.input) (left c.advance.new.input) (g.R.Source.failed c.lines.input) (g.R.Source.failed c.advance.new.input)
    c.in-Ok-false.field-0 c.in-Ok-false.ensures c.in-Ok-false.field-0-test in
    text_ended (history_of (run_of c.args.editor.now)) text before c.lines.reader c.advance.new.self (left c.lines.input) (left c.advance.new.input) (taken (device_of c.lines.output)) (taken (device_of c.finish.new.output))
    (g.R.Source.failed c.lines.input) (g.R.Source.failed c.advance.new.input)
    (run_of c.lines.editor) c.finish.result (c.lines.invariant.underway text before unserved left_is taken_is (sym c.finish.ensures.answered ∙ unanswered)) end c.finish.ensures.ended

pub returns-in-Err-clause-run : goal.returns-in-Err-clause-run
returns-in-Err-clause-run g c unserved unanswered text before left_is taken_is =
    let left = g.R.Source.left in
    let taken = g.W.Sink.taken in
    let failed = g.R.Source.failed in
    let stop = stops_now c.lines.reader c.advance.new.self (left c.lines.input) (left c.advance.new.input) (failed c.lines.input) (failed c.advance.new.input) c.in-Err.stop c.in-Err.ensures
    c.lines.invariant.going in
    cut_off_ended (history_of (run_of c.args.editor.now)) text before c.lines.reader c.advance.new.self (left c.lines.input) (left c.advance.new.input) (taken (device_of c.lines.output)) (taken (device_of c.cut_off.new.output))
    (failed c.lines.input) (failed c.advance.new.input)
    (run_of c.lines.editor) c.in-Err.stop c.cut_off.result stop (c.lines.invariant.underway text before unserved left_is taken_is unanswered) c.cut_off.ensures.ended

pub returns-in-Ok-End-clause-run : goal.returns-in-Ok-End-clause-run
returns-in-Ok-End-clause-run g c unserved unanswered =
    let is : c.in-Ok-End.field-0 ≡ next.End = search in
    absurd (false≢true (sym unanswered ∙ c.in-Ok-End.ensures.ends is))

pub returns-in-Err-serve-clause-left : goal.returns-in-Err-serve-clause-left
returns-in-Err-serve-clause-left g c unserved answered text left_is =
    let left = g.R.Source.left in
    let taken = g.W.Sink.taken in
    let line = gives_line c.lines.reader c.advance.new.self (left c.lines.input) (left c.advance.new.input) (g.R.Source.failed c.lines.input) (g.R.Source.failed c.advance.new.input)
    c.in-Ok-true.field-0 c.in-Ok-true.ensures c.in-Ok-true.field-0-test in
    line_leaves text c.advance.new.self.ended (unread c.lines.reader (left c.lines.input)) (unread c.advance.new.self (left c.advance.new.input))
    (taken (device_of c.lines.output)) (taken (device_of c.serve.new.output)) c.lines.editor c.serve.new.self c.line.result.now
    (Err c.in-Err-serve.ended) (c.lines.invariant.asked text unserved left_is)
    (subst (λ (l : List ℕ). Cuts c.advance.new.self.ended (unread c.lines.reader (left c.lines.input)) (unread c.advance.new.self (left c.advance.new.input)) l) (sym c.line.ensures) line.cut)
    (subst (λ (l : List ℕ). IsInLine l) (sym c.line.ensures) line.whole) c.in-Err-serve.ensures.served answered

pub returns-in-Ok-End-clause-left : goal.returns-in-Ok-End-clause-left
returns-in-Ok-End-clause-left g c unserved answered text left_is =
    let left = g.R.Source.left in
    let taken = g.W.Sink.taken in
    let line = gives_line c.lines.reader c.advance.new.self (left c.lines.input) (left c.advance.new.input) (g.R.Source.failed c.lines.input) (g.R.Source.failed c.advance.new.input)
    c.in-Ok-true.field-0 c.in-Ok-true.ensures c.in-Ok-true.field-0-test in
    line_leaves text c.advance.new.self.ended (unread c.lines.reader (left c.lines.input)) (unread c.advance.new.self (left c.advance.new.input))
    (taken (device_of c.lines.output)) (taken (device_of c.serve.new.output)) c.lines.editor c.serve.new.self c.line.result.now
    (Ok c.in-Ok-End.field-0) (c.lines.invariant.asked text unserved left_is)
    (subst (λ (l : List ℕ). Cuts c.advance.new.self.ended (unread c.lines.reader (left c.lines.input)) (unread c.advance.new.self (left c.advance.new.input)) l) (sym c.line.ensures) line.cut)
    (subst (λ (l : List ℕ). IsInLine l) (sym c.line.ensures) line.whole) c.in-Ok-End.ensures.served answered

pub returns-in-Ok-false-clause-left : goal.returns-in-Ok-false-clause-left
returns-in-Ok-false-clause-left g c unserved answered text left_is =
    asked_leaves text (unread c.lines.reader (g.R.Source.left c.lines.input)) c.lines.editor (c.lines.invariant.asked text unserved left_is) (sym c.finish.ensures.answered ∙ answered)

pub returns-in-Err-clause-left : goal.returns-in-Err-clause-left
returns-in-Err-clause-left g c unserved answered text left_is =
    asked_leaves text (unread c.lines.reader (g.R.Source.left c.lines.input)) c.lines.editor (c.lines.invariant.asked text unserved left_is) answered
