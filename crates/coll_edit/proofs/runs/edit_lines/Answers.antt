-- The reading begins, unless memory is refused.
use Rattle.std.proofs.Common.{refl}
use Rattle.coll_bench.proofs.RunExits.{never_begun}
use Rattle.coll_bench.specs.Serving.{history_of, never_ran}
use Rattle.coll_edit.specs.Editing.{run_of}
use Rattle.coll_edit.specs.Watching.{device_of}
use Rattle.coll_edit.proofs.AskedLemmas.{as_session}
use Rattle.coll_edit.proofs.runs.edit_lines.Goals as goal

pub returns-in-Ok-clause-session : goal.returns-in-Ok-clause-session
returns-in-Ok-clause-session g c unserved =
    let left = g.R.Source.left in
    let taken = g.W.Sink.taken in
    let ran = c.serve_lines-ran.ensures in
    as_session c.args.editor.now c.serve_lines-ran.new.editor (left c.args.input.now) (left c.serve_lines-ran.new.input) (taken (device_of c.args.output.now)) (taken (device_of c.serve_lines-ran.new.output))
    c.serve_lines-ran.result (ran.run unserved) (ran.left unserved)

pub returns-in-Err-clause-run : goal.returns-in-Err-clause-run
returns-in-Err-clause-run g c unserved unanswered text before left_is taken_is =
    never_begun (history_of (run_of c.args.editor.now)) text before (g.R.Source.left c.args.input.now) (g.W.Sink.taken (device_of c.args.output.now)) never_ran refl left_is taken_is

pub returns-in-Err-clause-session : goal.returns-in-Err-clause-session
returns-in-Err-clause-session g c unserved nothing text before left_is taken_is =
    never_begun (history_of (run_of c.args.editor.now)) text before (g.R.Source.left c.args.input.now) (g.W.Sink.taken (device_of c.args.output.now)) never_ran refl left_is taken_is
