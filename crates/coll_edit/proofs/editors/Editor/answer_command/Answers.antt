-- A command that only looks leaves the history.
use Rattle.std.proofs.Common.{◌∙◌}
use Rattle.coll_bench.specs.Serving.{history_of}
use Rattle.coll_edit.specs.Editing.{run_of}
use Rattle.coll_edit.proofs.EditLemmas.{look_leaves}
use Rattle.coll_edit.proofs.editors.Editor.answer_command.Goals as goal

pub returns-clause-history : goal.returns-clause-history
returns-clause-history g c =
    let (starved, sent, history) = c.answer_request.ensures.answered in
    history ∙ look_leaves starved (history_of (run_of c.args.self.now)) c.args.self.now.lines c.args.command c.requires
