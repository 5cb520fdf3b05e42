-- A number is handed on by its bytes.
use Rattle.coll_bench.specs.Serving.{history_of}
use Rattle.coll_edit.specs.Editing.{run_of}
use Rattle.coll_edit.proofs.OwnReplyLemmas.{answer_help}
use Rattle.coll_edit.proofs.editors.Editor.write_answer.Goals as goal

pub returns-in-HelpNumber : goal.returns-in-HelpNumber
returns-in-HelpNumber g c =
    answer_help (history_of (run_of c.args.self.now)) c.args.own.now _ c.get.result.now _ _ c.write_number_help.result c.in-HelpNumber.is c.get.ensures.bytes c.write_number_help.ensures.sent
