-- What is told of all lines is told behind each other, and then how the text ends.
use Rattle.std.proofs.Common.{[], ◌∷◌, subst}
use Rattle.std.specs.Prelude.{OnOk}
use Rattle.coll_devices.specs.PhysicalLines.{lines_of}
use Rattle.coll_findings.specs.SurveyedLines.{ended_early, first_lines}
use Rattle.coll_texts.specs.declared.load_faults.LoadFault.{LoadFault}
use Rattle.coll_findings.specs.ToldFaults.{Tells}
use Rattle.coll_surveys.specs.TableSurveys.{end_faults, ends_table, lines_faults, load_fault, survey_state, table_lines, told_of_table}
use Rattle.coll_surveys.proofs.TableLemmas.{lines_leave, lines_told, told_more_given, told_to_end}
use Rattle.coll_surveys.proofs.TellingLemmas.{on_ok}
use Rattle.coll_surveys.proofs.table_surveys.TableSurvey.take_all.Goals as goal

pub returns-in-Some-clause-told : goal.returns-in-Some-clause-told
returns-in-Some-clause-told c =
    told_to_end (table_lines c.args.text.now) c.args.self.now c.survey_lines.new.taker c.tell.new.told.told.faults.items c.in_ok-end.field-0
    (ended_early ends_table first_lines (lines_of c.args.text.now)) c.in-Some.end c.tell.result c.in_ok-end.ensures.taken c.in_ok-end.ensures.ended c.in-Some.is
    (subst (λ (f : LoadFault). OnOk c.tell.result (Tells (told_of_table c.survey_lines.new.taker) c.tell.new.told.told.faults.items (load_fault f ∷ []))) c.from.ensures c.tell.ensures)

pub returns-in-Some-clause-left : goal.returns-in-Some-clause-left
returns-in-Some-clause-left c =
    on_ok c.tell.result (lines_leave (table_lines c.args.text.now) c.args.self.now c.survey_lines.new.taker c.in_ok-end.ensures.taken)

pub returns-in-None-clause-told : goal.returns-in-None-clause-told
returns-in-None-clause-told c =
    told_more_given (told_of_table c.args.self.now) (told_of_table c.survey_lines.new.taker) (lines_faults (survey_state c.args.self.now) (table_lines c.args.text.now))
    (end_faults (ended_early ends_table first_lines (lines_of c.args.text.now))) (lines_told (table_lines c.args.text.now) c.args.self.now c.survey_lines.new.taker c.in_ok-end.ensures.taken)

pub returns-in-None-clause-left : goal.returns-in-None-clause-left
returns-in-None-clause-left c = lines_leave (table_lines c.args.text.now) c.args.self.now c.survey_lines.new.taker c.in_ok-end.ensures.taken
