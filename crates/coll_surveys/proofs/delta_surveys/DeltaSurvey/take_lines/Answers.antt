-- What is told of all lines is told behind each other, and then how the text ends.
use Rattle.coll_surveys.proofs.DeltaLemmas.{left_early, left_ended, told_early, told_ended}
use Rattle.coll_surveys.proofs.delta_surveys.DeltaSurvey.take_lines.Goals as goal

pub returns-in-Some-clause-told : goal.returns-in-Some-clause-told
returns-in-Some-clause-told c =
    told_early c.args.text.now c.args.self.now c.survey_lines.new.taker c.tell_end.new.self c.in_ok-end.field-0 c.in-Some.end c.tell_end.result c.in_ok-end.ensures.taken c.in_ok-end.ensures.ended
    c.in-Some.is c.tell_end.ensures.told

pub returns-in-Some-clause-left : goal.returns-in-Some-clause-left
returns-in-Some-clause-left c =
    left_early c.args.text.now c.args.self.now c.survey_lines.new.taker c.tell_end.new.self c.in_ok-end.field-0 c.in-Some.end c.tell_end.result c.in_ok-end.ensures.taken c.in_ok-end.ensures.ended
    c.in-Some.is c.tell_end.ensures.left

pub returns-in-None-clause-told : goal.returns-in-None-clause-told
returns-in-None-clause-told c = told_ended c.args.text.now c.args.self.now c.survey_lines.new.taker c.in_ok-end.ensures.taken

pub returns-in-None-clause-left : goal.returns-in-None-clause-left
returns-in-None-clause-left c =
    left_ended c.args.text.now c.args.self.now c.survey_lines.new.taker c.in_ok-end.field-0 c.in_ok-end.ensures.taken c.in_ok-end.ensures.ended c.in-None.is
