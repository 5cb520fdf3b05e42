-- The block that is open is judged, and no block is open behind it.
use Rattle.std.proofs.Common.{sym, ◌∙◌}
use Rattle.std.specs.Prelude.{option_map}
use Rattle.coll_surveys.specs.DeltaSurveys.{ended_state, faults_told, table_left}
use Rattle.coll_surveys.proofs.DeltaLemmas.{ended_leaves, ended_told, none_ends}
use Rattle.coll_surveys.proofs.delta_surveys.DeltaSurvey.end_block.Goals as goal

pub returns-in-Some-clause-told : goal.returns-in-Some-clause-told
returns-in-Some-clause-told c =
    ended_told (faults_told c.args.self.now) (faults_told c.judge_ended.new.self) (table_left c.args.self.now) c.args.self.now.block c.in-Some.block (option_map ended_state c.end.result)
    c.judge_ended.result (sym c.take.ensures.value ∙ c.in-Some.is) c.end.ensures.ended c.judge_ended.ensures.told

pub returns-in-Some-clause-left : goal.returns-in-Some-clause-left
returns-in-Some-clause-left c =
    ended_leaves c.args.self.now c.judge_ended.new.self c.in-Some.block (option_map ended_state c.end.result) c.judge_ended.result (sym c.take.ensures.value ∙ c.in-Some.is) c.end.ensures.ended
    c.judge_ended.ensures.left (c.judge_ended.ensures.block ∙ c.take.ensures.after)

pub returns-in-None-clause-left : goal.returns-in-None-clause-left
returns-in-None-clause-left c =
    none_ends (table_left c.args.self.now) c.args.self.now.block c.take.new.self (sym c.take.ensures.value ∙ c.in-None.is) c.take.ensures.after
