-- The statement is judged over the table that stood before.
use Rattle.coll_surveys.specs.DeltaSurveys.{block_left, faults_told, open_faults, statement_faults, table_left}
use Rattle.std.proofs.Common.{[]}
use Rattle.coll_surveys.proofs.DeltaLemmas.{alone_leaves}
use Rattle.coll_surveys.proofs.TellingLemmas.{on_ok, told_on}
use Rattle.coll_surveys.proofs.delta_surveys.DeltaSurvey.judge_alone.Goals as goal

pub returns-clause-told : goal.returns-clause-told
returns-clause-told c =
    told_on (faults_told c.args.self.now) c.tell_open.new.told.told.faults.items (faults_told c.judge.new.self) (open_faults (block_left c.args.self.now) c.args.number)
    (statement_faults (table_left c.args.self.now) c.args.number [] c.args.statement.now) c.in_ok-tell_open.ensures c.in_ok-judge.ensures.told

pub returns-clause-left : goal.returns-clause-left
returns-clause-left c = alone_leaves c.args.self.now c.judge.new.self c.args.statement.now c.in_ok-judge.ensures.left c.in_ok-judge.ensures.block

pub returns-then-branch-clause-told : goal.returns-then-branch-clause-told
returns-then-branch-clause-told c =
    on_ok c.note.result
    (told_on (faults_told c.args.self.now) c.tell_open.new.told.told.faults.items (faults_told c.judge.new.self) (open_faults (block_left c.args.self.now) c.args.number)
    (statement_faults (table_left c.args.self.now) c.args.number [] c.args.statement.now) c.in_ok-tell_open.ensures c.in_ok-judge.ensures.told)

pub returns-then-branch-clause-left : goal.returns-then-branch-clause-left
returns-then-branch-clause-left c =
    on_ok c.note.result (alone_leaves c.args.self.now c.judge.new.self c.args.statement.now c.in_ok-judge.ensures.left c.in_ok-judge.ensures.block)
