-- A block without faults is accepted, and of one with faults what is left is put to the table.
use Rattle.std.proofs.Common.{arith, subst, vec_len}
use Rattle.std.specs.Prelude.{◌≡◌, OnOk}
use Rattle.coll_nodes.specs.Table.{Collation}
use Rattle.coll_surveys.specs.DeltaSurveys.{table_left}
use Rattle.coll_surveys.proofs.MendingLemmas.{accepted_behind, mended_behind}
use Rattle.coll_surveys.proofs.delta_surveys.DeltaSurvey.judge_block.Goals as goal

pub returns-then-is_empty-clause-left : goal.returns-then-is_empty-clause-left
returns-then-is_empty-clause-left c =
    let found = c.in_ok-found.found in
    subst (λ (t : Collation). OnOk c.put.result (table_left c.put.new.self ≡ t))
    (accepted_behind (table_left c.args.self.now) c.args.block.now.statement found.items (vec_len found) (omega (arith, found.ok.0)) (cc) c.in_ok-found.ensures.accepted) c.put.ensures.left

pub returns-clause-left : goal.returns-clause-left
returns-clause-left c =
    let found = c.in_ok-found.found in
    subst (λ (t : Collation). OnOk c.judge_at_fault-judged.result (table_left c.judge_at_fault-judged.new.self ≡ t))
    (mended_behind (table_left c.args.self.now) c.args.block.now.statement found.items c.as_slice.result.now (vec_len found) (cc) c.in_ok-found.ensures.faults c.as_slice.ensures.value
    (omega (arith, found.ok.0)) (cc) c.in_ok-found.ensures.accepted) c.judge_at_fault-judged.ensures.left
