-- What is left of the block, if something is, is put to the table that stood before.
use Rattle.std.proofs.Common.{◌≡◌, ℕ, List, map, subst}
use Rattle.coll_nodes.specs.TableLayout.{collation}
use Rattle.coll_findings.specs.ToldFaults.{Tells}
use Rattle.coll_surveys.specs.DeltaSurveys.{faults_told, found_fault, mended, table_left}
use Rattle.coll_surveys.proofs.TellingLemmas.{on_ok}
use Rattle.coll_surveys.proofs.MendingLemmas.{left_behind, nothing_behind}
use Rattle.coll_surveys.proofs.delta_surveys.DeltaSurvey.judge_at_fault.Goals as goal

pub returns-then-left-clause-left : goal.returns-then-left-clause-left
returns-then-left-clause-left c =
    left_behind (table_left c.args.self.now) (collation c.put_mended.new.table) c.mend-left.result c.mend-left.new.self.statement
    (mended c.args.block.now.statement c.args.found.now) c.put_mended.result c.mend-left.ensures.left c.if-left.true c.put_mended.ensures

pub returns-then-left-clause-told : goal.returns-then-left-clause-told
returns-then-left-clause-told c =
    let before = faults_told c.args.self.now in
    let after = c.tell_found.new.told.told.faults.items in
    let numbers : c.as_slice.result.now ≡ c.args.block.now.numbers.items = cc in
    on_ok c.put_mended.result
    (subst (λ (begins : ℕ). Tells before after (map (found_fault begins c.args.block.now.numbers.items) c.args.found.now)) c.mend-left.ensures.begins
    (subst (λ (l : List ℕ). Tells before after (map (found_fault c.mend-left.new.self.begins l) c.args.found.now)) numbers c.in_ok-tell_found.ensures))

pub returns-clause-left : goal.returns-clause-left
returns-clause-left c =
    nothing_behind (table_left c.args.self.now) c.mend-left.result c.mend-left.new.self.statement (mended c.args.block.now.statement c.args.found.now) c.mend-left.ensures.left c.if-left.false
