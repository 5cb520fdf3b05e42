-- The block that is open is judged, and then it is told that it wasn't ended.
use Rattle.std.proofs.Common.{List, [], ◌∷◌, ap, sym, subst}
use Rattle.std.specs.Prelude.{OnOk, option_map}
use Rattle.coll_faults.specs.declared.faults.Fault.TheVariants as fault
use Rattle.coll_surveys.specs.DeltaSurveys.{block_faults, block_left, block_state, faults_told, table_left}
use Rattle.coll_findings.specs.ToldFaults.{LineFault, Tells, at_line}
use Rattle.coll_surveys.proofs.DeltaLemmas.{none_ends}
use Rattle.coll_surveys.proofs.TellingLemmas.{category_ended, on_ok, told_on_ok}
use Rattle.coll_surveys.proofs.delta_surveys.DeltaSurvey.end_category.Goals as goal

pub returns-in_ok-end_block-in-Some-clause-told : goal.returns-in_ok-end_block-in-Some-clause-told
returns-in_ok-end_block-in-Some-clause-told c =
    let table = table_left c.args.self.now in
    let block = block_left c.args.self.now in
    let after = c.tell.new.told.told.faults.items in
    subst (λ (l : List LineFault). OnOk c.tell.result (Tells (faults_told c.args.self.now) after l))
    (sym (category_ended table block (block_state c.in-Some.field-0) c.args.number (ap (option_map block_state) c.in-Some.is)))
    (told_on_ok (faults_told c.args.self.now) (faults_told c.end_block.new.self) after (block_faults table block) (at_line c.args.number fault.BlockNotEnded ∷ [])
    c.tell.result c.in_ok-end_block-in-Some.ensures.told c.tell.ensures)

pub returns-in_ok-end_block-in-Some-clause-left : goal.returns-in_ok-end_block-in-Some-clause-left
returns-in_ok-end_block-in-Some-clause-left c = on_ok c.tell.result c.in_ok-end_block-in-Some.ensures.left

pub returns-in-None-clause-left : goal.returns-in-None-clause-left
returns-in-None-clause-left c = none_ends (table_left c.args.self.now) c.args.self.now.block c.args.self.now.block c.in-None.is c.in-None.is
