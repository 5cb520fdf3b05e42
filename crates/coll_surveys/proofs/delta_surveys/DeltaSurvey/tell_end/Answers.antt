-- The block that is open is judged, and then it is told how the text ends.
use Rattle.std.proofs.Common.{[], ◌∷◌, subst}
use Rattle.std.specs.Prelude.{OnOk}
use Rattle.coll_requests.specs.DeltaFaults.{early_fault}
use Rattle.coll_requests.specs.declared.delta_faults.DeltaFault.{DeltaFault}
use Rattle.coll_faults.specs.Faults.{delta_fault_of}
use Rattle.coll_faults.specs.declared.faults.Fault.{Fault}
use Rattle.coll_surveys.specs.DeltaSurveys.{block_faults, block_left, faults_told, table_left}
use Rattle.coll_findings.specs.ToldFaults.{Tells, at_line}
use Rattle.coll_surveys.proofs.TellingLemmas.{on_ok, told_on_ok}
use Rattle.coll_surveys.proofs.delta_surveys.DeltaSurvey.tell_end.Goals as goal

pub returns-clause-told : goal.returns-clause-told
returns-clause-told c =
    let end = early_fault c.args.end in
    let before = faults_told c.end_block.new.self in
    let after = c.tell.new.told.told.faults.items in
    told_on_ok (faults_told c.args.self.now) before after (block_faults (table_left c.args.self.now) (block_left c.args.self.now)) (at_line end.line (delta_fault_of end.line end.cause) ∷ [])
    c.tell.result c.in_ok-end_block.ensures.told
    (subst (λ (e : DeltaFault). OnOk c.tell.result (Tells before after (at_line e.line (delta_fault_of e.line e.cause) ∷ []))) c.from-fault.ensures
    (subst (λ (f : Fault). OnOk c.tell.result (Tells before after (at_line c.from-fault.result.line f ∷ []))) c.from.ensures c.tell.ensures))

pub returns-clause-left : goal.returns-clause-left
returns-clause-left c = on_ok c.tell.result c.in_ok-end_block.ensures.left
