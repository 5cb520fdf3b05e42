-- Each fault is told behind those before it.
use Rattle.std.proofs.Common.{ℕ, [], ◌∷◌, subst}
use Rattle.coll_faults.specs.declared.faults.Fault.TheVariants as fault
use Rattle.coll_surveys.specs.DeltaSurveys.{found_fault}
use Rattle.coll_findings.specs.ToldFaults.{Tells}
use Rattle.coll_surveys.proofs.TellingLemmas.{told_all, told_more}
use Rattle.coll_surveys.proofs.delta_surveys.tell_found.Goals as goal

pub loop-fault-preserved : goal.loop-fault-preserved
loop-fault-preserved c =
    let before = c.loop-fault.told.told.faults.items in
    let after = c.tell_saying.new.self.told.faults.items in
    told_more c.args.told.now.told.faults.items before after (found_fault c.args.begins c.args.numbers.now) c.args.found.now c.loop-fault.fault-index c.fault-item.result c.loop-fault-test.true c.fault-item.is
    c.loop-fault.invariant
    (subst (λ (at : ℕ). Tells before after (record { begins = c.args.begins; line = at; fault = fault.Table c.fault-item.result.refusal } ∷ [])) c.line_of-line.ensures c.in_ok-tell_saying.ensures)

pub returns : goal.returns
returns c =
    told_all c.args.told.now.told.faults.items c.loop-fault.told.told.faults.items (found_fault c.args.begins c.args.numbers.now) c.args.found.now c.loop-fault.fault-index c.loop-fault-test.false
    c.loop-fault.invariant
