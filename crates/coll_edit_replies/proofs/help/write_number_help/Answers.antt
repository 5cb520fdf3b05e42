-- A name and a sentence are told, where the text is a number that has them.
use Rattle.std.proofs.Common.{◌≡◌, Ok, Some, None, true, false, rules}
use Rattle.coll_advice.specs.FaultNumbers.{is_fault_number}
use Rattle.coll_edit_replies.proofs.help.write_number_help.Goals as goal

pub returns-in-Some-clause-sent : goal.returns-in-Some-clause-sent
returns-in-Some-clause-sent g c =
    let told : true ≡ is_fault_number c.in-Ok.number = rw c.in-Some.is at c.advice_of.ensures in
    let advice = c.in-Some.advice in
    (Ok c.in-Ok.number, search rules, (Some (advice.name.now, advice.sentence.now), told, c.write_advised.ensures.sent))

pub returns-in-None-clause-sent : goal.returns-in-None-clause-sent
returns-in-None-clause-sent g c =
    let told : false ≡ is_fault_number c.in-Ok.number = rw c.in-None.is at c.advice_of.ensures in
    (Ok c.in-Ok.number, search rules, (None, told, c.write_refusal.ensures.sent))
