-- What is told behind the first fault is what the survey told.
use Rattle.std.proofs.Common.{map, subst, sym}
use Rattle.coll_findings.specs.ToldFaults.{told_fault}
use Rattle.coll_lint.specs.Lints.{AreGiven}
use Rattle.coll_lint.proofs.GivenLemmas.{given_first}
use Rattle.coll_lint.proofs.linting.refused.Goals as goal

pub returns-in-Ok-clause-given : goal.returns-in-Ok-clause-given
returns-in-Ok-clause-given c =
    let surveyed = c.args.surveyed.told.faults.items in
    subst (AreGiven (map told_fault surveyed)) (sym c.new.ensures)
    (given_first c.args.first surveyed c.in_ok-faults.field-0.faults.items c.put_first.new.faults.items c.in_ok-faults.ensures.order c.in-Ok.ensures.others)
