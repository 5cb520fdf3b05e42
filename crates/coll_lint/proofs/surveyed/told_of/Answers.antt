-- What is rearranged is told once where it was.
use Rattle.std.proofs.Common.{sym, subst}
use Rattle.coll_lint.specs.Orders.{AreRearranged}
use Rattle.coll_findings.specs.declared.collecting.Told.{Told}
use Rattle.coll_lint.proofs.OrderLemmas.{once_rearranged}
use Rattle.coll_lint.proofs.surveyed.told_of.Goals as goal

pub returns-in-Ok-clause-once : goal.returns-in-Ok-clause-once
returns-in-Ok-clause-once c =
    once_rearranged c.args.surveyed.told.faults.items c.into_told.result.faults.items
    (subst (λ (t : Told). AreRearranged c.args.surveyed.told.faults.items t.faults.items) (sym c.into_told.ensures) c.in-Ok.ensures) c.requires
