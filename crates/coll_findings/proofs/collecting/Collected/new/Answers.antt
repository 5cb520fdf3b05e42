-- Nothing was told.
use Rattle.std.proofs.Common.{List, sym, subst}
use Rattle.coll_findings.specs.ToldFaults.{AreOnce}
use Rattle.coll_findings.specs.declared.findings.FoundFault.{FoundFault}
use Rattle.coll_findings.proofs.OnceLemmas.{once_none}
use Rattle.coll_findings.proofs.collecting.Collected.new.Goals as goal

pub invariant_of-result : goal.invariant_of-result
invariant_of-result c = record { once = subst (λ (l : List FoundFault). AreOnce l) (sym c.new.ensures.items) once_none }
