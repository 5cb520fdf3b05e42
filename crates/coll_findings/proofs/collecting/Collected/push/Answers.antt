-- The fault that is told wasn't told before.
use Rattle.std.proofs.Common.{List, reverse, sym, ap, ◌∙◌}
use Rattle.std.specs.List.{list_any}
use Rattle.coll_findings.specs.ToldFaults.{are_same}
use Rattle.coll_findings.specs.declared.findings.FoundFault.{FoundFault}
use Rattle.coll_findings.proofs.OnceLemmas.{once_grown}
use Rattle.coll_findings.proofs.collecting.Collected.push.Goals as goal

pub invariant_of-self-2 : goal.invariant_of-self-2
invariant_of-self-2 c = record {
  once = once_grown c.args.self.now.told.faults.items c.push.new.self.items c.args.found _ c.push.ensures.items c.args.self.now.once
      (ap (λ (l : List FoundFault). list_any (are_same c.args.found) (reverse l)) (sym c.as_slice.ensures.value) ∙ (sym c.is_told.ensures ∙ c.if-is_told.false));
}
