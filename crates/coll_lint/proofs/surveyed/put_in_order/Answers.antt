-- The faults are sorted, and then get names that are near.
use Rattle.std.proofs.Common.{List, arith, sym, subst}
use Rattle.std.specs.Prelude.{OnOk}
use Rattle.std.proofs.lemmas.List.Sorted.{IsPermutation-map}
use Rattle.coll_lint.specs.Orders.{AreRearranged, bare_fault}
use Rattle.coll_findings.specs.declared.findings.FoundFault.{FoundFault}
use Rattle.coll_lint.proofs.OrderLemmas.{then_near, written_whole}
use Rattle.coll_lint.proofs.surveyed.put_in_order.Goals as goal

pub returns-in-Some : goal.returns-in-Some
returns-in-Some c =
    let sorted = c.sort_by.new.self in
    let named = c.seek_near_names.new.faults in
    subst (λ (l : List FoundFault). OnOk c.seek_near_names.result (AreRearranged c.args.surveyed.now.told.faults.items l))
    (sym (written_whole named sorted.items sorted.len (omega (arith, c.seek_near_names.ensures.len, c.as_mut_slice.ensures.len))))
    (then_near c.args.surveyed.now.told.faults.items sorted.items c.as_mut_slice.result.now named c.seek_near_names.result c.sort_by.ensures.permutation c.as_mut_slice.ensures.value c.seek_near_names.ensures.same)

pub returns-in-None : goal.returns-in-None
returns-in-None c = IsPermutation-map bare_fault c.args.surveyed.now.told.faults.items c.sort_by.new.self.items c.sort_by.ensures.permutation
