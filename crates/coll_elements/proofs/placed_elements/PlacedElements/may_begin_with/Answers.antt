-- A character that has no end begins no element.
use Rattle.std.proofs.Common.{◌≤◌}
use Rattle.std.proofs.lemmas.Bool.{ltb-false}
use Rattle.coll_elements.proofs.FoundElements.{none_begins_so}
use Rattle.coll_elements.proofs.placed_elements.PlacedElements.may_begin_with.Goals as goal

pub returns : goal.returns
returns c = λ rest none.
    let no_end : c.get.result ≤ 0 = ltb-false 0 c.get.result none in
    rw (← c.self.view_is) (none_begins_so c.self.inside.named c.self.inside.ordered.items _ _ c.args.first c.get.result rest c.self.invariant.1 c.self.invariant.0 c.get.ensures no_end)
