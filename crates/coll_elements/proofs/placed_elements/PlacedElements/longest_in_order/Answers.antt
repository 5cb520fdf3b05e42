-- The last string that the text begins with is that of its longest element.
use Rattle.std.proofs.Common.{◌-◌, length, ap, arith}
use Rattle.coll_elements.proofs.FoundElements.{none_found, found_there, place_within}
use Rattle.coll_elements.proofs.placed_elements.PlacedElements.longest_in_order.Goals as goal

pub returns-then-among-eq0 : goal.returns-then-among-eq0
returns-then-among-eq0 c = λ rest begins.
    rw (← c.self.view_is) (none_found c.self.inside.named c.self.inside.ordered.items _ c.args.text.now _ c.self.invariant.1 c.utf8.text c.deref.ensures.value
    (c.last_begun_with-among.ensures.last rest begins) (omega (arith, c.if-among-eq0.true)))

pub index-requires : goal.index-requires
index-requires c = omega (arith, c.if-among-eq0.false, c.last_begun_with-among.ensures.within, ap length c.deref.ensures.value, c.self.inside.ordered.ok.0)

pub found_at-requires : goal.found_at-requires
found_at-requires c = place_within c.self.inside.named c.self.inside.ordered.items (c.last_begun_with-among.result - 1) _ c.index.result.now c.self.invariant.1
    (omega (arith, c.if-among-eq0.false, c.last_begun_with-among.ensures.within, ap length c.deref.ensures.value)) c.index.ensures c.place-place.ensures

pub returns : goal.returns
returns c = λ rest begins.
    rw (← c.self.view_is) (found_there c.self.inside.named c.self.inside.ordered.items _ c.args.text.now c.last_begun_with-among.result _ c.index.result.now _ c.self.invariant.1
    c.self.invariant.0.ascending c.utf8.text c.deref.ensures.value c.last_begun_with-among.ensures.within (c.last_begun_with-among.ensures.last rest begins) (omega (arith, c.if-among-eq0.false))
    c.index.ensures c.place-place.ensures c.found_at.ensures)
