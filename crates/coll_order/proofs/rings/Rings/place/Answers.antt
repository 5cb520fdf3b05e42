use Rattle.coll_order.specs.Stored.{links_of}
use Rattle.coll_order.specs.Laid.{layout_at}
use Rattle.coll_order.proofs.Calls.{linked_stored, knows_place, stored_place}
use Rattle.coll_order.proofs.LayoutLemmas.{place_linked}
use Rattle.coll_order.proofs.rings.Rings.place.Goals as goal

pub node-requires : goal.node-requires
node-requires c =
    let there = rw (← c.self.view_is) at c.requires.linked in
    linked_stored (links_of c.self.inside.store) c.args.node c.self.invariant.held there

pub unreachable-requires : goal.unreachable-requires
unreachable-requires c =
    let there = rw (← c.self.view_is) at c.requires.linked in
    knows_place (links_of c.self.inside.store) c.args.node c.node.result c.self.invariant.held there c.node.ensures c.in-None.is

pub returns-clause-place : goal.returns-clause-place
returns-clause-place c = rw (← c.self.view_is)
    (stored_place (links_of c.self.inside.store) c.args.node c.node.result c.in-Some.place c.self.invariant.held c.node.ensures c.in-Some.is)

pub returns-clause-there : goal.returns-clause-there
returns-clause-there c = rw (← c.self.view_is)
    (place_linked (layout_at (links_of c.self.inside.store)) c.args.node c.in-Some.place
    (stored_place (links_of c.self.inside.store) c.args.node c.node.result c.in-Some.place c.self.invariant.held c.node.ensures c.in-Some.is))
