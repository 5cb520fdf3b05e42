use Rattle.coll_order.specs.Stored.{links_of}
use Rattle.std.proofs.Common.{◌<◌, List, length, sym, ◌∙◌, subst, Option}
use Rattle.coll_order.specs.Store.{IsStoredIfAny}
use Rattle.coll_order.specs.declared.places.NodeId.{NodeId}
use Rattle.coll_order.specs.declared.places.Place.{Place}
use Rattle.coll_order.proofs.Calls.{place_stored, node_stored, next_stored, any_stays_stored, ring_there, link_done}
use Rattle.coll_order.proofs.rings.Rings.link.Goals as goal

pub ring-ring-requires : goal.ring-ring-requires
ring-ring-requires c =
    let there = rw (← c.self.view_is) at c.requires.place in
    place_stored (links_of c.self.inside.store) c.args.place c.self.invariant.held there

pub next-after-requires : goal.next-after-requires
next-after-requires c =
    let there = rw (← c.self.view_is) at c.requires.place in
    place_stored (links_of c.self.inside.store) c.args.place c.self.invariant.held there

pub join-requires-clause-place : goal.join-requires-clause-place
join-requires-clause-place c =
    let there = rw (← c.self.view_is) at c.requires.place in
    place_stored (links_of c.self.inside.store) c.args.place c.self.invariant.held there

pub join-requires-clause-after : goal.join-requires-clause-after
join-requires-clause-after c =
    let loose = rw (← c.self.view_is) at c.requires.loose in
    node_stored (links_of c.self.inside.store) c.args.node loose.made

pub join-requires-2-clause-after : goal.join-requires-2-clause-after
join-requires-2-clause-after c =
    any_stays_stored (links_of c.self.inside.store) (links_of c.join.new.self) c.next-after.result c.join.ensures.keeps
    (subst (λ (found : Option NodeId). IsStoredIfAny (links_of c.self.inside.store) found) (sym c.next-after.ensures)
    (next_stored (links_of c.self.inside.store) c.args.place c.self.invariant.held))

pub move_end-requires : goal.move_end-requires
move_end-requires c =
    let there = rw (← c.self.view_is) at c.requires.place in
    subst (λ (lasts : List Place). c.ring-ring.result.index < length lasts) (sym (c.set_ring.ensures.lasts ∙ (c.join-2.ensures.keeps.lasts ∙ c.join.ensures.keeps.lasts)))
    (ring_there (links_of c.self.inside.store) c.args.place c.ring-ring.result c.self.invariant there c.ring-ring.ensures)

pub invariant_of-self : goal.invariant_of-self
invariant_of-self c =
    let loose = rw (← c.self.view_is) at c.requires.loose in
    let there = rw (← c.self.view_is) at c.requires.place in
    (link_done (links_of c.self.inside.store) (links_of c.join.new.self) (links_of c.join-2.new.self) (links_of c.set_ring.new.self) (links_of c.move_end.new.self) c.args.node c.args.place
    c.ring-ring.result c.next-after.result c.self.invariant loose there c.ring-ring.ensures c.next-after.ensures c.join.ensures c.join-2.ensures c.set_ring.ensures c.move_end.ensures).kept

pub returns-clause-layout : goal.returns-clause-layout
returns-clause-layout c =
    let loose = rw (← c.self.view_is) at c.requires.loose in
    let there = rw (← c.self.view_is) at c.requires.place in
    rw (← c.self.view_is) (link_done (links_of c.self.inside.store) (links_of c.join.new.self) (links_of c.join-2.new.self) (links_of c.set_ring.new.self) (links_of c.move_end.new.self) c.args.node
    c.args.place c.ring-ring.result c.next-after.result c.self.invariant loose there c.ring-ring.ensures c.next-after.ensures c.join.ensures c.join-2.ensures c.set_ring.ensures
    c.move_end.ensures).layout

pub returns-clause-linked : goal.returns-clause-linked
returns-clause-linked c =
    let loose = rw (← c.self.view_is) at c.requires.loose in
    let there = rw (← c.self.view_is) at c.requires.place in
    (link_done (links_of c.self.inside.store) (links_of c.join.new.self) (links_of c.join-2.new.self) (links_of c.set_ring.new.self) (links_of c.move_end.new.self) c.args.node c.args.place
    c.ring-ring.result c.next-after.result c.self.invariant loose there c.ring-ring.ensures c.next-after.ensures c.join.ensures c.join-2.ensures c.set_ring.ensures c.move_end.ensures).there
