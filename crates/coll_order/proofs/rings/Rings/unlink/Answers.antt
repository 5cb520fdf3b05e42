use Rattle.coll_order.specs.Stored.{links_of}
use Rattle.std.proofs.Common.{◌<◌, List, length, ap, sym, ◌∙◌, subst, Option}
use Rattle.std.specs.Option.{option_and_then}
use Rattle.coll_order.specs.Store.{IsStoredIfAny}
use Rattle.coll_order.specs.declared.places.NodeId.{NodeId}
use Rattle.coll_order.specs.declared.places.Place.{Place}
use Rattle.coll_order.specs.declared.places.Place.TheVariants.{After}
use Rattle.coll_order.specs.declared.store.Node.{Node}
use Rattle.coll_order.proofs.Calls.{linked_stored, next_stored, before_read, knows_place, before_stored, own_ring_there, unlink_done}
use Rattle.coll_order.proofs.rings.Rings.unlink.Goals as goal

pub node-found-requires : goal.node-found-requires
node-found-requires c =
    let there = rw (← c.self.view_is) at c.requires.linked in
    linked_stored (links_of c.self.inside.store) c.args.node c.self.invariant.held there

pub unreachable-requires : goal.unreachable-requires
unreachable-requires c =
    let there = rw (← c.self.view_is) at c.requires.linked in
    knows_place (links_of c.self.inside.store) c.args.node c.node-found.result c.self.invariant.held there c.node-found.ensures c.in_default.is

pub join-requires-clause-place : goal.join-requires-clause-place
join-requires-clause-place c =
    before_stored (links_of c.self.inside.store) c.args.node c.in-Some.place c.self.invariant.held
    (before_read (links_of c.self.inside.store) c.args.node c.node-found.result c.node-found.ensures ∙ c.in-Some.is)

pub join-requires-clause-after : goal.join-requires-clause-after
join-requires-clause-after c =
    subst (λ (found : Option NodeId). IsStoredIfAny (links_of c.self.inside.store) found) (ap (option_and_then (λ (n : Node). n.after)) c.node-found.ensures)
    (next_stored (links_of c.self.inside.store) (After c.args.node) c.self.invariant.held)

pub move_end-requires : goal.move_end-requires
move_end-requires c =
    let there = rw (← c.self.view_is) at c.requires.linked in
    subst (λ (lasts : List Place). c.node-found.result.ring.index < length lasts) (sym (c.detach.ensures.keeps.lasts ∙ c.join.ensures.keeps.lasts))
    (own_ring_there (links_of c.self.inside.store) c.args.node c.node-found.result c.self.invariant there c.node-found.ensures)

pub invariant_of-self : goal.invariant_of-self
invariant_of-self c = (unlink_done (links_of c.self.inside.store) (links_of c.join.new.self) (links_of c.detach.new.self) (links_of c.move_end.new.self) c.args.node c.node-found.result c.in-Some.place
    c.self.invariant c.node-found.ensures c.in-Some.is c.join.ensures c.detach.ensures c.move_end.ensures).kept

pub returns-clause-place : goal.returns-clause-place
returns-clause-place c = rw (← c.self.view_is) (unlink_done (links_of c.self.inside.store) (links_of c.join.new.self) (links_of c.detach.new.self) (links_of c.move_end.new.self) c.args.node
    c.node-found.result c.in-Some.place c.self.invariant c.node-found.ensures c.in-Some.is c.join.ensures c.detach.ensures c.move_end.ensures).stood

pub returns-clause-layout : goal.returns-clause-layout
returns-clause-layout c = rw (← c.self.view_is) (unlink_done (links_of c.self.inside.store) (links_of c.join.new.self) (links_of c.detach.new.self) (links_of c.move_end.new.self) c.args.node
    c.node-found.result c.in-Some.place c.self.invariant c.node-found.ensures c.in-Some.is c.join.ensures c.detach.ensures c.move_end.ensures).layout

pub returns-clause-loose : goal.returns-clause-loose
returns-clause-loose c = (unlink_done (links_of c.self.inside.store) (links_of c.join.new.self) (links_of c.detach.new.self) (links_of c.move_end.new.self) c.args.node c.node-found.result
    c.in-Some.place c.self.invariant c.node-found.ensures c.in-Some.is c.join.ensures c.detach.ensures c.move_end.ensures).loose

pub returns-clause-back : goal.returns-clause-back
returns-clause-back c = (unlink_done (links_of c.self.inside.store) (links_of c.join.new.self) (links_of c.detach.new.self) (links_of c.move_end.new.self) c.args.node c.node-found.result
    c.in-Some.place c.self.invariant c.node-found.ensures c.in-Some.is c.join.ensures c.detach.ensures c.move_end.ensures).back
