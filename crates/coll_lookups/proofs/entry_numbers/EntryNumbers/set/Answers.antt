-- The slot of one node is written, behind what there was room for.
use Rattle.std.proofs.Common.{◌<◌, cond, length, ap, ◌∙◌, arith}
use Rattle.coll_order.specs.Lists.{same_node}
use Rattle.coll_lookups.proofs.FollowedNumbers.{grown_counted, grown_told, set_counted, set_told}
use Rattle.coll_lookups.proofs.entry_numbers.EntryNumbers.set.Goals as goal

pub invariant_of-self : goal.invariant_of-self
invariant_of-self c = grown_counted c.self.inside.before _ c.self.inside.slots.items c.make_room.new.slots.items _ (omega (arith, c.len.ensures.value)) c.make_room.ensures.same c.self.invariant

pub invariant_of-self-2 : goal.invariant_of-self-2
invariant_of-self-2 c =
    set_counted c.self.inside.before _ c.make_room.new.slots.items _ _ (omega (arith, c.len.ensures.value)) (grown_counted c.self.inside.before _ c.self.inside.slots.items c.make_room.new.slots.items _ (omega (arith, c.len.ensures.value)) c.make_room.ensures.same c.self.invariant)

pub returns : goal.returns
returns c = λ other.
    let p = c.self.inside in
    let within : c.args.node.key < length c.make_room.new.slots.items = omega (arith, c.in_ok-make_room.ensures.within, c.make_room.auto.slots, c.number-place.ensures) in
    rw (← c.self.view_is, c.number-place.ensures)
    (set_told p.before p.moves.items c.make_room.new.slots.items _ c.args.number c.args.node other (omega (arith, c.len.ensures.value)) within
    ∙ ap (cond (same_node other c.args.node) c.args.number) (grown_told p.before p.moves.items p.slots.items c.make_room.new.slots.items _ (omega (arith, c.len.ensures.value)) c.make_room.ensures.same other))
