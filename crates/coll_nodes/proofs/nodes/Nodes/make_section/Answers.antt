-- A section's node more, under a tag that was free.
use Rattle.std.proofs.Common.{◌≡◌, ◌≢◌, ℕ, Some, None, ap, ◌∙◌, sym, refl}
use Rattle.coll_order.specs.declared.places.RingId.{RingId}
use Rattle.coll_order.specs.Changes.{with_node}
use Rattle.slab.specs.Slab.{Slab}
use Rattle.coll_nodes.specs.Bodies.{Makes, layout_with, slot_of}
use Rattle.coll_nodes.specs.declared.contents.Content.{Content}
use Rattle.coll_nodes.specs.declared.contents.Content.TheVariants.{Begun}
use Rattle.coll_nodes.proofs.NodeLemmas.{made_more, made_contents}
use Rattle.coll_nodes.proofs.nodes.Nodes.make_section.Goals as goal

-- the tag is the key of the slab
tag_is : (c : goal.After-insert_reserved) → c.insert_reserved.result ≡ c.vacant_key.result
tag_is c = c.insert_reserved.ensures.key ∙ sym c.vacant_key.ensures.value

-- room is made, and nothing else
kept : (c : goal.After-insert_reserved) → c.reserve.new.self.slots ≡ c.self.inside.contents.slots
kept c = ap (λ (s : Slab Content). s.slots) c.in_ok-reserve.ensures.rest_kept

free : (c : goal.After-insert_reserved) → slot_of c.self.inside.contents.slots c.vacant_key.result ≡ None
free c = ap (λ slots. slot_of slots c.vacant_key.result) (sym (kept c)) ∙ c.vacant_key.ensures.vacant

filled : (c : goal.After-insert_reserved) → slot_of c.insert_reserved.new.self.slots c.vacant_key.result ≡ Some (Begun c.args.name c.in_ok-node.ring)
filled c = ap (slot_of c.insert_reserved.new.self.slots) (sym (tag_is c)) ∙ c.insert_reserved.ensures.updates.changed

others : (c : goal.After-insert_reserved) → (other : ℕ) → other ≢ c.vacant_key.result → slot_of c.insert_reserved.new.self.slots other ≡ slot_of c.self.inside.contents.slots other
others c other differ = c.insert_reserved.ensures.updates.others other (λ same. differ (same ∙ tag_is c)) ∙ ap (λ slots. slot_of slots other) (kept c)

-- the node is made, whatever the rings
made : (c : goal.After-insert_reserved) → Makes (layout_with c.self.inside.rings.layout c.self.inside.contents.slots)
    (layout_with (with_node c.self.inside.rings.layout c.in_ok-node.node c.vacant_key.result) c.insert_reserved.new.self.slots) c.in_ok-node.node (Begun c.args.name c.in_ok-node.ring)
made c = made_contents c.self.inside.rings.layout c.self.inside.contents.slots c.insert_reserved.new.self.slots c.in_ok-node.node c.vacant_key.result (Begun c.args.name c.in_ok-node.ring)
    c.self.invariant c.in_ok-node.ensures.fresh (free c) (filled c) (others c)

pub invariant_of-self-2 : goal.invariant_of-self-2
invariant_of-self-2 c = rw (c.in_ok-node.ensures.ok)
    (made_more c.self.inside.rings.layout c.self.inside.contents.slots c.insert_reserved.new.self.slots c.in_ok-node.node c.vacant_key.result (Begun c.args.name c.in_ok-node.ring)
    c.self.invariant c.in_ok-node.ensures.fresh (free c) (filled c) (others c))

pub returns-clause-made : goal.returns-clause-made
returns-clause-made c = rw (← c.self.view_is, c.in_ok-node.ensures.ok) (record {
  node = record { fresh = (made c).fresh; contents = (made c).contents };
  apart = c.in_ok-node.ensures.apart;
  ring = ap (λ (ring : RingId). ring.index) c.in_ok-node.ensures.ring;
  rings = refl;
})
