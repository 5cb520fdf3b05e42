-- A body with a node put in is sound.
use Rattle.std.proofs.Common.{◌≡◌, Some, sym, subst, ◌∙◌}
use Rattle.coll_nodes.specs.Counting.{HasRoomFor}
use Rattle.coll_nodes.specs.Moving.{IsApart, IsPlaceFor}
use Rattle.coll_nodes.proofs.BodySteps.{place_among_rings}
use Rattle.coll_nodes.proofs.LinkedBodies.{put_sound, ring_for}
use Rattle.coll_nodes.proofs.NodeCounts.{has_room}
use Rattle.coll_nodes.proofs.bodies.Body.put_in.Goals as goal

pub with-self-inside-requires : goal.with-self-inside-requires
with-self-inside-requires c =
    let layout = c.self.inside.nodes.layout in
    let loose = rw (← c.self.view_is) at c.requires.loose in
    record {
      room = subst (HasRoomFor c.content-content.result.now) (sym c.self.invariant.counted)
          (has_room layout c.args.node c.lemma_layout.ensures c.self.invariant.shaped c.lemma_few.ensures loose c.content-content.result.now);
    }

pub link-requires-clause-place : goal.link-requires-clause-place
link-requires-clause-place c =
    let suits = rw (← c.self.view_is) at c.requires.suits in
    let at = ring_for c.self.inside.nodes.layout c.args.place suits.0 suits.2.0 in
    place_among_rings c.self.inside.nodes.layout at.0 c.args.place at.1

pub invariant_of-self : goal.invariant_of-self
invariant_of-self c =
    let p = c.self.inside in
    let suits = rw (← c.self.view_is) at c.requires.suits in
    let loose = rw (← c.self.view_is) at c.requires.loose in
    let found : Some c.content-content.result.now ≡ Some suits.0 = sym c.content-content.ensures ∙ suits.1 in
    let it : suits.0 ≡ c.content-content.result.now = cc in
    rw (c.link.ensures.layout) (put_sound p.nodes.layout c.args.node c.content-content.result.now c.args.place p.declarations p.sections p.keys c.set.new.self p.counts c.with-self-inside.result
    c.self.invariant c.lemma_layout.ensures.once c.content-content.ensures loose.apart (subst (IsPlaceFor p.nodes.layout c.args.place) it suits.2.0) (subst (IsApart p.nodes.layout) it suits.2.1)
    c.set.ensures.set c.set.ensures.keeps c.with-self-inside.ensures)
