-- A body with a node made and put in is sound, and so is one whose node has a key that isn't free, or is refused memory for its keys.
use Rattle.std.proofs.Common.{◌≡◌, Some, sym, ap, subst, ◌∙◌}
use Rattle.coll_order.specs.Sound.{StandOnce}
use Rattle.coll_nodes.specs.Bodies.{IsPlaceAmong}
use Rattle.coll_nodes.specs.BodyInvariant.{IsSoundBody}
use Rattle.coll_nodes.specs.Counting.{HasRoomFor, counts_with}
use Rattle.coll_nodes.specs.KeyedNodes.{leads_nowhere, HasKeysOf, SetsKeys}
use Rattle.coll_nodes.specs.TableLayout.{TableLayout}
use Rattle.coll_nodes.specs.declared.contents.Content.{Content}
use Rattle.coll_nodes.proofs.BodySteps.{place_among_rings}
use Rattle.coll_nodes.proofs.FreeNodes.{free_apart, free_is}
use Rattle.coll_nodes.proofs.LinkedBodies.{ring_for}
use Rattle.coll_nodes.proofs.MadeBodies.{dropped_again, made_known, made_room, no_ring, put_new_sound, reserved_sound}
use Rattle.coll_nodes.proofs.bodies.Body.put_free.Goals as goal

pub invariant_of-self-in-Ok-false : goal.invariant_of-self-in-Ok-false
invariant_of-self-in-Ok-false c =
    let p = c.self.inside in
    let same = c.drop_loose.ensures.layout
    ∙ dropped_again p.nodes.layout c.make.new.self.layout c.in_ok-made.made c.make.ensures.rings c.in_ok-made.ensures.dropped in
    subst (λ (layout : TableLayout). IsSoundBody layout p.declarations p.sections c.put_free.new.self p.counts) (sym same)
    (reserved_sound p.declarations p.sections p.counts p.nodes.layout p.keys c.put_free.new.self c.self.invariant
    (c.in-Ok-false.ensures.taken c.in-Ok-false.field-0-test) c.put_free.ensures.keeps)

pub returns-in-Ok-false-clause-free : goal.returns-in-Ok-false-clause-free
returns-in-Ok-false-clause-free c =
    let p = c.self.inside in
    let layout = p.nodes.layout in
    let known = made_known layout c.make.new.self.layout c.in_ok-made.made c.args.content c.in_ok-made.ensures.made c.in_ok-made.ensures.apart c.make.ensures.rings in
    let it : c.content.result.now ≡ c.args.content = (let f = sym known ∙ c.content.ensures in cc) in
    let free = free_is layout c.self.invariant.shaped p.keys c.self.invariant.found c.args.content c.requires.may in
    rw (← c.self.view_is) (sym c.in-Ok-false.field-0-test ∙ (c.in-Ok-false.ensures.free ∙ (ap (leads_nowhere p.keys) it ∙ free)))

pub invariant_of-self-in-Err : goal.invariant_of-self-in-Err
invariant_of-self-in-Err c =
    let p = c.self.inside in
    let same = c.drop_loose-in-Err.ensures.layout
    ∙ dropped_again p.nodes.layout c.make.new.self.layout c.in_ok-made.made c.make.ensures.rings c.in_ok-made.ensures.dropped in
    subst (λ (layout : TableLayout). IsSoundBody layout p.declarations p.sections c.put_free.new.self p.counts) (sym same)
    (reserved_sound p.declarations p.sections p.counts p.nodes.layout p.keys c.put_free.new.self c.self.invariant c.in-Err.ensures.err
    c.put_free.ensures.keeps)

pub returns-clause-free : goal.returns-clause-free
returns-clause-free c =
    let p = c.self.inside in
    let layout = p.nodes.layout in
    let known = made_known layout c.make.new.self.layout c.in_ok-made.made c.args.content c.in_ok-made.ensures.made c.in_ok-made.ensures.apart c.make.ensures.rings in
    let it : c.content.result.now ≡ c.args.content = (let f = sym known ∙ c.content.ensures in cc) in
    let free = free_is layout c.self.invariant.shaped p.keys c.self.invariant.found c.args.content c.requires.may in
    rw (← c.self.view_is) (sym c.in-Ok-true.field-0-test ∙ (c.in-Ok-true.ensures.free ∙ (ap (leads_nowhere p.keys) it ∙ free)))

pub with-self-inside-requires : goal.with-self-inside-requires
with-self-inside-requires c =
    let p = c.self.inside in
    let old = p.nodes.layout in
    let mid = c.make.new.self.layout in
    let known = made_known old mid c.in_ok-made.made c.args.content c.in_ok-made.ensures.made c.in_ok-made.ensures.apart c.make.ensures.rings in
    let it : c.args.content ≡ c.content-2.result.now = (let f = sym known ∙ c.content-2.ensures in cc) in
    let room = made_room old mid c.in_ok-made.made c.args.content c.in_ok-made.ensures.made c.in_ok-made.ensures.apart c.make.ensures.rings c.self.invariant.shaped c.lemma_layout.ensures
    c.lemma_few.ensures in
    record { room = subst (λ (it : Content). HasRoomFor it p.counts) it (subst (HasRoomFor c.args.content) (sym c.self.invariant.counted) room) }

pub link-requires-clause-place : goal.link-requires-clause-place
link-requires-clause-place c =
    let old = c.self.inside.nodes.layout in
    let at = ring_for old c.args.place c.args.content (rw (← c.self.view_is) at c.requires.fits) in
    subst (λ rings. IsPlaceAmong rings c.args.place) (sym c.make.ensures.rings) (place_among_rings old at.0 c.args.place at.1)

pub invariant_of-self-2 : goal.invariant_of-self-2
invariant_of-self-2 c =
    let p = c.self.inside in
    let old = p.nodes.layout in
    let mid = c.make.new.self.layout in
    let node = c.in_ok-made.made in
    let fits = rw (← c.self.view_is) at c.requires.fits in
    let known = made_known old mid node c.args.content c.in_ok-made.ensures.made c.in_ok-made.ensures.apart c.make.ensures.rings in
    let it : c.content.result.now ≡ c.args.content = (let f = sym known ∙ c.content.ensures in cc) in
    let it_too : c.content-2.result.now ≡ c.args.content = (let f = sym known ∙ c.content-2.ensures in cc) in
    let nowhere = free_is old c.self.invariant.shaped p.keys c.self.invariant.found c.args.content c.requires.may in
    let is = sym nowhere ∙ (sym (ap (leads_nowhere p.keys) it) ∙ (sym c.in-Ok-true.ensures.free ∙ c.in-Ok-true.field-0-test)) in
    let free = free_apart old c.self.invariant.shaped c.args.content c.requires.may is in
    rw (c.link.ensures.layout) (put_new_sound old mid node c.args.content c.in_ok-made.ensures.made c.in_ok-made.ensures.apart c.make.ensures.rings c.args.place p.declarations p.sections p.keys
    c.put_free.new.self p.counts c.with-self-inside.result
    c.self.invariant (subst StandOnce c.make.ensures.rings c.lemma_layout.ensures.once) fits free (no_ring c.args.content _ c.requires.may)
    (subst (λ (x : Content). SetsKeys p.keys c.put_free.new.self x (Some node)) it (c.in-Ok-true.ensures.ok c.in-Ok-true.field-0-test))
    (subst (HasKeysOf c.put_free.new.self) it (c.in-Ok-true.ensures.keys c.in-Ok-true.field-0-test)) c.put_free.ensures.keeps
    (subst (λ (x : Content). c.with-self-inside.result ≡ counts_with x p.counts) it_too c.with-self-inside.ensures))
