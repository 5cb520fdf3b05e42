-- A body with a node moved is sound.
use Rattle.std.proofs.Common.{sym, subst}
use Rattle.coll_nodes.specs.Bodies.{IsPlaceAmong, without_link}
use Rattle.coll_nodes.specs.TableLayout.{TableLayout}
use Rattle.coll_nodes.proofs.BodySteps.{place_among_rings}
use Rattle.coll_nodes.proofs.LinkedBodies.{ring_for}
use Rattle.coll_nodes.proofs.MovedBodies.{moved_sound}
use Rattle.coll_nodes.proofs.bodies.Body.relink.Goals as goal

pub link-requires-clause-place : goal.link-requires-clause-place
link-requires-clause-place c =
    let suits = rw (← c.self.view_is) at c.requires.suits in
    let mid = without_link c.self.inside.nodes.layout c.args.node in
    let at = ring_for mid c.args.place suits.0 suits.2.0 in
    subst (λ (layout : TableLayout). IsPlaceAmong layout.rings c.args.place) (sym c.unlink-from.ensures.layout) (place_among_rings mid at.0 c.args.place at.1)

pub invariant_of-self : goal.invariant_of-self
invariant_of-self c =
    let p = c.self.inside in
    let linked = rw (← c.self.view_is) at c.requires.linked in
    let suits = rw (← c.self.view_is) at c.requires.suits in
    rw (c.link.ensures.layout, c.unlink-from.ensures.layout) (moved_sound p.nodes.layout c.args.node suits.0 c.unlink-from.result c.args.place p.declarations p.sections p.keys p.counts
    c.self.invariant c.lemma_layout.ensures.once suits.1 c.unlink-from.ensures.place linked suits.2.0)
