-- A body without a loose node is sound.
use Rattle.coll_nodes.proofs.MadeBodies.{dropped_sound}
use Rattle.coll_nodes.proofs.bodies.Body.drop_loose.Goals as goal

pub invariant_of-self : goal.invariant_of-self
invariant_of-self c =
    let p = c.self.inside in
    let loose = rw (← c.self.view_is) at c.requires.loose in
    rw (c.drop_loose.ensures.layout) (dropped_sound p.declarations p.sections p.counts p.nodes.layout c.args.node p.keys c.self.invariant loose.apart)
