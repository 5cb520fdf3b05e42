-- A body in which an entry has other weights is sound.
use Rattle.std.proofs.Common.{Some}
use Rattle.coll_nodes.proofs.MadeBodies.{weighed_sound}
use Rattle.coll_nodes.proofs.bodies.Body.exchange.Goals as goal

pub invariant_of-self : goal.invariant_of-self
invariant_of-self c =
    let p = c.self.inside in
    rw (c.exchange.ensures.nodes) (weighed_sound p.declarations p.sections p.counts p.nodes.layout c.args.node (Some c.args.weights.now) p.keys c.self.invariant)
