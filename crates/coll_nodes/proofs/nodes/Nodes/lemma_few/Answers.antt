-- Nodes are no more than slots, and of these a slab has no more than a number says.
use Rattle.std.proofs.Common.{arith}
use Rattle.coll_nodes.proofs.NodeTags.{no_more}
use Rattle.coll_nodes.proofs.nodes.Nodes.lemma_few.Goals as goal

pub returns : goal.returns
returns c nodes distinct there =
    let p = c.self.inside in
    let here = rw (← c.self.view_is) at there in
    let fit = no_more p.rings.layout p.contents.slots c.self.invariant nodes distinct here in
    let low = c.capacity.ensures.slots in
    omega (arith, fit, low)
