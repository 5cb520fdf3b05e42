-- A node that was taken out is loose.
use Rattle.coll_nodes.specs.Bodies.{AreMade}
use Rattle.coll_nodes.proofs.NodeLemmas.{node_loose}
use Rattle.coll_nodes.proofs.nodes.Nodes.unlink.Goals as goal

pub returns-clause-loose : goal.returns-clause-loose
returns-clause-loose c =
    let made : AreMade c.unlink.new.self.layout.tags c.self.inside.contents.slots = rw (c.unlink.ensures.layout) c.self.invariant in
    node_loose c.unlink.new.self.layout c.self.inside.contents.slots c.args.node made c.unlink.ensures.loose
