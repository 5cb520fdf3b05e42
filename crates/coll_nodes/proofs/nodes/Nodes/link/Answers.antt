-- A node that is loose by its content is loose by its tag.
use Rattle.coll_nodes.proofs.NodeLemmas.{loose_node}
use Rattle.coll_nodes.proofs.nodes.Nodes.link.Goals as goal

pub link-requires-clause-loose : goal.link-requires-clause-loose
link-requires-clause-loose c =
    let loose = rw (← c.self.view_is) at c.requires.loose in
    loose_node c.self.inside.rings.layout c.self.inside.contents.slots c.args.node c.self.invariant loose
