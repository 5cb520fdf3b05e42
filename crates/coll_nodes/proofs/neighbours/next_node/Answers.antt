-- What comes next in a ring stands in it.
use Rattle.coll_nodes.proofs.NeighbourLemmas.{linked_next}
use Rattle.coll_nodes.proofs.neighbours.next_node.Goals as goal

pub returns-clause-linked : goal.returns-clause-linked
returns-clause-linked c = linked_next c.args.nodes.now.layout c.args.node c.next.result c.lemma_layout.ensures c.requires c.next.ensures
