-- The first node of a ring stands in it.
use Rattle.coll_nodes.proofs.NeighbourLemmas.{linked_first}
use Rattle.coll_nodes.proofs.neighbours.first_node.Goals as goal

pub returns-clause-linked : goal.returns-clause-linked
returns-clause-linked c = linked_first c.args.nodes.now.layout c.args.ring c.first.result c.first.ensures
