-- What holds of the rings holds of the layout.
use Rattle.coll_nodes.proofs.NodeLemmas.{laid_out}
use Rattle.coll_nodes.proofs.nodes.Nodes.lemma_layout.Goals as goal

pub returns : goal.returns
returns c = rw (← c.self.view_is) (laid_out c.self.inside.rings.layout c.self.inside.contents.slots c.self.invariant c.lemma_layout.ensures)
