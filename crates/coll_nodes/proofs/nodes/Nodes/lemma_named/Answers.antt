-- Nodes stand in the order of their keys, each once.
use Rattle.coll_nodes.proofs.TurningNodes.{made_named}
use Rattle.coll_nodes.proofs.nodes.Nodes.lemma_named.Goals as goal

pub returns : goal.returns
returns c = rw (← c.self.view_is) (made_named c.self.inside.contents.slots c.self.inside.rings.layout.tags)
