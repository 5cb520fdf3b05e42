-- A string that leads to no node is no element's.
use Rattle.std.proofs.Common.{sym}
use Rattle.coll_lookups.specs.NodeLookUps.{node_named}
use Rattle.coll_nodes.proofs.ElementNodes.{no_element}
use Rattle.coll_nodes.proofs.bodies.Body.most_element_characters.Goals as goal

pub returns : goal.returns
returns c = λ text longer.
    rw (← c.self.view_is) (sym (no_element c.self.inside.nodes.layout text c.self.invariant.shaped (node_named c.self.inside.keys.texts) c.self.invariant.found.texts
    (c.most_characters.ensures text longer)))
