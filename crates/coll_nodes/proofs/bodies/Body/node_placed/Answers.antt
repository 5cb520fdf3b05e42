-- What is found by an identifier stands in a ring.
use Rattle.coll_syntax.specs.Identifier.{same_id}
use Rattle.coll_lookups.specs.NodeLookUps.{node_with}
use Rattle.coll_nodes.specs.SoundBodies.{ids_in}
use Rattle.coll_nodes.proofs.BesideEntries.{key_found, not_placed}
use Rattle.coll_nodes.proofs.NeighbourLemmas.{linked_found}
use Rattle.coll_nodes.proofs.bodies.Body.node_placed.Goals as goal

pub returns-clause-linked : goal.returns-clause-linked
returns-clause-linked c = rw (← c.self.view_is)
    (linked_found same_id ids_in c.self.inside.nodes.layout (node_with c.self.inside.keys.placed) c.args.id.now c.find.result c.self.invariant.found.ids c.find.ensures)

pub returns-clause-some : goal.returns-clause-some
returns-clause-some c = rw (← c.self.view_is)
    (key_found same_id ids_in c.self.inside.nodes.layout (node_with c.self.inside.keys.placed) c.args.id.now c.find.result c.self.invariant.found.ids c.find.ensures)

pub returns-clause-none : goal.returns-clause-none
returns-clause-none c = rw (← c.self.view_is)
    (not_placed c.self.inside.nodes.layout c.self.invariant.shaped (node_with c.self.inside.keys.placed) c.args.id.now c.find.result c.self.invariant.found.ids c.find.ensures)
