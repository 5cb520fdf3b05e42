-- A body's sections are what a walk meets.
use Rattle.coll_nodes.proofs.WalkShapes.{has_sections}
use Rattle.coll_nodes.proofs.bodies.Body.walk.Goals as goal

pub new-requires-clause-sections : goal.new-requires-clause-sections
new-requires-clause-sections c = rw c.nodes.ensures (has_sections c.args.self.now.layout c.lemma_layout.ensures.shaped c.requires)
