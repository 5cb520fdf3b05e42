-- A body's declarations are what a walk through them meets.
use Rattle.coll_nodes.proofs.WalkShapes.{has_declarations}
use Rattle.coll_nodes.proofs.bodies.Body.declared.Goals as goal

pub new-requires-clause-declared : goal.new-requires-clause-declared
new-requires-clause-declared c = rw c.nodes.ensures (has_declarations c.args.self.now.layout c.lemma_layout.ensures.shaped)
