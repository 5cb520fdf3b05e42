-- The place of a node tells what stands before it.
use Rattle.std.proofs.Common.{Some, ap, ◌∙◌}
use Rattle.coll_nodes.proofs.BesideNodes.{node_after, node_at_head}
use Rattle.coll_nodes.proofs.neighbours.node_before.Goals as goal

pub returns-in-After-clause-before : goal.returns-in-After-clause-before
returns-in-After-clause-before c =
    node_after c.args.nodes.now.layout c.requires.shaped c.lemma_layout.ensures c.args.node c.requires.linked c.requires.entry c.in-After.other (c.place.ensures.place ∙ ap Some c.in-After.is)

pub returns-in-Head-clause-before : goal.returns-in-Head-clause-before
returns-in-Head-clause-before c =
    c.find_section.ensures.last
    ∙ node_at_head c.args.nodes.now.layout c.requires.shaped c.lemma_layout.ensures c.args.node c.requires.linked c.requires.entry c.in-Head.ring (c.place.ensures.place ∙ ap Some c.in-Head.is)
