-- What comes next in a ring stands behind a node, or else the first of the sections behind its own.
use Rattle.std.proofs.Common.{sym, ◌∙◌}
use Rattle.coll_nodes.proofs.BesideNodes.{next_behind, next_section, next_there}
use Rattle.coll_nodes.proofs.neighbours.node_behind.Goals as goal

pub returns-in-Some-clause-behind : goal.returns-in-Some-clause-behind
returns-in-Some-clause-behind c =
    next_there c.args.nodes.now.layout c.requires.shaped c.lemma_layout.ensures c.args.node c.requires.linked c.requires.entry c.ring-ring.result c.ring-ring.ensures c.next_node.result c.next_node.ensures.next
    c.in-Some.other c.in-Some.is

pub returns-in-Some-section-clause-behind : goal.returns-in-Some-section-clause-behind
returns-in-Some-section-clause-behind c =
    next_behind c.args.nodes.now.layout c.requires.shaped c.lemma_layout.ensures c.args.node c.requires.linked c.requires.entry c.ring-ring.result c.ring-ring.ensures c.next_node.result c.next_node.ensures.next
    c.in-Some-section.section c.first_behind.result c.in_default.is (sym c.find_section.ensures.found ∙ c.in-Some-section.is) c.first_behind.ensures.first

pub returns-in-None-clause-behind : goal.returns-in-None-clause-behind
returns-in-None-clause-behind c =
    next_section c.args.nodes.now.layout c.requires.shaped c.lemma_layout.ensures c.args.node c.requires.linked c.requires.entry c.ring-ring.result c.ring-ring.ensures c.next_node.result c.next_node.ensures.next
    (sym c.find_section.ensures.found ∙ c.in-None.is)
