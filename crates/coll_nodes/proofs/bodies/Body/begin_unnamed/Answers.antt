-- A section without a name that is made may be put among the sections.
use Rattle.coll_nodes.proofs.AddedNodes.{unnamed_suits}
use Rattle.coll_nodes.proofs.bodies.Body.begin_unnamed.Goals as goal

pub put_in-requires-clause-suits : goal.put_in-requires-clause-suits
put_in-requires-clause-suits c =
    unnamed_suits c.args.self.now.layout c.lemma_layout.ensures.shaped c.make_section.new.self.layout c.in_ok-node.node c.in_ok-node.ring c.args.place
    c.in_ok-node.ensures.made.node c.in_ok-node.ensures.made.apart c.in_ok-node.ensures.made.rings c.in_ok-node.ensures.made.ring c.requires.place
