-- A section that is made may be put among the sections, where no other has its name.
use Rattle.coll_nodes.proofs.AddedNodes.{named_suits}
use Rattle.coll_nodes.proofs.bodies.Body.begin.Goals as goal

pub put_in-requires-clause-suits : goal.put_in-requires-clause-suits
put_in-requires-clause-suits c =
    named_suits c.args.self.now.layout c.lemma_layout.ensures.shaped c.make_section.new.self.layout c.in_ok-node.node c.args.name c.in_ok-node.ring c.args.place
    c.in_ok-node.ensures.made.node c.in_ok-node.ensures.made.apart c.in_ok-node.ensures.made.rings c.in_ok-node.ensures.made.ring c.requires.place c.requires.name
