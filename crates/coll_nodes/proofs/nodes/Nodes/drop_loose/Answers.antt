-- A node is dropped with its content.
use Rattle.coll_nodes.proofs.ChangedTags.{layout_dropped, made_less}
use Rattle.coll_nodes.proofs.NodeLemmas.{made_tagged}
use Rattle.coll_nodes.proofs.nodes.Nodes.drop_loose.Goals as goal

pub tag-tag-requires : goal.tag-tag-requires
tag-tag-requires c =
    let loose = rw (← c.self.view_is) at c.requires.loose in
    record { there = made_tagged c.self.inside.rings.layout c.self.inside.contents.slots c.args.node c.self.invariant loose.made }

pub invariant_of-self : goal.invariant_of-self
invariant_of-self c =
    let p = c.self.inside in
    rw (c.drop_node.ensures) (made_less p.rings.layout p.contents.slots c.args.node c.tag-tag.result c.self.invariant c.tag-tag.ensures c.remove.new.self.slots c.remove.ensures.updates.others
    c.remove.ensures.updates.changed)

pub returns-clause-layout : goal.returns-clause-layout
returns-clause-layout c =
    let p = c.self.inside in
    rw (← c.self.view_is, c.drop_node.ensures)
    (layout_dropped p.rings.layout p.contents.slots c.args.node c.tag-tag.result c.self.invariant c.tag-tag.ensures c.remove.new.self.slots c.remove.ensures.updates.others)
