-- The content of a node stands under its tag.
use Rattle.std.proofs.Common.{◌∙◌}
use Rattle.coll_nodes.proofs.NodeLemmas.{made_tagged, content_at}
use Rattle.coll_nodes.proofs.nodes.Nodes.content.Goals as goal

pub tag-tag-requires : goal.tag-tag-requires
tag-tag-requires c =
    let there = rw (← c.self.view_is) at c.requires in
    record { there = made_tagged c.self.inside.rings.layout c.self.inside.contents.slots c.args.node c.self.invariant there }

pub returns : goal.returns
returns c =
    rw (← c.self.view_is) (content_at c.self.inside.rings.layout c.self.inside.contents.slots c.args.node c.tag-tag.result c.self.invariant c.tag-tag.ensures ∙ c.index.ensures)
