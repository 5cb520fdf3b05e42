use Rattle.coll_order.specs.Stored.{links_of}
use Rattle.std.proofs.Common.{ap, ◌∙◌}
use Rattle.std.specs.Option.{option_map}
use Rattle.coll_order.specs.declared.store.Node.{Node}
use Rattle.coll_order.proofs.Tags.{tag_is}
use Rattle.coll_order.proofs.Calls.{node_stored}
use Rattle.coll_order.proofs.rings.Rings.tag.Goals as goal

pub node-requires : goal.node-requires
node-requires c =
    let there = rw (← c.self.view_is) at c.requires.there in
    node_stored (links_of c.self.inside.store) c.args.node there

pub returns : goal.returns
returns c = rw (← c.self.view_is) (tag_is (links_of c.self.inside.store) c.args.node ∙ ap (option_map (λ (n : Node). n.tag)) c.node.ensures)
