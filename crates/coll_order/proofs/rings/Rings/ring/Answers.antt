use Rattle.coll_order.specs.Stored.{links_of}
use Rattle.coll_order.proofs.Calls.{linked_stored, stands_in_own}
use Rattle.coll_order.proofs.rings.Rings.ring.Goals as goal

pub node-requires : goal.node-requires
node-requires c =
    let there = rw (← c.self.view_is) at c.requires.linked in
    linked_stored (links_of c.self.inside.store) c.args.node c.self.invariant.held there

pub returns : goal.returns
returns c =
    let there = rw (← c.self.view_is) at c.requires.linked in
    rw (← c.self.view_is) (stands_in_own (links_of c.self.inside.store) c.args.node c.node.result c.self.invariant there c.node.ensures)
