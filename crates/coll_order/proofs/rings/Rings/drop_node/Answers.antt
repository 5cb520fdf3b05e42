use Rattle.coll_order.specs.Stored.{links_of}
use Rattle.std.proofs.Common.{ap}
use Rattle.coll_order.proofs.Calls.{node_stored, remove_done}
use Rattle.coll_order.proofs.rings.Rings.drop_node.Goals as goal

pub remove-requires : goal.remove-requires
remove-requires c =
    let loose = rw (← c.self.view_is) at c.requires.loose in
    node_stored (links_of c.self.inside.store) c.args.node loose.made

pub invariant_of-self : goal.invariant_of-self
invariant_of-self c =
    let loose = rw (← c.self.view_is) at c.requires.loose in
    (remove_done (links_of c.self.inside.store) (links_of c.remove.new.self) c.args.node c.self.invariant loose c.remove.ensures).0

pub returns : goal.returns
returns c =
    let loose = rw (← c.self.view_is) at c.requires.loose in
    rw (← c.self.view_is) (ap (λ layout. record { layout = layout; steps = c.self.inside.steps })
    (remove_done (links_of c.self.inside.store) (links_of c.remove.new.self) c.args.node c.self.invariant loose c.remove.ensures).1)
