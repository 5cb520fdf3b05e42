use Rattle.coll_order.specs.Stored.{links_of}
use Rattle.std.proofs.Common.{ap, refl}
use Rattle.coll_order.proofs.Calls.{insert_done}
use Rattle.coll_order.proofs.rings.Rings.new_node.Goals as goal

pub invariant_of-self-2 : goal.invariant_of-self-2
invariant_of-self-2 c = (insert_done (links_of c.self.inside.store) (links_of c.insert.new.self) c.in_ok-node.node _ c.self.invariant c.in_ok-node.ensures.ok refl refl).0

pub returns-clause-fresh : goal.returns-clause-fresh
returns-clause-fresh c = rw (← c.self.view_is) (insert_done (links_of c.self.inside.store) (links_of c.insert.new.self) c.in_ok-node.node _ c.self.invariant c.in_ok-node.ensures.ok refl refl).3

pub returns-clause-ok : goal.returns-clause-ok
returns-clause-ok c =
    rw (← c.self.view_is) (ap (λ layout. record { layout = layout; steps = c.self.inside.steps })
    (insert_done (links_of c.self.inside.store) (links_of c.insert.new.self) c.in_ok-node.node _ c.self.invariant c.in_ok-node.ensures.ok refl refl).1)

pub returns-clause-loose : goal.returns-clause-loose
returns-clause-loose c = (insert_done (links_of c.self.inside.store) (links_of c.insert.new.self) c.in_ok-node.node _ c.self.invariant c.in_ok-node.ensures.ok refl refl).2
