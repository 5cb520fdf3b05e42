use Rattle.coll_order.specs.Stored.{links_of}
use Rattle.std.proofs.Common.{ap, ◌∙◌}
use Rattle.coll_order.proofs.Calls.{ring_done}
use Rattle.coll_order.proofs.rings.Rings.new_ring.Goals as goal

pub invariant_of-self-2 : goal.invariant_of-self-2
invariant_of-self-2 c = (ring_done (links_of c.self.inside.store) (links_of c.add_ring.new.self) c.self.invariant c.in_ok-ring.ensures.ok).0

pub returns-clause-ring : goal.returns-clause-ring
returns-clause-ring c = rw (← c.self.view_is) (ap (λ index. record { index = index }) (c.in_ok-ring.ensures.ring ∙ c.self.invariant.held.count))

pub returns-clause-ok : goal.returns-clause-ok
returns-clause-ok c =
    rw (← c.self.view_is) (ap (λ layout. record { layout = layout; steps = c.self.inside.steps })
    (ring_done (links_of c.self.inside.store) (links_of c.add_ring.new.self) c.self.invariant c.in_ok-ring.ensures.ok).1)
