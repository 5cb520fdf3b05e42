use Rattle.coll_order.specs.Stored.{links_of}
use Rattle.std.proofs.Common.{ap}
use Rattle.coll_order.proofs.Calls.{none_held}
use Rattle.coll_order.proofs.rings.Rings.new.Goals as goal

pub invariant_of-result : goal.invariant_of-result
invariant_of-result c = (none_held (links_of c.new.result) c.new.ensures).0

pub returns : goal.returns
returns c = ap (λ layout. record { layout = layout; steps = 0 }) (none_held (links_of c.new.result) c.new.ensures).1
