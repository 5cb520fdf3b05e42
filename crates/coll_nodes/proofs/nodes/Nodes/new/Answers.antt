-- No nodes are made.
use Rattle.std.proofs.Common.{ap, []}
use Rattle.coll_nodes.proofs.NodeLemmas.{none_made, empty_made}
use Rattle.coll_nodes.proofs.nodes.Nodes.new.Goals as goal

pub invariant_of-result : goal.invariant_of-result
invariant_of-result c = rw (c.new.ensures) (empty_made c.new-2.result.slots c.new-2.ensures.empty)

pub returns : goal.returns
returns c = rw (c.new.ensures) (ap (λ nodes. record { layout = record { rings = []; nodes = nodes }; steps = 0 }) (none_made c.new-2.result.slots))
