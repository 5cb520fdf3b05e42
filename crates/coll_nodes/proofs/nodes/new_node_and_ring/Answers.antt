-- A node that is made and dropped leaves the layout as it was.
use Rattle.std.proofs.Common.{ap}
use Rattle.coll_order.proofs.LayoutLemmas.{made_and_dropped}
use Rattle.coll_nodes.proofs.nodes.new_node_and_ring.Goals as goal

pub returns-in-Err-clause-err : goal.returns-in-Err-clause-err
returns-in-Err-clause-err c = rw (c.drop_node.ensures, c.in-Err.ensures.err, c.in_ok-node.ensures.ok)
    (ap (λ layout. record { layout = layout; steps = c.args.rings.now.steps }) (made_and_dropped c.args.rings.now.layout c.in_ok-node.node c.args.tag c.in_ok-node.ensures.fresh))
