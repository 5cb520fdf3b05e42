-- An identifier is made a key that leads to where it led.
use Rattle.coll_lookups.proofs.CharNodes.{leads_alike}
use Rattle.coll_lookups.proofs.node_ids.NodeIds.reserve.Goals as goal

pub returns-clause-ok : goal.returns-clause-ok
returns-clause-ok c = leads_alike _ _ _ _ c.find-node.ensures c.in_ok-put.ensures.ok
