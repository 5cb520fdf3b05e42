-- A name that is longer than all keys leads to no node.
use Rattle.coll_lookups.proofs.NameNodes.{longer_leads_nowhere}
use Rattle.coll_lookups.proofs.node_names.NodeNames.most_characters.Goals as goal

pub returns : goal.returns
returns c = λ name longer. rw (← c.self.view_is) (longer_leads_nowhere _ _ name c.self.invariant.2 longer)
