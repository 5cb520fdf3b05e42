-- What writes of links come to, one after another.
use Rattle.std.proofs.Common.{None, ◌∙◌}
use Rattle.coll_order.specs.Store.{Links, KeepsNodes, SetsNext, SetsBefore, Detaches}
use Rattle.coll_order.specs.declared.places.NodeId.{NodeId}
use Rattle.coll_order.specs.declared.places.Place.TheVariants.{After}

-- what two steps keep, both keep
pub keeps_both : (old between new : Links) → KeepsNodes old between → KeepsNodes between new → KeepsNodes old new
keeps_both old between new first second = record {
  heads = second.heads ∙ first.heads;
  tags = λ node. second.tags node ∙ first.tags node;
  rings = λ node. second.rings node ∙ first.rings node;
  lasts = second.lasts ∙ first.lasts;
}

-- a node whose two links are taken away has no neighbour
pub detached : (old between new : Links) (node : NodeId) → SetsNext old between (After node) None → SetsBefore between new node None → Detaches old new node
detached old between new node first second = record {
  next = second.next (After node) ∙ first.next;
  next_others = λ place differs. second.next place ∙ first.others place differs;
  before = second.place;
  before_others = λ other differs. second.others other differs ∙ first.before other;
  keeps = keeps_both old between new first.keeps second.keeps;
}
