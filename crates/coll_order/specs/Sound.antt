-- What holds of every layout that a store has.
use Rattle.std.specs.Prelude.{◌≡◌, true, false, List, [], ◌∷◌}
use Rattle.coll_order.specs.declared.places.NodeId.{NodeId}
use Rattle.coll_order.specs.Lists.{has_node}
use Rattle.coll_order.specs.Layout.{Layout, is_in, IsLinked, IsNode}

-- no node stands twice in a list
abbrev pub AreDistinct : List NodeId → Type 0
AreDistinct [] = Unit {0}
AreDistinct (first ∷ rest) = (has_node rest first ≡ false) × AreDistinct rest

-- no node of a list stands in one of these rings
abbrev pub AreApart : List NodeId → List (List NodeId) → Type 0
AreApart nodes rings = (node : NodeId) → has_node nodes node ≡ true → is_in rings node ≡ false

-- no node stands twice in these rings
abbrev pub StandOnce : List (List NodeId) → Type 0
StandOnce [] = Unit {0}
StandOnce (nodes ∷ rings) = AreDistinct nodes × AreApart nodes rings × StandOnce rings

-- no node stands twice, and each node that stands in a ring is there
pub record IsSound (layout : Layout) : Type 0 where
  pub once : StandOnce layout.rings
  pub made : (node : NodeId) → IsLinked layout node → IsNode layout node
