-- How links hold a layout: each head begins a run of nodes, each node knows what stands before it and in which ring it
-- stands, and each ring knows its last place.
--
-- No public clause cites this module: it is the view and the invariant of a store.
use Rattle.std.specs.Prelude.{◌≡◌, ℕ, zero, suc, ◌<◌, true, List, [], ◌∷◌, Option, Some, None, length, slice_index_or}
use Rattle.std.specs.Option.{option_map_or}
use Rattle.std.specs.Ordering.{nat_cmp}
use Rattle.std.specs.FinMap as finmap
use Rattle.coll_order.specs.declared.places.NodeId.{NodeId}
use Rattle.coll_order.specs.declared.places.RingId.{RingId}
use Rattle.coll_order.specs.declared.places.Place.{Place}
use Rattle.coll_order.specs.declared.places.Place.TheVariants.{Head, After}
use Rattle.coll_order.specs.declared.store.Node.{Node}
use Rattle.coll_order.specs.Layout.{Layout, head_of, is_in}
use Rattle.coll_order.specs.Lists.{has_node, end_of}
use Rattle.coll_order.specs.Store.{Links, next_at, before_at, own_ring, last_at}

-- the nodes that follow a place, as far as so many steps lead
unfoldable pub walk : Links → ℕ → Place → List NodeId
walk links zero start = []
walk links (suc most) start = option_map_or (λ node. node ∷ walk links most (After node)) (next_at links start) []

-- the nodes of so many rings, from a first on
unfoldable pub walks : Links → ℕ → ℕ → ℕ → List (List NodeId)
walks links most first zero = []
walks links most first (suc count) = walk links most (head_of first) ∷ walks links most (suc first) count

-- the nodes of each ring: no ring has more nodes than there are names
abbrev pub rings_at : Links → List (List NodeId)
rings_at links = walks links (length links.slots) 0 (length links.heads)

-- the tags of the nodes in these slots, of which the first has this key
unfoldable pub tags_from : ℕ → List (Option Node) → finmap.FinMap nat_cmp ℕ
tags_from key [] = finmap.empty
tags_from key (None ∷ slots) = tags_from (suc key) slots
tags_from key (Some node ∷ slots) = finmap.insert (tags_from (suc key) slots) key node.tag

-- the layout that links hold
abbrev pub layout_at : Links → Layout
layout_at links = record { rings = rings_at links; tags = tags_from 0 links.slots }

-- from a place on, the links lead through these nodes
unfoldable pub IsRun : Links → Place → List NodeId → Type 0
IsRun links start [] = next_at links start ≡ None
IsRun links start (first ∷ rest) = (next_at links start ≡ Some first) × IsRun links (After first) rest

-- from the heads on, numbered from a first on, the links lead through these rings
unfoldable pub AreRuns : Links → ℕ → List (List NodeId) → Type 0
AreRuns links first [] = Unit {0}
AreRuns links first (nodes ∷ rings) = IsRun links (head_of first) nodes × AreRuns links (suc first) rings

-- the links hold these rings, and each node that stands nowhere has no neighbour
pub record Holds (links : Links) (rings : List (List NodeId)) : Type 0 where
  pub count : length links.heads ≡ length rings
  pub runs : AreRuns links 0 rings
  pub back : (place : Place) (node : NodeId) → next_at links place ≡ Some node → before_at links node ≡ Some place
  pub forth : (node : NodeId) (place : Place) → before_at links node ≡ Some place → next_at links place ≡ Some node
  pub loose : (node : NodeId) → before_at links node ≡ None → next_at links (After node) ≡ None
  pub covers : (node : NodeId) (place : Place) → before_at links node ≡ Some place → is_in rings node ≡ true

-- the links of a store hold the rings that one reads from them
abbrev pub IsHeld : Links → Type 0
IsHeld links = Holds links (rings_at links)

-- each node of these rings has its ring stored, and each ring its last place
pub record KnowsEnds (links : Links) (rings : List (List NodeId)) : Type 0 where
  pub count : length links.lasts ≡ length rings
  pub stands : (ring : RingId) (node : NodeId) → has_node (slice_index_or rings ring.index []) node ≡ true → own_ring links node ≡ Some ring
  pub ends : (ring : RingId) → ring.index < length rings → last_at links ring ≡ end_of (Head ring) (slice_index_or rings ring.index [])

-- what holds of the links of a store: they hold the rings that one reads from them, and know their ends
pub record IsKept (links : Links) : Type 0 where
  pub held : IsHeld links
  pub ends : KnowsEnds links (rings_at links)
