-- How nodes and rings hold a layout. No public clause cites this module.
use Rattle.std.specs.Prelude.{◌≡◌, ◌==◌, ℕ, ◌<◌, Bool, false, List, Option, Some, None, IsSome, length, slice_index_or, if◌then◌else◌}
use Rattle.std.specs.Option.{option_map, option_and_then}
use Rattle.coll_order.specs.declared.places.NodeId.{NodeId}
use Rattle.coll_order.specs.declared.places.RingId.{RingId}
use Rattle.coll_order.specs.declared.places.Place.{Place}
use Rattle.coll_order.specs.declared.places.Place.TheVariants.{Head, After}
use Rattle.coll_order.specs.declared.store.Node.{Node}
use Rattle.coll_order.specs.Lists.{same_node, same_place}

-- the first node and the last place of each ring, and the node of each name
pub record Links : Type 0 where
  pub heads : List (Option NodeId)
  pub lasts : List Place
  pub slots : List (Option Node)

-- the node of a name
abbrev pub slot_at : Links → NodeId → Option Node
slot_at links node = slice_index_or links.slots node.key None

-- the node directly after a place
abbrev pub next_at : Links → Place → Option NodeId
next_at links (Head ring) = slice_index_or links.heads ring.index None
next_at links (After node) = option_and_then (λ (n : Node). n.after) (slot_at links node)

-- what stands directly before a node
abbrev pub before_at : Links → NodeId → Option Place
before_at links node = option_and_then (λ (n : Node). n.before) (slot_at links node)

-- the tag of a node
abbrev pub tag_at : Links → NodeId → Option ℕ
tag_at links node = option_map (λ (n : Node). n.tag) (slot_at links node)

-- the ring that is stored with a node
abbrev pub own_ring : Links → NodeId → Option RingId
own_ring links node = option_map (λ (n : Node). n.ring) (slot_at links node)

-- the ring of a place
abbrev pub ring_of : Links → Place → Option RingId
ring_of links (Head ring) = Some ring
ring_of links (After node) = own_ring links node

-- the last place of a ring
abbrev pub last_at : Links → RingId → Place
last_at links ring = slice_index_or links.lasts ring.index (Head ring)

-- where a list ends, once it ends elsewhere if it ended at a place
abbrev pub end_moved : (end from to : Place) → Place
end_moved end from to = if same_place end from then to else end

-- a node is there
abbrev pub IsStored : Links → NodeId → Type 0
IsStored links node = IsSome (slot_at links node)

-- a place has a link
abbrev pub HasPlace : Links → Place → Type 0
HasPlace links (Head ring) = ring.index < length links.heads
HasPlace links (After node) = IsStored links node

-- a node, if there is one, is there
abbrev pub IsStoredIfAny : Links → Option NodeId → Type 0
IsStoredIfAny links None = Unit {0}
IsStoredIfAny links (Some node) = IsStored links node

-- a node is this one, if there is one
abbrev pub is_node : Option NodeId → NodeId → Bool
is_node None node = false
is_node (Some other) node = same_node other node

-- the rings, the nodes, the tags, and what is stored of the rings' ends stay
pub record KeepsNodes (old new : Links) : Type 0 where
  pub heads : length new.heads ≡ length old.heads
  pub tags : (node : NodeId) → tag_at new node ≡ tag_at old node
  pub rings : (node : NodeId) → own_ring new node ≡ own_ring old node
  pub lasts : new.lasts ≡ old.lasts

-- the node after a place is another, and nothing else changes
pub record SetsNext (old new : Links) (place : Place) (after : Option NodeId) : Type 0 where
  pub next : next_at new place ≡ after
  pub others : (other : Place) → same_place other place ≡ false → next_at new other ≡ next_at old other
  pub before : (node : NodeId) → before_at new node ≡ before_at old node
  pub keeps : KeepsNodes old new

-- the place before a node is another, and nothing else changes
pub record SetsBefore (old new : Links) (node : NodeId) (before : Option Place) : Type 0 where
  pub place : before_at new node ≡ before
  pub others : (other : NodeId) → same_node other node ≡ false → before_at new other ≡ before_at old other
  pub next : (place : Place) → next_at new place ≡ next_at old place
  pub keeps : KeepsNodes old new

-- a node, if there is one, stands directly after a place, and nothing else changes
pub record Joins (old new : Links) (place : Place) (after : Option NodeId) : Type 0 where
  pub next : next_at new place ≡ after
  pub next_others : (other : Place) → same_place other place ≡ false → next_at new other ≡ next_at old other
  pub before : (node : NodeId) → after ≡ Some node → before_at new node ≡ Some place
  pub before_others : (node : NodeId) → is_node after node ≡ false → before_at new node ≡ before_at old node
  pub keeps : KeepsNodes old new

-- a node has no neighbour any more, and nothing else changes
pub record Detaches (old new : Links) (node : NodeId) : Type 0 where
  pub next : next_at new (After node) ≡ None
  pub next_others : (place : Place) → same_place place (After node) ≡ false → next_at new place ≡ next_at old place
  pub before : before_at new node ≡ None
  pub before_others : (other : NodeId) → same_node other node ≡ false → before_at new other ≡ before_at old other
  pub keeps : KeepsNodes old new

-- another ring is stored with a node, and nothing else changes
pub record SetsRing (old new : Links) (node : NodeId) (ring : RingId) : Type 0 where
  pub is : own_ring new node ≡ Some ring
  pub others : (other : NodeId) → same_node other node ≡ false → own_ring new other ≡ own_ring old other
  pub next : (place : Place) → next_at new place ≡ next_at old place
  pub before : (other : NodeId) → before_at new other ≡ before_at old other
  pub tags : (other : NodeId) → tag_at new other ≡ tag_at old other
  pub heads : new.heads ≡ old.heads
  pub lasts : new.lasts ≡ old.lasts

-- a ring that ended at a place ends at another, and nothing else changes
pub record MovesEnd (old new : Links) (ring : RingId) (from to : Place) : Type 0 where
  pub last : last_at new ring ≡ end_moved (last_at old ring) from to
  pub others : (other : RingId) → (other.index == ring.index) ≡ false → last_at new other ≡ last_at old other
  pub count : length new.lasts ≡ length old.lasts
  pub heads : new.heads ≡ old.heads
  pub slots : new.slots ≡ old.slots

-- a name that was free has this node, and nothing else changes
pub record Inserts (old new : Links) (node : NodeId) (value : Node) : Type 0 where
  pub was : slot_at old node ≡ None
  pub is : slot_at new node ≡ Some value
  pub others : (other : NodeId) → same_node other node ≡ false → slot_at new other ≡ slot_at old other
  pub heads : new.heads ≡ old.heads
  pub lasts : new.lasts ≡ old.lasts

-- a name has no node any more, and nothing else changes
pub record Removes (old new : Links) (node : NodeId) : Type 0 where
  pub is : slot_at new node ≡ None
  pub others : (other : NodeId) → same_node other node ≡ false → slot_at new other ≡ slot_at old other
  pub heads : new.heads ≡ old.heads
  pub lasts : new.lasts ≡ old.lasts
