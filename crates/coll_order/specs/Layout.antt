-- What a store of rings holds: the list of nodes of each ring, and a tag for each node.
use Rattle.std.specs.Prelude.{◌≡◌, ℕ, suc, ◌<◌, Bool, true, false, List, [], ◌∷◌, Option, None, IsSome, length, map, slice_index_or, refl}
use Rattle.std.specs.List.{list_any}
use Rattle.std.specs.Option.{option_or}
use Rattle.std.specs.Ordering.{nat_cmp}
use Rattle.std.specs.FinMap as finmap
use Rattle.std.specs.Coded.{Coded, code_by, coded×, coded_ℕ, coded_list}
use Rattle.coll_order.specs.declared.places.NodeId.{NodeId}
use Rattle.coll_order.specs.declared.places.RingId.{RingId}
use Rattle.coll_order.specs.declared.places.Place.{Place}
use Rattle.coll_order.specs.declared.places.Place.TheVariants.{Head, After}
use Rattle.coll_order.specs.Lists.{has_node, first_in, next_in, place_in, end_of, without, put_after}

-- the list of nodes of each ring, by the ring's number, and the tags of the nodes that are there
pub record Layout : Type 0 where
  pub rings : List (List NodeId)
  pub tags : finmap.FinMap nat_cmp ℕ

-- a store: its layout, and the number of ring steps taken
pub record RingStore : Type 0 where
  pub layout : Layout
  pub steps : ℕ

-- a name is stored as its number
abbrev pub node_code : Coded NodeId
node_code = code_by ℕ coded_ℕ (λ node. node.key) (λ key. record { key = key }) (λ _. refl)

-- a layout is stored as the pair of its parts
abbrev pub layout_code : Coded Layout
layout_code =
    code_by
    (List (List NodeId) × finmap.FinMap nat_cmp ℕ)
    (coded× (coded_list (coded_list node_code)) (finmap.code coded_ℕ coded_ℕ))
    (λ layout. (layout.rings, layout.tags))
    (λ parts. record { rings = parts.0; tags = parts.1 })
    (λ _. refl)

-- so is a store
abbrev pub ring_store_code : Coded RingStore
ring_store_code =
    code_by (Layout × ℕ) (coded× layout_code coded_ℕ) (λ store. (store.layout, store.steps))
    (λ parts. record { layout = parts.0; steps = parts.1 }) (λ _. refl)

-- the head of the ring with a number
abbrev pub head_of : ℕ → Place
head_of index = Head (record { index = index })

-- a node stands in one of these rings
abbrev pub is_in : List (List NodeId) → NodeId → Bool
is_in rings node = list_any (λ nodes. has_node nodes node) rings

-- what stands directly before a node in these rings, numbered from a first on
abbrev pub place_from : ℕ → List (List NodeId) → NodeId → Option Place
place_from first [] node = None
place_from first (nodes ∷ rings) node = option_or (place_in (head_of first) nodes node) (place_from (suc first) rings node)

-- the node directly after one in these rings
abbrev pub next_among : List (List NodeId) → NodeId → Option NodeId
next_among [] node = None
next_among (nodes ∷ rings) node = option_or (next_in nodes node) (next_among rings node)

-- these rings without a node
abbrev pub rings_without : NodeId → List (List NodeId) → List (List NodeId)
rings_without node rings = map (without node) rings

-- these rings, numbered from a first on, with a node put directly after a place
abbrev pub rings_with : Place → NodeId → ℕ → List (List NodeId) → List (List NodeId)
rings_with place node first [] = []
rings_with place node first (nodes ∷ rings) =
    put_after place node (head_of first) nodes ∷ rings_with place node (suc first) rings

-- a ring is there
abbrev pub IsRing : Layout → RingId → Type 0
IsRing layout ring = ring.index < length layout.rings

-- the nodes of a ring, in order
abbrev pub nodes_of : Layout → RingId → List NodeId
nodes_of layout ring = slice_index_or layout.rings ring.index []

-- the first node of a ring
abbrev pub first_of : Layout → RingId → Option NodeId
first_of layout ring = first_in (nodes_of layout ring)

-- the place behind the last node of a ring: after that node, or the head of a ring that has none
abbrev pub end_of_ring : Layout → RingId → Place
end_of_ring layout ring = end_of (Head ring) (nodes_of layout ring)

-- the tag of a node that is there
abbrev pub tag_of : Layout → NodeId → Option ℕ
tag_of layout node = finmap.get layout.tags node.key

-- a node is there
abbrev pub IsNode : Layout → NodeId → Type 0
IsNode layout node = IsSome (tag_of layout node)

-- a node is linked: it stands in a ring
abbrev pub IsLinked : Layout → NodeId → Type 0
IsLinked layout node = is_in layout.rings node ≡ true

-- a node is loose: it is there, and stands in no ring
pub record IsLoose (layout : Layout) (node : NodeId) : Type 0 where
  pub made : IsNode layout node
  pub apart : is_in layout.rings node ≡ false

-- a node may be put after a place: the head of a ring that is there, or a linked node
abbrev pub IsPlace : Layout → Place → Type 0
IsPlace layout (Head ring) = IsRing layout ring
IsPlace layout (After node) = IsLinked layout node

-- what stands directly before a node
abbrev pub place_of : Layout → NodeId → Option Place
place_of layout node = place_from 0 layout.rings node

-- the node directly after one
abbrev pub next_of : Layout → NodeId → Option NodeId
next_of layout node = next_among layout.rings node
