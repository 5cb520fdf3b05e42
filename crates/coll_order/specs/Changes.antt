-- What each call makes of a layout.
use Rattle.std.specs.Prelude.{ℕ, ◌+◌, ◌%◌, ◌^◌, [], ◌∷◌, ◌++◌, length}
use Rattle.std.specs.FinMap as finmap
use Rattle.coll_order.specs.declared.places.NodeId.{NodeId}
use Rattle.coll_order.specs.declared.places.RingId.{RingId}
use Rattle.coll_order.specs.declared.places.Place.{Place}
use Rattle.coll_order.specs.Layout.{Layout, RingStore, rings_without, rings_with}

-- a store with no ring, no node and no step taken
abbrev pub empty_store : RingStore
empty_store = record { layout = record { rings = []; tags = finmap.empty }; steps = 0 }

-- a layout with one more ring, which has no node
abbrev pub with_ring : Layout → Layout
with_ring layout = record layout { rings = layout.rings ++ [] ∷ [] }

-- the name of the ring that would be made next
abbrev pub next_ring : Layout → RingId
next_ring layout = record { index = length layout.rings }

-- a layout with one more node, which stands nowhere
abbrev pub with_node : Layout → NodeId → ℕ → Layout
with_node layout node tag = record layout { tags = finmap.insert layout.tags node.key tag }

-- a layout without a loose node
abbrev pub without_node : Layout → NodeId → Layout
without_node layout node = record layout { tags = finmap.remove layout.tags node.key }

-- a layout with a node taken out of its ring
abbrev pub unlinked : Layout → NodeId → Layout
unlinked layout node = record layout { rings = rings_without node layout.rings }

-- a layout with a node put directly after a place
abbrev pub linked : Layout → NodeId → Place → Layout
linked layout node place = record layout { rings = rings_with place node 0 layout.rings }

-- one ring step more, counted modulo 2 to the power 64
abbrev pub one_step_more : ℕ → ℕ
one_step_more steps = (steps + 1) % 2 ^ 64
