-- What holds of the body of a table: its rings, its look-ups and its counts.
use Rattle.std.specs.Prelude.{◌≡◌, ◌≤◌, ◌<◌, ℕ, true, Some, length}
use Rattle.std.specs.List.{list_any}
use Rattle.coll_order.specs.declared.places.NodeId.{NodeId}
use Rattle.coll_order.specs.declared.places.RingId.{RingId}
use Rattle.coll_nodes.specs.Counting.{counts_at}
use Rattle.coll_nodes.specs.KeyedNodes.{FindsAll, HasKeysOf}
use Rattle.coll_nodes.specs.SoundBodies.{IsShaped, rings_in, same_ring}
use Rattle.coll_nodes.specs.TableLayout.{TableLayout, content_of, declarations_ring, sections_ring}
use Rattle.coll_nodes.specs.declared.contents.Content.{Content}
use Rattle.coll_nodes.specs.declared.counts.Counts.{Counts}
use Rattle.coll_nodes.specs.declared.node_keys.NodeKeys.{NodeKeys}

-- the ring of the section that a node is, if it is one, is there, and is neither that of the declarations nor that of the sections
abbrev pub HasItsRing : (rings : ℕ) → Content → Type 0
HasItsRing rings it = (ring : RingId) → list_any (same_ring ring) (rings_in it) ≡ true → (2 ≤ ring.index) × (ring.index < rings)

-- what is reserved for each node, whether it stands in a ring or is loose: its keys, and a section's ring
pub record IsReserved (layout : TableLayout) (keys : NodeKeys) : Type 0 where
  pub keys_of : (node : NodeId) (it : Content) → content_of layout node ≡ Some it → HasKeysOf keys it
  pub ring_of : (node : NodeId) (it : Content) → content_of layout node ≡ Some it → HasItsRing (length layout.rings) it

-- the rings are those of the declarations and the sections, the layout is one of a table, the look-ups find what stands in
-- it and have the keys of the rest, and the counts are the lengths of its lists
pub record IsSoundBody (layout : TableLayout) (declarations_is sections_is : RingId) (keys : NodeKeys) (counts : Counts) : Type 0 where
  pub declarations : declarations_is ≡ declarations_ring
  pub begun : sections_is ≡ sections_ring
  pub shaped : IsShaped layout
  pub found : FindsAll layout keys
  pub reserved : IsReserved layout keys
  pub counted : counts ≡ counts_at layout
