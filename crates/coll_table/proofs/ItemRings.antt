-- A node that is taken out and put directly after a place: what the rings are then.
use Rattle.std.proofs.Common.{◌≡◌, ℕ, ◌+◌, ◌<◌, ◌≤◌, true, false, List, ◌∷◌, [], Some, None, length, flat_map, slice_index_or, sym, ap, ap₂, subst, ◌∙◌, refl}
use Rattle.coll_order.specs.Layout.{head_of, rings_without}
use Rattle.coll_order.specs.Lists.{same_node, has_node, put_after, without}
use Rattle.coll_order.specs.declared.places.NodeId.{NodeId}
use Rattle.coll_order.specs.declared.places.Place.{Place}
use Rattle.coll_order.specs.declared.places.Place.TheVariants.{After}
use Rattle.coll_order.specs.declared.places.RingId.{RingId}
use Rattle.coll_order.proofs.ListLemmas.{has_without, has_without_itself, without_absent}
use Rattle.coll_order.proofs.RingLemmas.{length_rings_without, get_put}
use Rattle.coll_order.proofs.Sameness.{by_test, not_both, same_node_is}
use Rattle.coll_nodes.proofs.LayoutMoves.{get_without}
use Rattle.coll_nodes.proofs.LayoutReads.{entries_read, read_known, section_at}
use Rattle.coll_nodes.proofs.RingPlaces.{get_put_other}
use Rattle.coll_nodes.proofs.TurningNodes.{weighed_none}
use Rattle.coll_nodes.specs.Bodies.{with_link, without_link}
use Rattle.coll_nodes.specs.SoundBodies.{IsShaped, read_at, ring_at}
use Rattle.coll_nodes.specs.TableLayout.{TableLayout, MadeNode, entries_in, entry_in, section_in}
use Rattle.coll_nodes.specs.Moving.{moved_rings, weighed_nodes}
use Rattle.coll_table.specs.Turning.{item_on}
use Rattle.coll_nodes.specs.declared.contents.Content.TheVariants as content
use Rattle.coll_nodes.specs.declared.entries.Entry.{Entry}
use Rattle.coll_table.specs.declared.records.Item.{Item}

-- an item without weights links its node anew
pub linked_anew : (layout : TableLayout) (item : Item) (place : Place) → item.weights ≡ None → item.new ≡ Some place → item_on layout item ≡ with_link (without_link layout item.node) item.node place
linked_anew layout item place plain goes =
    ap₂ (λ (rings : List (List NodeId)) (nodes : List MadeNode). record { rings = rings; nodes = nodes }) (ap (λ to. moved_rings to layout.rings item.node to) goes)
    (ap (λ weights. weighed_nodes item.node weights layout.nodes) plain ∙ weighed_none item.node layout.nodes)

-- the ring of the place then
pub anew_put : (layout : TableLayout) (node : NodeId) (place : Place) (index : ℕ) → index < length layout.rings
    → ring_at (with_link (without_link layout node) node place) index ≡ put_after place node (head_of (0 + index)) (without node (ring_at layout index))
anew_put layout node place index below =
    get_put place node 0 index (rings_without node layout.rings) (subst (λ n. index < n) (sym (length_rings_without node layout.rings)) below)
    ∙ ap (put_after place node (head_of (0 + index))) (get_without node layout.rings index)

-- a ring that has neither the node nor the one that it goes behind is as it was
pub anew_other : (layout : TableLayout) (node after : NodeId) (index : ℕ) → has_node (ring_at layout index) node ≡ false → has_node (ring_at layout index) after ≡ false
    → ring_at (with_link (without_link layout node) node (After after)) index ≡ ring_at layout index
anew_other layout node after index absent absent_after =
    let stays : slice_index_or (rings_without node layout.rings) index [] ≡ ring_at layout index = get_without node layout.rings index ∙ without_absent node (ring_at layout index) absent in
    get_put_other (After after) node 0 index (rings_without node layout.rings) (ap (λ nodes. has_node nodes after) stays ∙ absent_after) ∙ stays

-- what stands in a list without a node stood there, and is another
pub before_taken : (node : NodeId) (nodes : List NodeId) (other : NodeId) → has_node (without node nodes) other ≡ true → (same_node other node ≡ false) × (has_node nodes other ≡ true)
before_taken node nodes other there = by_test (λ b. same_node other node ≡ b → (b ≡ false) × (has_node nodes other ≡ true)) (same_node other node)
    (λ on t. not_both (ap (has_node (without node nodes)) (sym (same_node_is other node t)) ∙ there) (has_without_itself node nodes))
    (λ off t. (refl, sym (has_without node other nodes t) ∙ there)) refl

module _ (layout : TableLayout) (shaped : IsShaped layout) (rings : List (List NodeId)) (stay : (index : ℕ) → 2 ≤ index → slice_index_or rings index [] ≡ ring_at layout index) where
  -- the same nodes in other rings
  abbrev now : TableLayout
  now = record layout { rings = rings }

  -- a ring of entries that stays has its entries
  entries_still : (ring : RingId) → 2 ≤ ring.index → entries_in now ring ≡ entries_in layout ring
  entries_still ring high = entries_read now ring ∙ (ap (flat_map (read_at entry_in layout)) (stay ring.index high) ∙ sym (entries_read layout ring))

  -- so a section reads the same
  pub section_still : (other : NodeId) → has_node (ring_at layout 1) other ≡ true → read_at (section_in now) now other ≡ read_at (section_in layout) layout other
  section_still other there =
      let is = section_at layout shaped other there in
      read_known (section_in now) now other (content.Begun is.0 is.1) is.2
      ∙ (ap (λ (entries : List Entry). record { name = is.0; entries = entries } ∷ []) (entries_still is.1 is.3)
      ∙ sym (read_known (section_in layout) layout other (content.Begun is.0 is.1) is.2))
