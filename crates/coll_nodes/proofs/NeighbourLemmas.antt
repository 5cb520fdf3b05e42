-- What stands at an end of a ring, or directly behind a node, is linked.
use Rattle.std.proofs.Common.{◌≡◌, Bool, true, List, [], ◌∷◌, Option, Some, None, IfSome, sym, subst}
use Rattle.coll_order.specs.Layout.{is_in}
use Rattle.coll_order.specs.Lists.{end_of, first_in, has_node}
use Rattle.coll_order.specs.declared.places.NodeId.{NodeId}
use Rattle.coll_order.specs.declared.places.RingId.{RingId}
use Rattle.coll_order.specs.declared.places.Place.TheVariants.{Head, After}
use Rattle.coll_order.proofs.EndLemmas.{end_after}
use Rattle.coll_order.proofs.RingLemmas.{in_some, is_in_ring}
use Rattle.coll_nodes.specs.Bodies.{IsLaidOut}
use Rattle.coll_nodes.specs.SoundBodies.{Finds}
use Rattle.coll_nodes.specs.TableLayout.{TableLayout, nodes_in}
use Rattle.coll_nodes.specs.WalkStates.{ComesNext, StandsIfAny}
use Rattle.coll_nodes.specs.declared.contents.Content.{Content}
use Rattle.coll_nodes.proofs.LayoutReads.{both_true}
use Rattle.coll_nodes.proofs.WalkLemmas.{stands_first, stands_linked, stands_next}

-- a node that stands in a ring, if there is one, is linked
linked_if_any : (layout : TableLayout) (ring : RingId) (node : Option NodeId) → StandsIfAny layout ring node → IfSome node (λ one. is_in layout.rings one ≡ true)
linked_if_any layout ring None there = tt
linked_if_any layout ring (Some node) there = stands_linked layout ring node there

-- the first node of a ring
pub linked_first : (layout : TableLayout) (ring : RingId) (first : Option NodeId) → first ≡ first_in (nodes_in layout ring) → IfSome first (λ one. is_in layout.rings one ≡ true)
linked_first layout ring first is = linked_if_any layout ring first (subst (StandsIfAny layout ring) (sym is) (stands_first layout ring))

-- the node directly behind one
pub linked_next : (layout : TableLayout) (node : NodeId) (next : Option NodeId) → IsLaidOut layout → is_in layout.rings node ≡ true → ComesNext layout.rings node next
    → IfSome next (λ one. is_in layout.rings one ≡ true)
linked_next layout node next laid there comes =
    let at = in_some layout.rings node there in
    linked_if_any layout (record { index = at.0 }) next (stands_next layout (record { index = at.0 }) node next laid at.1 comes)

-- the last node of a list that doesn't end where it begins
has_end : (ring : RingId) (nodes : List NodeId) (node : NodeId) → end_of (Head ring) nodes ≡ After node → has_node nodes node ≡ true
has_end ring [] node is = cc
has_end ring (first ∷ rest) node is =
    let last = end_after first rest in
    let same : last.0 ≡ node = cc in
    subst (λ n. has_node (first ∷ rest) n ≡ true) same last.2

-- the last node of a ring
pub linked_end : (layout : TableLayout) (ring : RingId) (node : NodeId) → end_of (Head ring) (nodes_in layout ring) ≡ After node → is_in layout.rings node ≡ true
linked_end layout ring node is = is_in_ring layout.rings ring.index node (has_end ring (nodes_in layout ring) node is)

-- a node that is found by its key is linked
pub linked_found : {Key : Type 0} (same : Key → Key → Bool) (keys : Content → List Key) (layout : TableLayout) (find : Key → Option NodeId) (key : Key) (node : Option NodeId)
    → Finds same keys layout find → node ≡ find key → IfSome node (λ one. is_in layout.rings one ≡ true)
linked_found same keys layout find key None finds is = tt
linked_found same keys layout find key (Some node) finds is = (both_true _ _ (finds.leads key node (sym is))).0
