-- Layouts, for this crate and its callers: the laws, and what a change leaves of the conditions of the next call.
use Rattle.std.proofs.Common.{◌≡◌, ℕ, zero, suc, ◌++◌, true, false, cond, eqb, Some, None, get_or, inl, inr, List, [], ◌∷◌, sym, ap, subst, ◌∙◌, refl, arith}
use Rattle.std.specs.Option.{option_or}
use Rattle.std.specs.FinMap as finmap
use Rattle.std.specs.Cmp.{nat_cmp_total}
use Rattle.std.proofs.lemmas.Bool.Decides.{Decides-eqb}
use Rattle.coll_order.specs.Changes.{with_ring, with_node, without_node, unlinked, linked}
use Rattle.coll_order.specs.Laws.{LinkTakesBackUnlink, UnlinkTakesBackLink}
use Rattle.coll_order.specs.Layout.{Layout, is_in, nodes_of, place_of, tag_of, next_of, next_among, IsLinked, IsLoose, IsPlace}
use Rattle.coll_order.specs.Lists.{same_node, has_node, first_in, next_in}
use Rattle.coll_order.specs.Sound.{AreDistinct, StandOnce, IsSound}
use Rattle.coll_order.specs.declared.places.RingId.{RingId}
use Rattle.coll_order.proofs.Sameness.{by_test, not_both, same_node_itself, other_node}
use Rattle.coll_order.specs.declared.places.NodeId.{NodeId}
use Rattle.coll_order.specs.declared.places.Place.{Place}
use Rattle.coll_order.specs.declared.places.Place.TheVariants.{Head, After}
use Rattle.coll_order.proofs.ListLemmas.{is_among, is_in_without_itself, is_in_without, or_first, or_second, next_absent, next_among_absent, or_none}
use Rattle.coll_order.proofs.Tags.{get_inserted, get_removed}
use Rattle.coll_order.proofs.RingLemmas.{length_rings_without, place_of_rings, place_from_other, is_in_push, is_in_put, not_apart, among_after}
use Rattle.coll_order.proofs.RingLemmas.{among_head, rings_without_put, place_from_put, rings_put_back, is_in_put_itself, is_in_ring}

-- a place where a node may be put is in the rings
pub place_among : (layout : Layout) (place : Place) → IsPlace layout place → is_among place 0 layout.rings ≡ true
place_among layout (Head ring) there = among_head ring.index 0 layout.rings (omega arith) (omega arith)
place_among layout (After node) there = among_after node 0 layout.rings ∙ there

-- a node that is taken out and put back gives back the layout
pub link_takes_back : LinkTakesBackUnlink
link_takes_back layout node place sound at = ap (λ rings. record layout { rings = rings }) (rings_put_back place node 0 layout.rings at sound.once)

-- a node that is put in stands there, and taken out again gives back the layout
pub unlink_takes_back : UnlinkTakesBackLink
unlink_takes_back layout node place loose there = (
  place_from_put place node 0 layout.rings loose.apart (place_among layout place there),
  ap (λ rings. record layout { rings = rings }) (rings_without_put place node 0 layout.rings loose.apart),
)

-- a linked node that was taken out is loose
pub loose_unlinked : (layout : Layout) (node : NodeId) → IsSound layout → IsLinked layout node → IsLoose (unlinked layout node) node
loose_unlinked layout node sound there = record { made = sound.made node there; apart = is_in_without_itself node layout.rings }

-- a node that was put in is linked
pub linked_linked : (layout : Layout) (node : NodeId) (place : Place) → IsPlace layout place → IsLinked (linked layout node place) node
linked_linked layout node place there = is_in_put_itself place node 0 layout.rings (place_among layout place there)

-- the place where a node stood is still a place once the node is out
pub place_unlinked : (layout : Layout) (node : NodeId) (place : Place) → place_of layout node ≡ Some place → IsPlace (unlinked layout node) place
place_unlinked layout node place at = elim (place_of_rings 0 layout.rings node place at) [
  | inl here ↦ subst (λ p. IsPlace (unlinked layout node) p) (sym here.1)
      (let below = here.3 in let same = length_rings_without node layout.rings in omega arith)
  | inr here ↦ subst (λ p. IsPlace (unlinked layout node) p) (sym here.1)
      (is_in_without node here.0 layout.rings (other_node here.0 node (λ same. place_from_other 0 layout.rings node place at (here.1 ∙ ap After same))) ∙ here.2)
]

-- and while it stands there
pub place_linked : (layout : Layout) (node : NodeId) (place : Place) → place_of layout node ≡ Some place → IsPlace layout place
place_linked layout node place at = elim (place_of_rings 0 layout.rings node place at) [
  | inl here ↦ subst (λ p. IsPlace layout p) (sym here.1) (let below = here.3 in omega arith)
  | inr here ↦ subst (λ p. IsPlace layout p) (sym here.1) here.2
]

-- the other nodes are linked where they were, once a node is out
pub linked_unlinked : (layout : Layout) (node other : NodeId) → same_node other node ≡ false → is_in (unlinked layout node).rings other ≡ is_in layout.rings other
linked_unlinked layout node other differ = is_in_without node other layout.rings differ

-- and once a node is in
pub others_linked : (layout : Layout) (node other : NodeId) (place : Place) → same_node other node ≡ false → is_in (linked layout node place).rings other ≡ is_in layout.rings other
others_linked layout node other place differ = is_in_put place node other 0 layout.rings differ

-- and once a ring is made
pub linked_with_ring : (layout : Layout) (node : NodeId) → is_in (with_ring layout).rings node ≡ is_in layout.rings node
linked_with_ring layout node = is_in_push layout.rings node

-- the tag of a node once a node is made
pub tag_with_node : (layout : Layout) (node other : NodeId) (tag : ℕ) → tag_of (with_node layout node tag) other ≡ cond (same_node other node) (Some tag) (tag_of layout other)
tag_with_node layout node other tag = get_inserted layout.tags node.key tag other.key

-- and once one is dropped
pub tag_without_node : (layout : Layout) (node other : NodeId) → tag_of (without_node layout node) other ≡ cond (same_node other node) None (tag_of layout other)
tag_without_node layout node other = get_removed layout.tags node.key other.key

-- a node that is made and dropped gives back the layout
pub made_and_dropped : (layout : Layout) (node : NodeId) (tag : ℕ) → tag_of layout node ≡ None → without_node (with_node layout node tag) node ≡ layout
made_and_dropped layout node tag fresh = ap (λ tags. record layout { tags = tags }) (finmap.same_map nat_cmp_total finmap.nat_cmp-IsAntisymmetric _ _ (λ key.
    get_removed (finmap.insert layout.tags node.key tag) node.key key
    ∙ by_test (λ b. eqb key node.key ≡ b → cond b None (finmap.get (finmap.insert layout.tags node.key tag) key) ≡ finmap.get layout.tags key) (eqb key node.key)
    (λ on e. let same : key ≡ node.key = (Decides-eqb key node.key).0 on in sym (ap (finmap.get layout.tags) same ∙ fresh))
    (λ off e. get_inserted layout.tags node.key tag key ∙ ap (λ b. cond b (Some tag) (finmap.get layout.tags key)) off) refl))

-- a list has the node that stands between two parts of it
has_between : (prefix rest : List NodeId) (node : NodeId) → has_node (prefix ++ node ∷ rest) node ≡ true
has_between [] rest node = or_first (same_node node node) (has_node rest node) (same_node_itself node)
has_between (first ∷ prefix) rest node = or_second (same_node node first) (has_node (prefix ++ node ∷ rest) node) (has_between prefix rest node)

-- directly after it stands the first node of the second part
next_between : (prefix rest : List NodeId) (node : NodeId) → AreDistinct (prefix ++ node ∷ rest) → next_in (prefix ++ node ∷ rest) node ≡ first_in rest
next_between [] rest node distinct = ap (λ b. cond b (first_in rest) (next_in rest node)) (same_node_itself node)
next_between (first ∷ prefix) rest node distinct =
    let differ : same_node node first ≡ false = other_node node first (λ same. not_both (subst (λ n. has_node (prefix ++ node ∷ rest) n ≡ true) same (has_between prefix rest node)) distinct.0) in
    ap (λ b. cond b (first_in (prefix ++ node ∷ rest)) (next_in (prefix ++ node ∷ rest) node)) differ ∙ next_between prefix rest node distinct.1

-- directly after a node stands the next of its ring
next_among_between : (rings : List (List NodeId)) (index : ℕ) (prefix rest : List NodeId) (node : NodeId) → StandOnce rings → get_or rings index [] ≡ prefix ++ node ∷ rest
    → next_among rings node ≡ first_in rest
next_among_between [] index prefix rest node once at =
    not_both (subst (λ nodes. has_node nodes node ≡ true) (sym at) (has_between prefix rest node)) refl
next_among_between (nodes ∷ rings) zero prefix rest node once at =
    let there : has_node nodes node ≡ true = subst (λ nodes. has_node nodes node ≡ true) (sym at) (has_between prefix rest node) in
    ap (λ later. option_or (next_in nodes node) later) (next_among_absent rings node (once.1 node there))
    ∙ (or_none (next_in nodes node) ∙ (ap (λ nodes. next_in nodes node) at ∙ next_between prefix rest node (subst AreDistinct at once.0)))
next_among_between (nodes ∷ rings) (suc index) prefix rest node once at =
    let there : is_in rings node ≡ true = is_in_ring rings index node (subst (λ nodes. has_node nodes node ≡ true) (sym at) (has_between prefix rest node)) in
    ap (λ found. option_or found (next_among rings node)) (next_absent nodes node (not_apart nodes rings node once.1 there)) ∙ next_among_between rings index prefix rest node once.2 at

-- a node in the list of a ring is linked
pub linked_between : (layout : Layout) (ring : RingId) (prefix rest : List NodeId) (node : NodeId) → nodes_of layout ring ≡ prefix ++ node ∷ rest → IsLinked layout node
linked_between layout ring prefix rest node at = is_in_ring layout.rings ring.index node (subst (λ nodes. has_node nodes node ≡ true) (sym at) (has_between prefix rest node))

-- directly after a node in the list of a ring stands the next of the list
pub next_of_between : (layout : Layout) (ring : RingId) (prefix rest : List NodeId) (node : NodeId) → IsSound layout → nodes_of layout ring ≡ prefix ++ node ∷ rest
    → next_of layout node ≡ first_in rest
next_of_between layout ring prefix rest node sound at = next_among_between layout.rings ring.index prefix rest node sound.once at
