-- Where a list ends, and a ring: behind its last node, whatever is put in and taken out.
use Rattle.std.proofs.Common.{◌≡◌, ℕ, zero, suc, ◌+◌, ◌<◌, ◌++◌, true, false, cond, List, [], ◌∷◌, Some, None, length, get_or, sym, ap, subst, ◌∙◌, refl, arith}
use Rattle.std.specs.Option.{option_or}
use Rattle.coll_order.specs.Layout.{Layout, head_of, is_in, place_from, nodes_of, rings_with, rings_without, end_of_ring, IsRing, IsPlace}
use Rattle.coll_order.specs.Lists.{same_node, same_place, has_node, place_in, end_of, without, put_after}
use Rattle.coll_order.specs.Sound.{AreDistinct, StandOnce}
use Rattle.coll_order.specs.Store.{end_moved}
use Rattle.coll_order.specs.declared.places.NodeId.{NodeId}
use Rattle.coll_order.specs.declared.places.RingId.{RingId}
use Rattle.coll_order.specs.declared.places.Place.{Place}
use Rattle.coll_order.specs.declared.places.Place.TheVariants.{Head, After}
use Rattle.coll_order.proofs.ListLemmas.{neither, or_first, or_second, is_on, without_absent, rings_without_absent, place_absent, absent_place}
use Rattle.coll_order.proofs.RingLemmas.{get_put, distinct_ring, is_in_ring}
use Rattle.coll_order.proofs.Sameness.{by_test, not_both, same_node_is, same_node_itself, same_place_is, same_place_itself, other_node_turned, other_place, other_place_turned}

-- the place behind a list's nodes is after one of them
pub end_after : (first : NodeId) (rest : List NodeId) → (y : NodeId) × (end_of (After first) rest ≡ After y) × (has_node (first ∷ rest) y ≡ true)
end_after first [] = (first, refl, or_first (same_node first first) false (same_node_itself first))
end_after first (second ∷ rest) = let later = end_after second rest in (later.0, later.1, or_second (same_node later.0 first) _ later.2)

-- the place behind a list's nodes is in the list
pub end_on : (start : Place) (nodes : List NodeId) → is_on (end_of start nodes) start nodes ≡ true
end_on start [] = or_first (same_place start start) false (same_place_itself start)
end_on start (first ∷ rest) = or_second (same_place (end_of (After first) rest) start) _ (end_on (After first) rest)

-- a node put behind all others of a list is its last
put_end : (start : Place) (node : NodeId) (nodes : List NodeId) → AreDistinct nodes → ((y : NodeId) → start ≡ After y → has_node nodes y ≡ false)
    → put_after (end_of start nodes) node start nodes ≡ nodes ++ node ∷ []
put_end start node [] distinct fresh = ap (λ b. cond b (node ∷ []) []) (same_place_itself start)
put_end start node (first ∷ rest) distinct fresh =
    let behind = end_after first rest in
    let elsewhere : same_place (end_of (After first) rest) start ≡ false = other_place _ start (λ same. not_both behind.2 (fresh behind.0 (sym same ∙ behind.1))) in
    ap (λ b. cond b (node ∷ first ∷ rest) (first ∷ put_after (end_of (After first) rest) node (After first) rest)) elsewhere
    ∙ ap (λ nodes. first ∷ nodes) (put_end (After first) node rest distinct.1 (λ y same. subst (λ n. has_node rest n ≡ false) (cc) distinct.0))

-- so is one put behind all others of a ring
pub put_last : (index : ℕ) (node : NodeId) (nodes : List NodeId) → AreDistinct nodes → put_after (end_of (head_of index) nodes) node (head_of index) nodes ≡ nodes ++ node ∷ []
put_last index node nodes distinct = put_end (head_of index) node nodes distinct (λ y same. cc)

-- behind it is the new end
pub end_push : (start : Place) (nodes : List NodeId) (node : NodeId) → end_of start (nodes ++ node ∷ []) ≡ After node
end_push start [] node = refl
end_push start (first ∷ rest) node = end_push (After first) rest node

-- behind the nodes of a ring is a place where a node may be put
pub end_is_place : (layout : Layout) (ring : RingId) → IsRing layout ring → IsPlace layout (end_of_ring layout ring)
end_is_place layout ring there = behind (nodes_of layout ring) refl where
  behind : (nodes : List NodeId) → nodes_of layout ring ≡ nodes → IsPlace layout (end_of (Head ring) nodes)
  behind [] same = there
  behind (first ∷ rest) same =
      let last = end_after first rest in
      subst (IsPlace layout) (sym last.1) (is_in_ring layout.rings ring.index last.0 (subst (λ nodes. has_node nodes last.0 ≡ true) (sym same) last.2))

-- a list doesn't end behind a node that it hasn't
end_elsewhere : (start : Place) (nodes : List NodeId) (node : NodeId) → same_place start (After node) ≡ false → has_node nodes node ≡ false → same_place (end_of start nodes) (After node) ≡ false
end_elsewhere start [] node off absent = off
end_elsewhere start (first ∷ rest) node off absent =
    let apart = neither (same_node node first) (has_node rest node) absent in
    end_elsewhere (After first) rest node (other_node_turned node first apart.0) apart.1

-- a list with a node put in
end_put : (place start : Place) (node : NodeId) (nodes : List NodeId) → AreDistinct nodes → ((y : NodeId) → start ≡ After y → has_node nodes y ≡ false)
    → end_of start (put_after place node start nodes) ≡ end_moved (end_of start nodes) place (After node)
end_put place start node [] distinct fresh =
    by_test (λ b. same_place place start ≡ b → end_of start (cond b (node ∷ []) []) ≡ end_moved start place (After node)) (same_place place start)
    (λ on e. let same = same_place_is place start on in sym (ap (λ b. cond b (After node) start) (ap (same_place start) same ∙ same_place_itself start)))
    (λ off e. sym (ap (λ b. cond b (After node) start) (other_place_turned place start off))) refl
end_put place start node (first ∷ rest) distinct fresh =
    let end = end_of (After first) rest in
    by_test (λ b. end_of start (cond b (node ∷ first ∷ rest) (first ∷ put_after place node (After first) rest)) ≡ end_moved end place (After node)) (same_place place start)
    (λ on.
    let behind = end_after first rest in
    let elsewhere : same_place end place ≡ false = other_place end place (λ same. not_both behind.2 (fresh behind.0 (sym (same_place_is place start on) ∙ (sym same ∙ behind.1)))) in
    sym (ap (λ b. cond b (After node) end) elsewhere))
    (λ off. end_put place (After first) node rest distinct.1 (λ y same. subst (λ n. has_node rest n ≡ false) (cc) distinct.0))

-- a list without its first node
end_skipped : (start : Place) (first node : NodeId) (rest : List NodeId) → node ≡ first → AreDistinct (first ∷ rest) → end_of start rest ≡ end_moved (end_of (After first) rest) (After node) start
end_skipped start first node [] is distinct = sym (ap (λ b. cond b start (After first)) (ap (same_node first) is ∙ same_node_itself first))
end_skipped start first node (second ∷ rest) is distinct =
    let end = end_of (After second) rest in
    let apart = neither (same_node first second) (has_node rest first) distinct.0 in
    let off : same_node second node ≡ false = ap (same_node second) is ∙ other_node_turned first second apart.0 in
    let absent : has_node rest node ≡ false = ap (has_node rest) is ∙ apart.1 in
    sym (ap (λ b. cond b start end) (end_elsewhere (After second) rest node off absent))

-- a list with a node taken out
end_taken : (start place : Place) (node : NodeId) (nodes : List NodeId) → AreDistinct nodes → place_in start nodes node ≡ Some place
    → end_of start (without node nodes) ≡ end_moved (end_of start nodes) (After node) place
end_taken start place node [] distinct at = cc
end_taken start place node (first ∷ rest) distinct at =
    let end = end_of (After first) rest in
    by_test (λ b. same_node node first ≡ b → cond b (Some start) (place_in (After first) rest node) ≡ Some place → end_of start (cond b (without node rest) (first ∷ without node rest))
    ≡ end_moved end (After node) place) (same_node node first)
    (λ on t e.
    let is : node ≡ first = same_node_is node first on in
    let it : start ≡ place = cc in
    ap (end_of start) (without_absent node rest (subst (λ n. has_node rest n ≡ false) (sym is) distinct.0))
    ∙ (end_skipped start first node rest is distinct ∙ ap (end_moved end (After node)) it))
    (λ off t e. end_taken (After first) place node rest distinct.1 e) refl at

-- a ring without a node that it hasn't
end_kept : (index : ℕ) (nodes : List NodeId) (node : NodeId) (place : Place) → has_node nodes node ≡ false → end_of (head_of index) nodes ≡ end_moved (end_of (head_of index) nodes) (After node) place
end_kept index nodes node place absent = sym (ap (λ b. cond b place (end_of (head_of index) nodes)) (end_elsewhere (head_of index) nodes node refl absent))

-- each ring, with a node put into one of them
pub end_linked : (place : Place) (node : NodeId) (rings : List (List NodeId)) (index : ℕ) → StandOnce rings → index < length rings
    → end_of (head_of index) (get_or (rings_with place node 0 rings) index []) ≡ end_moved (end_of (head_of index) (get_or rings index [])) place (After node)
end_linked place node rings index once below =
    let same : 0 + index ≡ index = omega arith in
    ap (end_of (head_of index)) (get_put place node 0 index rings below ∙ ap (λ k. put_after place node (head_of k) (get_or rings index [])) same)
    ∙ end_put place (head_of index) node (get_or rings index []) (distinct_ring rings index once) (λ y same. cc)

-- each ring, with a node taken out of one of them
pub end_unlinked : (first index : ℕ) (rings : List (List NodeId)) (node : NodeId) (place : Place) → StandOnce rings → place_from first rings node ≡ Some place
    → end_of (head_of (first + index)) (get_or (rings_without node rings) index []) ≡ end_moved (end_of (head_of (first + index)) (get_or rings index [])) (After node) place
end_unlinked first index [] node place once at = cc
end_unlinked first zero (nodes ∷ rings) node place once at =
    let same : first ≡ first + zero = omega arith in
    subst (λ k. end_of (head_of k) (without node nodes) ≡ end_moved (end_of (head_of k) nodes) (After node) place) same
    (elim (place_in (head_of first) nodes node) as (λ found. place_in (head_of first) nodes node ≡ found → option_or found (place_from (suc first) rings node) ≡ Some place
    → end_of (head_of first) (without node nodes) ≡ end_moved (end_of (head_of first) nodes) (After node) place) [
      | Some p ↦ λ here e. end_taken (head_of first) place node nodes once.0 (here ∙ e)
      | None ↦ λ here e.
          let absent = absent_place (head_of first) nodes node here in
          ap (end_of (head_of first)) (without_absent node nodes absent) ∙ end_kept first nodes node place absent
    ] refl at)
end_unlinked first (suc index) (nodes ∷ rings) node place once at =
    let same : suc first + index ≡ first + suc index = omega arith in
    subst (λ k. end_of (head_of k) (get_or (rings_without node rings) index []) ≡ end_moved (end_of (head_of k) (get_or rings index [])) (After node) place) same
    (elim (place_in (head_of first) nodes node) as (λ found. place_in (head_of first) nodes node ≡ found → option_or found (place_from (suc first) rings node) ≡ Some place
    → end_of (head_of (suc first + index)) (get_or (rings_without node rings) index []) ≡ end_moved (end_of (head_of (suc first + index)) (get_or rings index [])) (After node) place) [
      | Some p ↦ λ here e.
          let there : has_node nodes node ≡ true =
          by_test (λ b. has_node nodes node ≡ b → b ≡ true) (has_node nodes node) (λ on t. refl) (λ off t. let none = place_absent (head_of first) nodes node off in cc) refl in
          let apart : is_in rings node ≡ false = once.1 node there in
          let absent : has_node (get_or rings index []) node ≡ false = by_test (λ b. has_node (get_or rings index []) node ≡ b → b ≡ false) (has_node (get_or rings index []) node)
          (λ on t. not_both (is_in_ring rings index node on) apart) (λ off t. refl) refl in
          ap (λ rings. end_of (head_of (suc first + index)) (get_or rings index [])) (rings_without_absent node rings apart)
          ∙ end_kept (suc first + index) (get_or rings index []) node place absent
      | None ↦ λ here e. end_unlinked (suc first) index rings node place once.2 e
    ] refl at)
