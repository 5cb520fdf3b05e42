-- Rings and the places in them: where a node goes that is put after a place, and which nodes stand in which ring, also without one.
use Rattle.std.proofs.Common.{◌≡◌, ℕ, zero, suc, ◌+◌, true, false, ◌||◌, cond, List, [], ◌∷◌, eqb, get_or, sym, ap, ◌∙◌, refl, arith}
use Rattle.std.specs.List.{list_any}
use Rattle.std.proofs.lemmas.Bool.Decides.{Decides-eqb}
use Rattle.coll_order.specs.Layout.{head_of, is_in, rings_with, rings_without}
use Rattle.coll_order.specs.Lists.{same_node, same_place, has_node, without}
use Rattle.coll_order.specs.Sound.{AreDistinct, StandOnce}
use Rattle.coll_order.specs.declared.places.NodeId.{NodeId}
use Rattle.coll_order.specs.declared.places.Place.{Place}
use Rattle.coll_order.specs.declared.places.Place.TheVariants.{Head, After}
use Rattle.coll_order.proofs.Sameness.{by_test, not_both, same_node_is, other_node_turned}
use Rattle.coll_order.proofs.RingLemmas.{is_in_ring}
use Rattle.coll_order.proofs.ListLemmas.{nor, put_nowhere, has_without, has_without_itself, is_in_without, is_in_without_itself}
use Rattle.coll_nodes.specs.SoundBodies.{is_place_of}

-- a ring that hasn't the place
pub get_put_other : (place : Place) (node : NodeId) (first index : ℕ) (rings : List (List NodeId)) → is_place_of place (head_of (first + index)) (get_or rings index []) ≡ false
    → get_or (rings_with place node first rings) index [] ≡ get_or rings index []
get_put_other place node first index [] off = refl
get_put_other place node first zero (nodes ∷ rings) off =
    let same : first + zero ≡ first = omega arith in
    put_nowhere place (head_of first) node nodes (ap (λ k. is_place_of place (head_of k) nodes) (sym same) ∙ off)
get_put_other place node first (suc index) (nodes ∷ rings) off =
    let same : suc first + index ≡ first + suc index = omega arith in
    get_put_other place node (suc first) index rings (ap (λ k. is_place_of place (head_of k) (get_or rings index [])) same ∙ off)

-- a node stands in one ring
pub in_one : (rings : List (List NodeId)) (i j : ℕ) (node : NodeId) → StandOnce rings → has_node (get_or rings i []) node ≡ true → has_node (get_or rings j []) node ≡ true → i ≡ j
in_one [] i j node once p q = not_both p refl
in_one (nodes ∷ rings) zero zero node once p q = refl
in_one (nodes ∷ rings) zero (suc j) node once p q = not_both (is_in_ring rings j node q) (once.1 node p)
in_one (nodes ∷ rings) (suc i) zero node once p q = not_both (is_in_ring rings i node p) (once.1 node q)
in_one (nodes ∷ rings) (suc i) (suc j) node once p q = ap suc (in_one rings i j node once.2 p q)

-- the head of a ring is after no node
pub head_after : (index : ℕ) (nodes : List NodeId) → list_any (λ node. same_place (head_of index) (After node)) nodes ≡ false
head_after index [] = refl
head_after index (node ∷ nodes) = head_after index nodes

-- a place is in one ring
pub place_off : (rings : List (List NodeId)) (place : Place) (i j : ℕ) → StandOnce rings → is_place_of place (head_of i) (get_or rings i []) ≡ true → (i ≡ j → ⊥)
    → is_place_of place (head_of j) (get_or rings j []) ≡ false
place_off rings (Head ring) i j once on differ =
    let here : eqb ring.index i ≡ true = by_test (λ b. (b || list_any (λ node. same_place (Head ring) (After node)) (get_or rings i [])) ≡ true → b ≡ true) (eqb ring.index i)
    (λ t e. refl) (λ f e. not_both e (head_after ring.index (get_or rings i []))) on in
    nor _ _ (by_test (λ b. eqb ring.index j ≡ b → b ≡ false) (eqb ring.index j) (λ t e. absurd (differ (sym ((Decides-eqb ring.index i).0 here) ∙ (Decides-eqb ring.index j).0 e))) (λ f e. refl) refl)
    (head_after ring.index (get_or rings j []))
place_off rings (After node) i j once on differ =
    by_test (λ b. has_node (get_or rings j []) node ≡ b → b ≡ false) (has_node (get_or rings j []) node) (λ t e. absurd (differ (in_one rings i j node once on e))) (λ f e. refl) refl

-- a node that stands in a list without another stood in the list
pub stood : (node other : NodeId) (nodes : List NodeId) → has_node (without node nodes) other ≡ true → (same_node other node ≡ false) × (has_node nodes other ≡ true)
stood node other nodes there = by_test (λ b. same_node other node ≡ b → (same_node other node ≡ false) × (has_node nodes other ≡ true)) (same_node other node)
    (λ on _. not_both (ap (has_node (without node nodes)) (sym (same_node_is other node on)) ∙ there) (has_without_itself node nodes))
    (λ off _. (off, sym (has_without node other nodes off) ∙ there)) refl

-- so in rings
pub stood_in : (node other : NodeId) (rings : List (List NodeId)) → is_in (rings_without node rings) other ≡ true → (same_node other node ≡ false) × (is_in rings other ≡ true)
stood_in node other rings there = by_test (λ b. same_node other node ≡ b → (same_node other node ≡ false) × (is_in rings other ≡ true)) (same_node other node)
    (λ on _. not_both (ap (is_in (rings_without node rings)) (sym (same_node_is other node on)) ∙ there) (is_in_without_itself node rings))
    (λ off _. (off, sym (is_in_without node other rings off) ∙ there)) refl

-- a list without a node has no node twice
distinct_without : (node : NodeId) (nodes : List NodeId) → AreDistinct nodes → AreDistinct (without node nodes)
distinct_without node [] distinct = tt
distinct_without node (first ∷ rest) distinct = by_test (λ b. same_node node first ≡ b → AreDistinct (cond b (without node rest) (first ∷ without node rest))) (same_node node first)
    (λ on _. distinct_without node rest distinct.1)
    (λ off _. (has_without node first rest (other_node_turned node first off) ∙ distinct.0, distinct_without node rest distinct.1)) refl

-- rings without a node have no node twice
pub once_without : (node : NodeId) (rings : List (List NodeId)) → StandOnce rings → StandOnce (rings_without node rings)
once_without node [] once = tt
once_without node (nodes ∷ rings) once = (
  distinct_without node nodes once.0,
  (λ other there.
      let was = stood node other nodes there in
      is_in_without node other rings was.0 ∙ once.1 other was.1),
  once_without node rings once.2,
)
