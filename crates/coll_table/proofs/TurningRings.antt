-- Rings from which a node is taken, and put elsewhere: no node stands twice, where each node stands, and the way back.
use Rattle.std.proofs.Common.{◌≡◌, ℕ, zero, suc, ◌+◌, ◌<◌, true, false, ◌||◌, cond, List, [], ◌∷◌, Option, Some, None, length, get_or, eqb, sym, ap, ◌∙◌, refl, arith}
use Rattle.std.specs.List.{list_any}
use Rattle.std.proofs.lemmas.Bool.Decides.{Decides-eqb}
use Rattle.coll_order.specs.Layout.{head_of, is_in, rings_with, rings_without}
use Rattle.coll_order.specs.Lists.{same_node, same_place, has_node, without, put_after}
use Rattle.coll_order.specs.Sound.{AreDistinct, AreApart, StandOnce}
use Rattle.coll_order.specs.declared.places.NodeId.{NodeId}
use Rattle.coll_order.specs.declared.places.Place.{Place}
use Rattle.coll_order.specs.declared.places.Place.TheVariants.{Head, After}
use Rattle.coll_order.proofs.ListLemmas.{neither, or_first, or_second, is_on, is_among, has_without, has_without_itself, has_put}
use Rattle.coll_order.proofs.ListLemmas.{put_nowhere, rings_without_absent, is_in_without, is_in_without_itself}
use Rattle.coll_order.proofs.RingLemmas.{among_after, among_earlier, length_rings_with, length_rings_without, rings_without_put, rings_put_back, rings_put_nowhere, is_in_put}
use Rattle.coll_order.proofs.Sameness.{by_test, not_both, same_node_is, other_node_turned}
use Rattle.coll_nodes.proofs.LayoutMoves.{get_without}
use Rattle.coll_nodes.proofs.RingPlaces.{get_put_other, head_after}
use Rattle.coll_nodes.specs.SoundBodies.{is_place_of}
use Rattle.coll_nodes.specs.TableLayout.{TableLayout}
use Rattle.coll_nodes.specs.Moving.{IsAt, relinked}

-- a list without a node has none twice
pub distinct_without : (node : NodeId) (nodes : List NodeId) → AreDistinct nodes → AreDistinct (without node nodes)
distinct_without node [] distinct = tt
distinct_without node (first ∷ rest) distinct =
    by_test (λ b. AreDistinct (cond b (without node rest) (first ∷ without node rest))) (same_node node first)
    (λ on. distinct_without node rest distinct.1)
    (λ off. (has_without node first rest (other_node_turned node first off) ∙ distinct.0, distinct_without node rest distinct.1))

-- nor has one into which a node is put that wasn't there
distinct_put : (place start : Place) (node : NodeId) (nodes : List NodeId) → has_node nodes node ≡ false → AreDistinct nodes → AreDistinct (put_after place node start nodes)
distinct_put place start node [] absent distinct = by_test (λ b. AreDistinct (cond b (node ∷ []) [])) (same_place place start) (λ on. (refl, tt)) (λ off. tt)
distinct_put place start node (first ∷ rest) absent distinct =
    by_test (λ b. AreDistinct (cond b (node ∷ first ∷ rest) (first ∷ put_after place node (After first) rest))) (same_place place start)
    (λ on. (absent, distinct))
    (λ off. by_test (λ b. same_node node first ≡ b → (b || has_node rest node) ≡ false → AreDistinct (first ∷ put_after place node (After first) rest)) (same_node node first)
    (λ here e gone. not_both refl gone)
    (λ apart e gone. (has_put place (After first) node first rest (other_node_turned node first e) ∙ distinct.0, distinct_put place (After first) node rest gone distinct.1)) refl absent)

-- rings without a node have none twice
pub once_without : (node : NodeId) (rings : List (List NodeId)) → StandOnce rings → StandOnce (rings_without node rings)
once_without node [] once = tt
once_without node (nodes ∷ rings) once = (distinct_without node nodes once.0, apart, once_without node rings once.2) where
  apart : (other : NodeId) → has_node (without node nodes) other ≡ true → is_in (rings_without node rings) other ≡ false
  apart other there = by_test (λ b. same_node other node ≡ b → is_in (rings_without node rings) other ≡ false) (same_node other node)
      (λ on e. not_both (ap (has_node (without node nodes)) (sym (same_node_is other node e)) ∙ there) (has_without_itself node nodes))
      (λ off e. is_in_without node other rings e ∙ once.1 other (sym (has_without node other nodes e) ∙ there)) refl

-- a place in a ring is in none of those behind it
place_once : (place : Place) (first : ℕ) (nodes : List NodeId) (rings : List (List NodeId)) → AreApart nodes rings → is_on place (head_of first) nodes ≡ true → is_among place (suc first) rings ≡ false
place_once (Head ring) first nodes rings apart on =
    let here : eqb ring.index first ≡ true = by_test (λ b. (b || list_any (λ node. same_place (Head ring) (After node)) nodes) ≡ true → b ≡ true) (eqb ring.index first)
    (λ t e. refl) (λ f e. not_both e (head_after ring.index nodes)) on in
    let is : ring.index ≡ first = (Decides-eqb ring.index first).0 here in
    among_earlier ring.index (suc first) rings (omega arith)
place_once (After node) first nodes rings apart on = among_after node (suc first) rings ∙ apart node on

-- a node stands where it is put in a list, or nowhere in it
put_where : (place start : Place) (node : NodeId) (nodes : List NodeId) → has_node nodes node ≡ false → has_node (put_after place node start nodes) node ≡ true → is_on place start nodes ≡ true
put_where place start node nodes absent there = by_test (λ b. is_on place start nodes ≡ b → b ≡ true) (is_on place start nodes)
    (λ on e. refl)
    (λ off e. not_both there (ap (λ list. has_node list node) (put_nowhere place start node nodes e) ∙ absent)) refl

-- nor have rings into which a node is put that stood nowhere
pub once_with : (place : Place) (node : NodeId) (first : ℕ) (rings : List (List NodeId)) → is_in rings node ≡ false → StandOnce rings → StandOnce (rings_with place node first rings)
once_with place node first [] absent once = tt
once_with place node first (nodes ∷ rings) absent once =
    (distinct_put place (head_of first) node nodes gone.0 once.0, apart, once_with place node (suc first) rings gone.1 once.2) where
      gone : (has_node nodes node ≡ false) × (is_in rings node ≡ false)
      gone = neither (has_node nodes node) (is_in rings node) absent

      apart : (other : NodeId) → has_node (put_after place node (head_of first) nodes) other ≡ true → is_in (rings_with place node (suc first) rings) other ≡ false
      apart other there = by_test (λ b. same_node other node ≡ b → is_in (rings_with place node (suc first) rings) other ≡ false) (same_node other node)
          (λ on e.
          let is : other ≡ node = same_node_is other node e in
          let here = put_where place (head_of first) node nodes gone.0 (ap (has_node (put_after place node (head_of first) nodes)) (sym is) ∙ there) in
          ap (λ list. is_in list other) (rings_put_nowhere place node (suc first) rings (place_once place first nodes rings once.1 here)) ∙ (ap (is_in rings) is ∙ gone.1))
          (λ off e. is_in_put place node other (suc first) rings e ∙ once.1 other (sym (has_put place (head_of first) node other nodes e) ∙ there)) refl

-- rings in which a node goes to a place have none twice
pub once_relinked : (rings : List (List NodeId)) (node : NodeId) (to : Option Place) → StandOnce rings → StandOnce (relinked rings node to)
once_relinked rings node None once = once_without node rings once
once_relinked rings node (Some place) once = once_with place node 0 (rings_without node rings) (is_in_without_itself node rings) (once_without node rings once)

-- there are as many rings
pub length_relinked : (rings : List (List NodeId)) (node : NodeId) (to : Option Place) → length (relinked rings node to) ≡ length rings
length_relinked rings node None = length_rings_without node rings
length_relinked rings node (Some place) = length_rings_with place node 0 (rings_without node rings) ∙ length_rings_without node rings

-- wherever a node goes, without it the rings are the same
pub without_relinked : (rings : List (List NodeId)) (node : NodeId) (to : Option Place) → rings_without node (relinked rings node to) ≡ rings_without node rings
without_relinked rings node None = rings_without_absent node (rings_without node rings) (is_in_without_itself node rings)
without_relinked rings node (Some place) = rings_without_put place node 0 (rings_without node rings) (is_in_without_itself node rings)

-- a node that goes somewhere, and back to where it stood, gives back the rings
pub goes_back : (layout : TableLayout) (node : NodeId) (from to : Option Place) → StandOnce layout.rings → IsAt layout node from → relinked (relinked layout.rings node to) node from ≡ layout.rings
goes_back layout node None to once at = without_relinked layout.rings node to ∙ rings_without_absent node layout.rings at.apart
goes_back layout node (Some place) to once at = ap (rings_with place node 0) (without_relinked layout.rings node to) ∙ rings_put_back place node 0 layout.rings at once

-- the other nodes stand in rings where they stood in some
pub is_in_relinked : (rings : List (List NodeId)) (node other : NodeId) (to : Option Place) → same_node other node ≡ false → is_in (relinked rings node to) other ≡ is_in rings other
is_in_relinked rings node other None differ = is_in_without node other rings differ
is_in_relinked rings node other (Some place) differ = is_in_put place node other 0 (rings_without node rings) differ ∙ is_in_without node other rings differ

-- a node stands in the ring where it stood, once another is put in
stays_in : (place : Place) (node other : NodeId) (first index : ℕ) (rings : List (List NodeId)) → same_node other node ≡ false
    → has_node (get_or (rings_with place node first rings) index []) other ≡ has_node (get_or rings index []) other
stays_in place node other first index [] differ = refl
stays_in place node other first zero (nodes ∷ rings) differ = has_put place (head_of first) node other nodes differ
stays_in place node other first (suc index) (nodes ∷ rings) differ = stays_in place node other (suc first) index rings differ

-- and once another is taken out
ring_without : (rings : List (List NodeId)) (node other : NodeId) (index : ℕ) → same_node other node ≡ false → has_node (get_or (rings_without node rings) index []) other
    ≡ has_node (get_or rings index []) other
ring_without rings node other index differ = ap (λ nodes. has_node nodes other) (get_without node rings index) ∙ has_without node other (get_or rings index []) differ

-- whichever place another goes to, a node stands in the ring where it stood
pub ring_relinked : (rings : List (List NodeId)) (node other : NodeId) (to : Option Place) (index : ℕ) → same_node other node ≡ false
    → has_node (get_or (relinked rings node to) index []) other ≡ has_node (get_or rings index []) other
ring_relinked rings node other None index differ = ring_without rings node other index differ
ring_relinked rings node other (Some place) index differ = stays_in place node other 0 index (rings_without node rings) differ ∙ ring_without rings node other index differ

-- numbers from 0 on
from_zero : (index : ℕ) → 0 + index ≡ index
from_zero index = omega arith

-- the node stands in the ring that has the place where it is put
pub ring_put : (rings : List (List NodeId)) (node : NodeId) (place : Place) (index : ℕ) → has_node (get_or (relinked rings node (Some place)) index []) node ≡ true
    → is_place_of place (head_of index) (get_or (rings_without node rings) index []) ≡ true
ring_put rings node place index there =
    by_test (λ b. is_place_of place (head_of index) (get_or (rings_without node rings) index []) ≡ b → b ≡ true) (is_place_of place (head_of index) (get_or (rings_without node rings) index []))
    (λ on e. refl)
    (λ off e. not_both there (ap (λ nodes. has_node nodes node)
    (get_put_other place node 0 index (rings_without node rings) (ap (λ k. is_place_of place (head_of k) (get_or (rings_without node rings) index [])) (from_zero index) ∙ e))
    ∙ (ap (λ nodes. has_node nodes node) (get_without node rings index) ∙ has_without_itself node (get_or rings index [])))) refl

-- a place in the ring with a number is in rings numbered from a first on
among_from : (rings : List (List NodeId)) (place : Place) (first index : ℕ) → index < length rings → is_place_of place (head_of (first + index)) (get_or rings index []) ≡ true
    → is_among place first rings ≡ true
among_from [] place first index below on = absurd (omega arith)
among_from (nodes ∷ rings) place first zero below on = let same : first + zero ≡ first = omega arith in or_first _ _ (ap (λ k. is_on place (head_of k) nodes) (sym same) ∙ on)
among_from (nodes ∷ rings) place first (suc index) below on =
    let same : suc first + index ≡ first + suc index = omega arith in
    or_second (is_on place (head_of first) nodes) _ (among_from rings place (suc first) index (omega arith) (ap (λ k. is_place_of place (head_of k) (get_or rings index [])) same ∙ on))

-- and in the rings
pub among_ring : (rings : List (List NodeId)) (place : Place) (index : ℕ) → index < length rings → is_place_of place (head_of index) (get_or rings index []) ≡ true → is_among place 0 rings ≡ true
among_ring rings place index below on = among_from rings place 0 index below (ap (λ k. is_place_of place (head_of k) (get_or rings index [])) (from_zero index) ∙ on)
