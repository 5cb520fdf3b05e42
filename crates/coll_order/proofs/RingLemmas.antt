-- Rings of nodes: the two laws of taking a node out and putting it in.
use Rattle.std.proofs.Common.{◌≡◌, ℕ, zero, suc, ◌+◌, ◌<◌, ◌≤◌, ◌++◌, true, false, ◌||◌, cond, List, [], ◌∷◌, Some, None, length, eqb, get_or, sym, ap, subst, ◌∙◌, refl, arith, ◌⊎◌, inl, inr}
use Rattle.std.proofs.lemmas.Bool.Decides.{Decides-eqb}
use Rattle.std.specs.Option.{option_or}
use Rattle.coll_order.specs.Lists.{same_node, same_place, has_node, place_in, without, put_after}
use Rattle.coll_order.specs.Layout.{head_of, is_in, place_from, rings_without, rings_with}
use Rattle.coll_order.specs.Sound.{AreDistinct, AreApart, StandOnce}
use Rattle.coll_order.specs.declared.places.NodeId.{NodeId}
use Rattle.coll_order.specs.declared.places.Place.{Place}
use Rattle.coll_order.specs.declared.places.Place.TheVariants.{Head, After}
use Rattle.coll_order.proofs.Sameness.{by_test, not_both, same_node_is, same_node_itself, other_place}
use Rattle.coll_order.proofs.ListLemmas.{neither, nor, or_first, or_second, is_on, is_among, without_absent, rings_without_absent, put_nowhere}
use Rattle.coll_order.proofs.ListLemmas.{put_first, has_put_itself, has_put, without_put, place_put, place_absent, absent_place}

-- there are as many rings with a node put in
pub length_rings_with : (place : Place) (node : NodeId) (first : ℕ) (rings : List (List NodeId)) → length (rings_with place node first rings) ≡ length rings
length_rings_with place node first [] = refl
length_rings_with place node first (nodes ∷ rings) = ap suc (length_rings_with place node (suc first) rings)

-- there are as many rings with a node taken out
pub length_rings_without : (node : NodeId) (rings : List (List NodeId)) → length (rings_without node rings) ≡ length rings
length_rings_without node [] = refl
length_rings_without node (nodes ∷ rings) = ap suc (length_rings_without node rings)

-- the place after a node is in rings that have the node
pub among_after : (node : NodeId) (first : ℕ) (rings : List (List NodeId)) → is_among (After node) first rings ≡ is_in rings node
among_after node first [] = refl
among_after node first (nodes ∷ rings) = ap (λ b. has_node nodes node || b) (among_after node (suc first) rings)

-- the head of a ring is in rings that have the ring
pub among_head : (index first : ℕ) (rings : List (List NodeId)) → first ≤ index → index < first + length rings → is_among (head_of index) first rings ≡ true
among_head index first [] low high = absurd (omega arith)
among_head index first (nodes ∷ rings) low high =
    by_test (λ b. eqb index first ≡ b → is_among (head_of index) first (nodes ∷ rings) ≡ true) (eqb index first)
    (λ on e. or_first (is_on (head_of index) (head_of first) nodes) _ (or_first (eqb index first) _ on))
    (λ off e.
    let differ : index ≡ first → ⊥ = λ same. not_both ((Decides-eqb index first).1 same) off in
    let above : suc first ≤ index = grind arith in
    let below : index < suc first + length rings = omega arith in
    or_second (is_on (head_of index) (head_of first) nodes) _ (among_head index (suc first) rings above below))
    refl

-- the head of a ring is after no node
pub head_off : (index : ℕ) (nodes : List NodeId) (start : Place) → same_place (head_of index) start ≡ false → is_on (head_of index) start nodes ≡ false
head_off index [] start off = nor (same_place (head_of index) start) false off refl
head_off index (node ∷ nodes) start off = nor (same_place (head_of index) start) _ off (neither (same_place (head_of index) start) _ (head_off index nodes start off)).1

-- heads of different rings differ
pub heads_differ : (a b : ℕ) → a < b → head_of a ≡ head_of b → ⊥
heads_differ a b below same = let equal : a ≡ b = ap number same in absurd (omega arith) where
  number : Place → ℕ
  number (Head ring) = ring.index
  number (After node) = zero

-- the head of an earlier ring isn't in rings
pub among_earlier : (index first : ℕ) (rings : List (List NodeId)) → index < first → is_among (head_of index) first rings ≡ false
among_earlier index first [] low = refl
among_earlier index first (nodes ∷ rings) low =
    nor (is_on (head_of index) (head_of first) nodes) _
    (head_off index nodes (head_of first) (other_place (head_of index) (head_of first) (heads_differ index first low)))
    (among_earlier index (suc first) rings (omega arith))

-- rings with a node put in, without it, are the rings that hadn't it
pub rings_without_put : (place : Place) (node : NodeId) (first : ℕ) (rings : List (List NodeId)) → is_in rings node ≡ false → rings_without node (rings_with place node first rings) ≡ rings
rings_without_put place node first [] absent = refl
rings_without_put place node first (nodes ∷ rings) absent =
    let apart = neither (has_node nodes node) (is_in rings node) absent in
    ap (λ nodes. nodes ∷ rings_without node (rings_with place node (suc first) rings)) (without_put place (head_of first) node nodes apart.0)
    ∙ ap (λ rings. nodes ∷ rings) (rings_without_put place node (suc first) rings apart.1)

-- a node that was put after a place of the rings is in them
pub is_in_put_itself : (place : Place) (node : NodeId) (first : ℕ) (rings : List (List NodeId)) → is_among place first rings ≡ true → is_in (rings_with place node first rings) node ≡ true
is_in_put_itself place node first [] on = not_both on refl
is_in_put_itself place node first (nodes ∷ rings) on =
    by_test (λ b. is_on place (head_of first) nodes ≡ b → is_in (rings_with place node first (nodes ∷ rings)) node ≡ true) (is_on place (head_of first) nodes)
    (λ here e. or_first (has_node (put_after place node (head_of first) nodes) node) _ (has_put_itself place (head_of first) node nodes here))
    (λ off e. or_second (has_node (put_after place node (head_of first) nodes) node) _
    (is_in_put_itself place node (suc first) rings (sym (ap (λ b. b || is_among place (suc first) rings) off) ∙ on)))
    refl

-- the others are in them where they were
pub is_in_put : (place : Place) (node other : NodeId) (first : ℕ) (rings : List (List NodeId)) → same_node other node ≡ false → is_in (rings_with place node first rings) other ≡ is_in rings other
is_in_put place node other first [] differ = refl
is_in_put place node other first (nodes ∷ rings) differ =
    ap (λ b. b || is_in (rings_with place node (suc first) rings) other) (has_put place (head_of first) node other nodes differ)
    ∙ ap (λ b. has_node nodes other || b) (is_in_put place node other (suc first) rings differ)

-- the place of a node that was put after a place is that place
pub place_from_put : (place : Place) (node : NodeId) (first : ℕ) (rings : List (List NodeId)) → is_in rings node ≡ false → is_among place first rings ≡ true
    → place_from first (rings_with place node first rings) node ≡ Some place
place_from_put place node first [] absent on = not_both on refl
place_from_put place node first (nodes ∷ rings) absent on =
    let apart = neither (has_node nodes node) (is_in rings node) absent in
    let later = place_from (suc first) (rings_with place node (suc first) rings) node in
    by_test (λ b. is_on place (head_of first) nodes ≡ b → place_from first (rings_with place node first (nodes ∷ rings)) node ≡ Some place) (is_on place (head_of first) nodes)
    (λ here e. ap (λ found. option_or found later) (place_put place (head_of first) node nodes apart.0 here))
    (λ off e. ap (λ nodes. option_or (place_in (head_of first) nodes node) later) (put_nowhere place (head_of first) node nodes off)
    ∙ (ap (λ found. option_or found later) (place_absent (head_of first) nodes node apart.0)
    ∙ place_from_put place node (suc first) rings apart.1 (sym (ap (λ b. b || is_among place (suc first) rings) off) ∙ on)))
    refl

-- after a place that isn't in rings nothing is put
pub rings_put_nowhere : (place : Place) (node : NodeId) (first : ℕ) (rings : List (List NodeId)) → is_among place first rings ≡ false → rings_with place node first rings ≡ rings
rings_put_nowhere place node first [] off = refl
rings_put_nowhere place node first (nodes ∷ rings) off =
    let apart = neither (is_on place (head_of first) nodes) (is_among place (suc first) rings) off in
    ap (λ nodes. nodes ∷ rings_with place node (suc first) rings) (put_nowhere place (head_of first) node nodes apart.0)
    ∙ ap (λ rings. nodes ∷ rings) (rings_put_nowhere place node (suc first) rings apart.1)

-- a place after a node of the list is one of its nodes'
place_after : (start : NodeId) (nodes : List NodeId) (node : NodeId) (place : Place) → place_in (After start) nodes node ≡ Some place
    → (y : NodeId) × (place ≡ After y) × (has_node (start ∷ nodes) y ≡ true)
place_after start [] node place e = cc
place_after start (first ∷ rest) node place e =
    by_test (λ b. cond b (Some (After start)) (place_in (After first) rest node) ≡ Some place → (y : NodeId) × (place ≡ After y) × (has_node (start ∷ first ∷ rest) y ≡ true)) (same_node node first)
    (λ on e. (start, cc, or_first (same_node start start) _ (same_node_itself start)))
    (λ off e. let later = place_after first rest node place e in (later.0, later.1, or_second (same_node later.0 start) _ later.2)) e

-- a place in a list is its beginning, or after one of its nodes
place_of_list : (start : Place) (nodes : List NodeId) (node : NodeId) (place : Place) → place_in start nodes node ≡ Some place
    → (place ≡ start) ⊎ ((y : NodeId) × (place ≡ After y) × (has_node nodes y ≡ true))
place_of_list start [] node place e = cc
place_of_list start (first ∷ rest) node place e =
    by_test (λ b. cond b (Some start) (place_in (After first) rest node) ≡ Some place → (place ≡ start) ⊎ ((y : NodeId) × (place ≡ After y) × (has_node (first ∷ rest) y ≡ true)))
    (same_node node first)
    (λ on e. inl (cc)) (λ off e. inr (place_after first rest node place e)) e

-- a node that was taken out goes back to its place
pub put_back : (place start : Place) (node : NodeId) (nodes : List NodeId) → place_in start nodes node ≡ Some place → AreDistinct nodes
    → ((y : NodeId) → start ≡ After y → has_node nodes y ≡ false) → put_after place node start (without node nodes) ≡ nodes
put_back place start node [] e distinct fresh = cc
put_back place start node (first ∷ rest) e distinct fresh =
    by_test (λ b. same_node node first ≡ b → cond b (Some start) (place_in (After first) rest node) ≡ Some place → put_after place node start (cond b (without node rest) (first ∷ without node rest))
    ≡ first ∷ rest) (same_node node first)
    (λ on t e.
    let same : node ≡ first = same_node_is node first on in
    let here : place ≡ start = cc in
    let absent : has_node rest node ≡ false = subst (λ n. has_node rest n ≡ false) (sym same) distinct.0 in
    ap (put_after place node start) (without_absent node rest absent) ∙ (ap (λ p. put_after p node start rest) here ∙ (put_first start node rest ∙ ap (λ n. n ∷ rest) same)))
    (λ off t e.
    let stands = place_after first rest node place e in
    let elsewhere : same_place place start ≡ false = other_place place start (λ same. not_both stands.2 (fresh stands.0 (sym same ∙ stands.1))) in
    let later : (y : NodeId) → After first ≡ After y → has_node rest y ≡ false = λ y same. subst (λ n. has_node rest n ≡ false) (cc) distinct.0 in
    ap (λ b. cond b (node ∷ first ∷ without node rest) (first ∷ put_after place node (After first) (without node rest))) elsewhere
    ∙ ap (λ nodes. first ∷ nodes) (put_back place (After first) node rest e distinct.1 later)) refl e

-- a place in rings is the head of one of them, or after one of their nodes
pub place_of_rings : (first : ℕ) (rings : List (List NodeId)) (node : NodeId) (place : Place) → place_from first rings node ≡ Some place
    → ((index : ℕ) × (place ≡ head_of index) × (first ≤ index) × (index < first + length rings)) ⊎ ((y : NodeId) × (place ≡ After y) × (is_in rings y ≡ true))
place_of_rings first [] node place e = cc
place_of_rings first (nodes ∷ rings) node place e =
    elim (place_in (head_of first) nodes node) as (λ found. place_in (head_of first) nodes node ≡ found → option_or found (place_from (suc first) rings node) ≡ Some place
    → ((index : ℕ) × (place ≡ head_of index) × (first ≤ index) × (index < first + suc (length rings))) ⊎ ((y : NodeId) × (place ≡ After y) × (is_in (nodes ∷ rings) y ≡ true))) [
      | Some p ↦ λ here e. elim (place_of_list (head_of first) nodes node place (here ∙ e)) [
        | inl at ↦ inl (first, at, omega arith, omega arith)
        | inr at ↦ inr (at.0, at.1, or_first (has_node nodes at.0) _ at.2)
      ]
      | None ↦ λ here e. elim (place_of_rings (suc first) rings node place e) [
        | inl at ↦ inl (at.0, at.1, let above = at.2 in omega arith, let below = at.3 in omega arith)
        | inr at ↦ inr (at.0, at.1, or_second (has_node nodes at.0) _ at.2)
      ]
    ] refl e

-- a node in none of two lists' rings can't be in the second where it is in the first
pub not_apart : (nodes : List NodeId) (rings : List (List NodeId)) (node : NodeId) → AreApart nodes rings → is_in rings node ≡ true → has_node nodes node ≡ false
not_apart nodes rings node apart there =
    by_test (λ b. has_node nodes node ≡ b → b ≡ false) (has_node nodes node) (λ here e. not_both there (apart node here)) (λ off e. refl) refl

-- a node that was taken out of rings goes back to its place
pub rings_put_back : (place : Place) (node : NodeId) (first : ℕ) (rings : List (List NodeId)) → place_from first rings node ≡ Some place → StandOnce rings
    → rings_with place node first (rings_without node rings) ≡ rings
rings_put_back place node first [] e once = cc
rings_put_back place node first (nodes ∷ rings) e once =
    elim (place_in (head_of first) nodes node) as (λ found. place_in (head_of first) nodes node ≡ found → option_or found (place_from (suc first) rings node) ≡ Some place
    → put_after place node (head_of first) (without node nodes) ∷ rings_with place node (suc first) (rings_without node rings) ≡ nodes ∷ rings) [
      | Some p ↦ λ here e.
          let at : place_in (head_of first) nodes node ≡ Some place = here ∙ e in
          let there : has_node nodes node ≡ true =
          by_test (λ b. has_node nodes node ≡ b → b ≡ true) (has_node nodes node) (λ on t. refl) (λ off t. let none = place_absent (head_of first) nodes node off in cc) refl in
          let nowhere : is_among place (suc first) rings ≡ false = elim (place_of_list (head_of first) nodes node place at) [
            | inl same ↦ ap (λ p. is_among p (suc first) rings) same ∙ among_earlier first (suc first) rings (omega arith)
            | inr same ↦ ap (λ p. is_among p (suc first) rings) same.1 ∙ (among_after same.0 (suc first) rings ∙ once.1 same.0 same.2)
          ] in
          ap (λ list. list ∷ rings_with place node (suc first) (rings_without node rings)) (put_back place (head_of first) node nodes at once.0 (λ y same. cc))
          ∙ ap (λ rest. nodes ∷ rest) (ap (rings_with place node (suc first)) (rings_without_absent node rings (once.1 node there)) ∙ rings_put_nowhere place node (suc first) rings nowhere)
      | None ↦ λ here e.
          let off : is_on place (head_of first) nodes ≡ false = elim (place_of_rings (suc first) rings node place e) [
            | inl same ↦ ap (λ p. is_on p (head_of first) nodes) same.1
                ∙ head_off same.0 nodes (head_of first) (other_place (head_of same.0) (head_of first) (λ e. heads_differ first same.0 same.2 (sym e)))
            | inr same ↦ ap (λ p. is_on p (head_of first) nodes) same.1 ∙ not_apart nodes rings same.0 once.1 same.2
          ] in
          ap (λ list. put_after place node (head_of first) list ∷ rings_with place node (suc first) (rings_without node rings))
          (without_absent node nodes (absent_place (head_of first) nodes node here))
          ∙ (ap (λ list. list ∷ rings_with place node (suc first) (rings_without node rings)) (put_nowhere place (head_of first) node nodes off)
          ∙ ap (λ rest. nodes ∷ rest) (rings_put_back place node (suc first) rings e once.2))
    ] refl e

-- no node stands directly after itself
place_other : (start : Place) (nodes : List NodeId) (node : NodeId) (place : Place) → place_in start nodes node ≡ Some place → (start ≡ After node → ⊥) → place ≡ After node → ⊥
place_other start [] node place e fresh same = cc
place_other start (first ∷ rest) node place e fresh same =
    by_test (λ b. same_node node first ≡ b → cond b (Some start) (place_in (After first) rest node) ≡ Some place → ⊥) (same_node node first)
    (λ on t e. fresh (let here : place ≡ start = cc in sym here ∙ same))
    (λ off t e. place_other (After first) rest node place e (λ own. not_both (subst (λ n. same_node node n ≡ true) (cc) (same_node_itself node)) off) same) refl e

-- nor in rings
pub place_from_other : (first : ℕ) (rings : List (List NodeId)) (node : NodeId) (place : Place) → place_from first rings node ≡ Some place → place ≡ After node → ⊥
place_from_other first [] node place e same = cc
place_from_other first (nodes ∷ rings) node place e same =
    elim (place_in (head_of first) nodes node) as (λ found. place_in (head_of first) nodes node ≡ found → option_or found (place_from (suc first) rings node) ≡ Some place → ⊥) [
      | Some p ↦ λ here e. place_other (head_of first) nodes node place (here ∙ e) (λ own. cc) same
      | None ↦ λ here e. place_from_other (suc first) rings node place e same
    ] refl e

-- a ring of no nodes has none
pub is_in_push : (rings : List (List NodeId)) (node : NodeId) → is_in (rings ++ [] ∷ []) node ≡ is_in rings node
is_in_push [] node = refl
is_in_push (nodes ∷ rings) node = ap (λ b. has_node nodes node || b) (is_in_push rings node)

-- a ring with a node put in
pub get_put : (place : Place) (node : NodeId) (first index : ℕ) (rings : List (List NodeId)) → index < length rings
    → get_or (rings_with place node first rings) index [] ≡ put_after place node (head_of (first + index)) (get_or rings index [])
get_put place node first index [] below = absurd (omega arith)
get_put place node first zero (nodes ∷ rings) below = let same : first ≡ first + zero = omega arith in ap (λ k. put_after place node (head_of k) nodes) same
get_put place node first (suc index) (nodes ∷ rings) below =
    let same : suc first + index ≡ first + suc index = omega arith in
    get_put place node (suc first) index rings (omega arith) ∙ ap (λ k. put_after place node (head_of k) (get_or rings index [])) same

-- a ring with a node taken out
pub get_without : (node : NodeId) (index : ℕ) (rings : List (List NodeId)) → get_or (rings_without node rings) index [] ≡ without node (get_or rings index [])
get_without node index [] = refl
get_without node zero (nodes ∷ rings) = refl
get_without node (suc index) (nodes ∷ rings) = get_without node index rings

-- a ring has its nodes once
pub distinct_ring : (rings : List (List NodeId)) (index : ℕ) → StandOnce rings → AreDistinct (get_or rings index [])
distinct_ring [] index once = tt
distinct_ring (nodes ∷ rings) zero once = once.0
distinct_ring (nodes ∷ rings) (suc index) once = distinct_ring rings index once.2

-- a node of one of the rings is in them
pub is_in_ring : (rings : List (List NodeId)) (index : ℕ) (node : NodeId) → has_node (get_or rings index []) node ≡ true → is_in rings node ≡ true
is_in_ring [] index node there = not_both there refl
is_in_ring (nodes ∷ rings) zero node there = or_first (has_node nodes node) (is_in rings node) there
is_in_ring (nodes ∷ rings) (suc index) node there = or_second (has_node nodes node) (is_in rings node) (is_in_ring rings index node there)

-- that ring is there
pub has_ring : (rings : List (List NodeId)) (index : ℕ) (node : NodeId) → has_node (get_or rings index []) node ≡ true → index < length rings
has_ring [] index node there = not_both there refl
has_ring (nodes ∷ rings) zero node there = omega arith
has_ring (nodes ∷ rings) (suc index) node there = let later = has_ring rings index node there in omega (arith, later)

-- a node that stands in rings stands in one with a number
pub in_some : (rings : List (List NodeId)) (node : NodeId) → is_in rings node ≡ true → (index : ℕ) × (has_node (get_or rings index []) node ≡ true)
in_some [] node there = not_both there refl
in_some (nodes ∷ rings) node there =
    by_test (λ b. has_node nodes node ≡ b → (b || is_in rings node) ≡ true → (index : ℕ) × (has_node (get_or (nodes ∷ rings) index []) node ≡ true)) (has_node nodes node)
    (λ on t e. (0, t)) (λ off t e. let later = in_some rings node e in (suc later.0, later.1)) refl there

-- a ring more that has no nodes changes no list
pub get_push : (rings : List (List NodeId)) (index : ℕ) → get_or (rings ++ [] ∷ []) index [] ≡ get_or rings index []
get_push [] zero = refl
get_push [] (suc index) = refl
get_push (nodes ∷ rings) zero = refl
get_push (nodes ∷ rings) (suc index) = get_push rings index
