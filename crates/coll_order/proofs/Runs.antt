-- Runs of nodes along links.
use Rattle.std.proofs.Common.{◌≡◌, ℕ, zero, suc, ◌+◌, ◌<◌, ◌≤◌, true, false, ◌||◌, eqb, map, cond, get_or, List, [], ◌∷◌, Option, Some, None, length, sym, ap, subst, ◌∙◌, refl, arith, ◌⊎◌, inl, inr}
use Rattle.std.specs.Option.{option_map_or, option_and_then, option_or}
use Rattle.std.specs.List.{list_any, IsDistinct, AllByRecursion}
use Rattle.std.proofs.lemmas.Map.Steps.{length-le_from_distinct_below}
use Rattle.coll_order.specs.Laid.{walk, walks, rings_at, IsRun, AreRuns, Holds, IsHeld}
use Rattle.coll_order.specs.Lists.{same_node, has_node, first_in, next_in, place_in}
use Rattle.coll_order.specs.Layout.{head_of, is_in, place_from, next_among}
use Rattle.coll_order.specs.Sound.{AreDistinct, AreApart, StandOnce}
use Rattle.coll_order.specs.Store.{Links, slot_at, next_at, before_at}
use Rattle.coll_order.specs.declared.places.NodeId.{NodeId}
use Rattle.coll_order.specs.declared.places.Place.{Place}
use Rattle.coll_order.specs.declared.places.Place.TheVariants.{After}
use Rattle.coll_order.specs.declared.store.Node.{Node}
use Rattle.coll_order.proofs.Sameness.{by_test, not_both, same_node_is, same_node_itself}
use Rattle.coll_order.proofs.ListLemmas.{neither, nor, or_first, or_second, absent_place, next_absent, next_among_absent, or_none}
use Rattle.coll_order.proofs.RingLemmas.{heads_differ}

-- each node knows the place that leads to it
abbrev pub KnowsBack : Links → Type 0
KnowsBack links = (place : Place) (node : NodeId) → next_at links place ≡ Some node → before_at links node ≡ Some place

-- a walk that is long enough goes through the whole run
pub walk_run : (links : Links) (most : ℕ) (start : Place) (nodes : List NodeId) → IsRun links start nodes → length nodes ≤ most → walk links most start ≡ nodes
unfolding walk IsRun
walk_run links zero start [] run short = refl
walk_run links zero start (first ∷ rest) run short = absurd (omega arith)
walk_run links (suc most) start [] run short = ap (λ next. option_map_or (λ node. node ∷ walk links most (After node)) next []) run
walk_run links (suc most) start (first ∷ rest) run short =
    ap (λ next. option_map_or (λ node. node ∷ walk links most (After node)) next []) run.0 ∙ ap (λ nodes. first ∷ nodes) (walk_run links most (After first) rest run.1 (omega arith))

-- a node of a run is its first, or directly after another
pub run_place : (links : Links) (start : Place) (nodes : List NodeId) (node : NodeId) → IsRun links start nodes → has_node nodes node ≡ true
    → (next_at links start ≡ Some node) ⊎ ((y : NodeId) × (has_node nodes y ≡ true) × (next_at links (After y) ≡ Some node))
unfolding IsRun
run_place links start [] node run there = not_both there refl
run_place links start (first ∷ rest) node run there =
    by_test (λ b. same_node node first ≡ b → (b || has_node rest node) ≡ true → (next_at links start ≡ Some node)
    ⊎ ((y : NodeId) × (has_node (first ∷ rest) y ≡ true) × (next_at links (After y) ≡ Some node))) (same_node node first)
    (λ on e t. inl (run.0 ∙ ap Some (sym (same_node_is node first on))))
    (λ off e t. elim (run_place links (After first) rest node run.1 t) [
      | inl at ↦ inr (first, or_first (same_node first first) _ (same_node_itself first), at)
      | inr at ↦ inr (at.0, or_second (same_node at.0 first) _ at.1, at.2)
    ]) refl there

-- two places that lead to one node are one
pub same_before : (links : Links) → KnowsBack links → (a b : Place) (node : NodeId) → next_at links a ≡ Some node → next_at links b ≡ Some node → a ≡ b
same_before links back a b node p q = let from_a = back a node p in let from_b = back b node q in cc

-- a run from a place that isn't in it has no node twice
pub run_distinct : (links : Links) → KnowsBack links → (start : Place) (nodes : List NodeId) → IsRun links start nodes
    → ((y : NodeId) → start ≡ After y → has_node nodes y ≡ false) → AreDistinct nodes
unfolding IsRun
run_distinct links back start [] run fresh = tt
run_distinct links back start (first ∷ rest) run fresh =
    let once : has_node rest first ≡ false = by_test (λ b. has_node rest first ≡ b → b ≡ false) (has_node rest first)
    (λ there e. elim (run_place links (After first) rest first run.1 there) [
      | inl at ↦ not_both (or_first (same_node first first) _ (same_node_itself first)) (fresh first (same_before links back start (After first) first run.0 at))
      | inr at ↦ not_both (or_second (same_node at.0 first) _ at.1) (fresh at.0 (same_before links back start (After at.0) first run.0 at.2))
    ])
    (λ off e. refl) refl in
    (once, run_distinct links back (After first) rest run.1 (λ y same. subst (λ n. has_node rest n ≡ false) (cc) once))

-- a slot with a node has a key below their number
pub within : {X : Type 0} (slots : List (Option X)) (key : ℕ) (value : X) → get_or slots key None ≡ Some value → key < length slots
within [] key value e = cc
within (slot ∷ slots) zero value e = omega arith
within (slot ∷ slots) (suc key) value e = let later = within slots key value e in omega arith

-- a linked node's key is below the number of slots
pub stored : (links : Links) (node : NodeId) (place : Place) → before_at links node ≡ Some place → node.key < length links.slots
stored links node place before =
    elim (slot_at links node) as (λ slot. slot_at links node ≡ slot → option_and_then (λ (n : Node). n.before) slot ≡ Some place → node.key < length links.slots) [
      | None ↦ λ e b. cc
      | Some n ↦ λ e b. within links.slots node.key n e
    ] refl before

-- the keys of nodes
abbrev keys_of : List NodeId → List ℕ
keys_of nodes = map (λ (n : NodeId). n.key) nodes

-- there is a key for each node
length_keys : (nodes : List NodeId) → length (keys_of nodes) ≡ length nodes
length_keys [] = refl
length_keys (first ∷ rest) = ap suc (length_keys rest)

-- nodes that aren't a node have other keys
other_keys : (nodes : List NodeId) (node : NodeId) → has_node nodes node ≡ false → AllByRecursion (λ key. eqb node.key key ≡ false) (keys_of nodes)
other_keys [] node absent = tt
other_keys (first ∷ rest) node absent = let apart = neither (same_node node first) (has_node rest node) absent in (apart.0, other_keys rest node apart.1)

-- nodes of which none stands twice have distinct keys
distinct_keys : (nodes : List NodeId) → AreDistinct nodes → IsDistinct eqb (keys_of nodes)
unfolding IsDistinct
distinct_keys [] distinct = tt
distinct_keys (first ∷ rest) distinct = (other_keys rest first distinct.0, distinct_keys rest distinct.1)

-- a key is among those of nodes that have the node
has_key : (nodes : List NodeId) (key : ℕ) → list_any (eqb key) (keys_of nodes) ≡ has_node nodes (record { key = key })
has_key [] key = refl
has_key (first ∷ rest) key = ap (λ b. eqb key first.key || b) (has_key rest key)

-- nodes of which none stands twice, with keys below a number, are no more than that
pub distinct_fit : (nodes : List NodeId) (most : ℕ) → AreDistinct nodes → ((node : NodeId) → has_node nodes node ≡ true → node.key < most) → length nodes ≤ most
distinct_fit nodes most distinct below =
    let fit = length-le_from_distinct_below (keys_of nodes) most (distinct_keys nodes distinct) (λ key there. below (record { key = key }) (sym (has_key nodes key) ∙ there)) in
    subst (λ count. count ≤ most) (length_keys nodes) fit

-- a run from a head is no longer than there are slots
pub run_fits : (links : Links) → KnowsBack links → (index : ℕ) (nodes : List NodeId) → IsRun links (head_of index) nodes → length nodes ≤ length links.slots
run_fits links back index nodes run =
    distinct_fit nodes (length links.slots) (run_distinct links back (head_of index) nodes run (λ y same. cc))
    (λ node there. elim (run_place links (head_of index) nodes node run there) [
      | inl at ↦ stored links node (head_of index) (back (head_of index) node at)
      | inr at ↦ stored links node (After at.0) (back (After at.0) node at.2)
    ])

-- the walks from the heads go through the rings that the links run through
pub walks_are : (links : Links) → KnowsBack links → (first : ℕ) (rings : List (List NodeId)) → AreRuns links first rings → walks links (length links.slots) first (length rings) ≡ rings
unfolding walks AreRuns
walks_are links back first [] runs = refl
walks_are links back first (nodes ∷ rings) runs =
    ap (λ nodes. nodes ∷ walks links (length links.slots) (suc first) (length rings)) (walk_run links (length links.slots) (head_of first) nodes runs.0 (run_fits links back first nodes runs.0))
    ∙ ap (λ rings. nodes ∷ rings) (walks_are links back (suc first) rings runs.1)

-- the rings that links hold are those that one reads from them
pub rings_are : (links : Links) (rings : List (List NodeId)) → Holds links rings → rings_at links ≡ rings
rings_are links rings holds = ap (walks links (length links.slots) 0) holds.count ∙ walks_are links holds.back 0 rings holds.runs

-- links that hold rings hold those that one reads from them
pub held : (links : Links) (rings : List (List NodeId)) → Holds links rings → IsHeld links
held links rings holds = subst (λ rings. Holds links rings) (sym (rings_are links rings holds)) holds

-- a run from another place has no node of a run from a head
apart_runs : (links : Links) → KnowsBack links → (start : Place) (nodes : List NodeId) (index : ℕ) (others : List NodeId) → IsRun links start nodes → IsRun links (head_of index) others
    → (start ≡ head_of index → ⊥) → ((y : NodeId) → start ≡ After y → has_node others y ≡ false) → (node : NodeId) → has_node nodes node ≡ true → has_node others node ≡ false
unfolding IsRun
apart_runs links back start [] index others run other_run elsewhere fresh node there = not_both there refl
apart_runs links back start (first ∷ rest) index others run other_run elsewhere fresh node there =
    let off : has_node others first ≡ false = by_test (λ b. has_node others first ≡ b → b ≡ false) (has_node others first)
    (λ on e. elim (run_place links (head_of index) others first other_run on) [
      | inl at ↦ absurd (elsewhere (same_before links back start (head_of index) first run.0 at))
      | inr at ↦ not_both at.1 (fresh at.0 (same_before links back start (After at.0) first run.0 at.2))
    ])
    (λ off e. refl) refl in
    by_test (λ b. same_node node first ≡ b → (b || has_node rest node) ≡ true → has_node others node ≡ false) (same_node node first)
    (λ on e t. subst (λ n. has_node others n ≡ false) (sym (same_node_is node first on)) off)
    (λ no e t. apart_runs links back (After first) rest index others run.1 other_run (λ same. cc) (λ y same. subst (λ n. has_node others n ≡ false) (cc) off) node t) refl there

-- a run from an earlier head has no node of the later rings
apart_rings : (links : Links) → KnowsBack links → (index : ℕ) (nodes : List NodeId) (first : ℕ) (rings : List (List NodeId)) → index < first → IsRun links (head_of index) nodes
    → AreRuns links first rings → AreApart nodes rings
unfolding AreRuns
apart_rings links back index nodes first [] below run runs node there = refl
apart_rings links back index nodes first (others ∷ rings) below run runs node there =
    nor (has_node others node) _
    (apart_runs links back (head_of index) nodes first others run runs.0 (heads_differ index first below) (λ y same. cc) node there)
    (apart_rings links back index nodes (suc first) rings (omega arith) run runs.1 node there)

-- no node stands twice in rings that links run through
pub stand_once : (links : Links) → KnowsBack links → (first : ℕ) (rings : List (List NodeId)) → AreRuns links first rings → StandOnce rings
unfolding AreRuns
stand_once links back first [] runs = tt
stand_once links back first (nodes ∷ rings) runs = (
  run_distinct links back (head_of first) nodes runs.0 (λ y same. cc),
  apart_rings links back first nodes (suc first) rings (omega arith) runs.0 runs.1,
  stand_once links back (suc first) rings runs.1,
)

-- the first node of a list that links run through is where its beginning leads
first_leads : (links : Links) (start : Place) (nodes : List NodeId) → IsRun links start nodes → first_in nodes ≡ next_at links start
unfolding IsRun
first_leads links start [] run = sym run
first_leads links start (first ∷ rest) run = sym run.0

-- a place in a list that links run through leads to the node
place_leads : (links : Links) (start : Place) (nodes : List NodeId) (node : NodeId) (place : Place) → IsRun links start nodes → place_in start nodes node ≡ Some place → next_at links place ≡ Some node
unfolding IsRun
place_leads links start [] node place run e = cc
place_leads links start (first ∷ rest) node place run e =
    by_test (λ b. same_node node first ≡ b → cond b (Some start) (place_in (After first) rest node) ≡ Some place → next_at links place ≡ Some node) (same_node node first)
    (λ on t e. let here : place ≡ start = cc in ap (next_at links) here ∙ (run.0 ∙ ap Some (sym (same_node_is node first on))))
    (λ off t e. place_leads links (After first) rest node place run.1 e) refl e

-- so does a place in rings that they run through
places_lead : (links : Links) (first : ℕ) (rings : List (List NodeId)) (node : NodeId) (place : Place) → AreRuns links first rings → place_from first rings node ≡ Some place
    → next_at links place ≡ Some node
unfolding AreRuns
places_lead links first [] node place runs e = cc
places_lead links first (nodes ∷ rings) node place runs e =
    elim (place_in (head_of first) nodes node) as (λ found. place_in (head_of first) nodes node ≡ found → option_or found (place_from (suc first) rings node) ≡ Some place
    → next_at links place ≡ Some node) [
      | Some p ↦ λ here e. place_leads links (head_of first) nodes node place runs.0 (here ∙ e)
      | None ↦ λ here e. places_lead links (suc first) rings node place runs.1 e
    ] refl e

-- a node without a place in rings isn't in them
no_place : (first : ℕ) (rings : List (List NodeId)) (node : NodeId) → place_from first rings node ≡ None → is_in rings node ≡ false
no_place first [] node none = refl
no_place first (nodes ∷ rings) node none =
    elim (place_in (head_of first) nodes node) as (λ found. place_in (head_of first) nodes node ≡ found → option_or found (place_from (suc first) rings node) ≡ None
    → (has_node nodes node || is_in rings node) ≡ false) [
      | Some p ↦ λ here e. cc
      | None ↦ λ here e. nor (has_node nodes node) _ (absent_place (head_of first) nodes node here) (no_place (suc first) rings node e)
    ] refl none

-- what stands before a node in the rings is what the node knows
pub place_is : (links : Links) (rings : List (List NodeId)) → Holds links rings → (node : NodeId) → place_from 0 rings node ≡ before_at links node
place_is links rings holds node =
    elim (place_from 0 rings node) as (λ found. place_from 0 rings node ≡ found → found ≡ before_at links node) [
      | Some place ↦ λ e. sym (holds.back place node (places_lead links 0 rings node place holds.runs e))
      | None ↦ λ e. elim (before_at links node) as (λ known. before_at links node ≡ known → None ≡ known) [
        | Some place ↦ λ known. not_both (holds.covers node place known) (no_place 0 rings node e)
        | None ↦ λ known. refl
      ] refl
    ] refl

-- a node that knows no place is in no ring
pub apart_is : (links : Links) (rings : List (List NodeId)) → Holds links rings → (node : NodeId) → before_at links node ≡ None → is_in rings node ≡ false
apart_is links rings holds node none = no_place 0 rings node (place_is links rings holds node ∙ none)

-- a node in the rings knows its place
pub linked_is : (links : Links) (rings : List (List NodeId)) → Holds links rings → (node : NodeId) → is_in rings node ≡ true → (place : Place) × (before_at links node ≡ Some place)
linked_is links rings holds node there =
    elim (before_at links node) as (λ known. before_at links node ≡ known → (place : Place) × (before_at links node ≡ Some place)) [
      | Some place ↦ λ known. (place, known)
      | None ↦ λ known. not_both there (apart_is links rings holds node known)
    ] refl

-- the node after one in a list that links run through is where its link leads
next_leads : (links : Links) (start : Place) (nodes : List NodeId) (node : NodeId) → IsRun links start nodes → has_node nodes node ≡ true → next_in nodes node ≡ next_at links (After node)
unfolding IsRun
next_leads links start [] node run there = not_both there refl
next_leads links start (first ∷ rest) node run there =
    by_test (λ b. same_node node first ≡ b → (b || has_node rest node) ≡ true → cond b (first_in rest) (next_in rest node) ≡ next_at links (After node)) (same_node node first)
    (λ on e t. first_leads links (After first) rest run.1 ∙ ap (λ n. next_at links (After n)) (sym (same_node_is node first on)))
    (λ off e t. next_leads links (After first) rest node run.1 t) refl there

-- the node after one in rings that links run through is where its link leads
next_among_leads : (links : Links) (first : ℕ) (rings : List (List NodeId)) (node : NodeId) → AreRuns links first rings → StandOnce rings → is_in rings node ≡ true
    → next_among rings node ≡ next_at links (After node)
unfolding AreRuns
next_among_leads links first [] node runs once there = not_both there refl
next_among_leads links first (nodes ∷ rings) node runs once there =
    by_test (λ b. has_node nodes node ≡ b → (b || is_in rings node) ≡ true → option_or (next_in nodes node) (next_among rings node) ≡ next_at links (After node)) (has_node nodes node)
    (λ on e t.
    let leads = next_leads links (head_of first) nodes node runs.0 on in
    ap (λ later. option_or (next_in nodes node) later) (next_among_absent rings node (once.1 node on)) ∙ (or_none (next_in nodes node) ∙ leads))
    (λ off e t. ap (λ found. option_or found (next_among rings node)) (next_absent nodes node off) ∙ next_among_leads links (suc first) rings node runs.1 once.2 t) refl there

-- the node directly after a linked one is where its link leads
pub next_is : (links : Links) (rings : List (List NodeId)) → Holds links rings → (node : NodeId) → is_in rings node ≡ true → next_among rings node ≡ next_at links (After node)
next_is links rings holds node there = next_among_leads links 0 rings node holds.runs (stand_once links holds.back 0 rings holds.runs) there

-- the first node of a ring is where its head leads
pub first_leads_in : (links : Links) (first : ℕ) (rings : List (List NodeId)) (index : ℕ) → AreRuns links first rings → index < length rings
    → first_in (get_or rings index []) ≡ next_at links (head_of (first + index))
unfolding AreRuns
first_leads_in links first [] index runs below = absurd (omega arith)
first_leads_in links first (nodes ∷ rings) zero runs below =
    let same : first ≡ first + zero = omega arith in first_leads links (head_of first) nodes runs.0 ∙ ap (λ i. next_at links (head_of i)) same
first_leads_in links first (nodes ∷ rings) (suc index) runs below =
    let same : suc first + index ≡ first + suc index = omega arith in
    first_leads_in links (suc first) rings index runs.1 (omega arith) ∙ ap (λ i. next_at links (head_of i)) same
