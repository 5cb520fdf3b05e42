-- Lists of nodes and of rings: what taking a node out and putting it in do to what stands where.
use Rattle.std.proofs.Common.{◌≡◌, ℕ, suc, Bool, true, false, ◌||◌, cond, List, [], ◌∷◌, Option, Some, None, sym, ap, ◌∙◌, refl}
use Rattle.std.specs.List.{list_any}
use Rattle.std.specs.Option.{option_or}
use Rattle.coll_order.specs.Lists.{same_node, same_place, has_node, first_in, next_in, place_in, without, put_after}
use Rattle.coll_order.specs.Layout.{head_of, is_in, next_among, rings_without}
use Rattle.coll_order.specs.declared.places.NodeId.{NodeId}
use Rattle.coll_order.specs.declared.places.Place.{Place}
use Rattle.coll_order.specs.declared.places.Place.TheVariants.{After}
use Rattle.coll_order.proofs.Sameness.{by_test, not_both, same_node_is, same_node_itself, same_place_is, same_place_itself}

-- neither of two tests that are false together is true
pub neither : (a b : Bool) → (a || b) ≡ false → (a ≡ false) × (b ≡ false)
neither true b e = not_both refl e
neither false b e = (refl, e)

-- two tests that are false are false together
pub nor : (a b : Bool) → a ≡ false → b ≡ false → (a || b) ≡ false
nor a b p q = rw p q

-- a test that is true makes the two true together
pub or_first : (a b : Bool) → a ≡ true → (a || b) ≡ true
or_first a b p = rw p refl

-- so does the second
pub or_second : (a b : Bool) → b ≡ true → (a || b) ≡ true
or_second true b q = refl
or_second false b q = q

-- a list without a node that isn't in it is the list
pub without_absent : (node : NodeId) (nodes : List NodeId) → has_node nodes node ≡ false → without node nodes ≡ nodes
without_absent node [] absent = refl
without_absent node (first ∷ rest) absent =
    let apart = neither (same_node node first) (has_node rest node) absent in
    ap (λ b. cond b (without node rest) (first ∷ without node rest)) apart.0 ∙ ap (λ nodes. first ∷ nodes) (without_absent node rest apart.1)

-- a list without a node hasn't the node
pub has_without_itself : (node : NodeId) (nodes : List NodeId) → has_node (without node nodes) node ≡ false
has_without_itself node [] = refl
has_without_itself node (first ∷ rest) =
    by_test (λ b. same_node node first ≡ b → has_node (cond b (without node rest) (first ∷ without node rest)) node ≡ false) (same_node node first)
    (λ on e. has_without_itself node rest)
    (λ off e. nor (same_node node first) _ off (has_without_itself node rest)) refl

-- a list without a node has the others that it had
pub has_without : (node other : NodeId) (nodes : List NodeId) → same_node other node ≡ false → has_node (without node nodes) other ≡ has_node nodes other
has_without node other [] differ = refl
has_without node other (first ∷ rest) differ =
    by_test (λ b. same_node node first ≡ b → has_node (cond b (without node rest) (first ∷ without node rest)) other ≡ (same_node other first || has_node rest other)) (same_node node first)
    (λ on e. has_without node other rest differ ∙ sym (ap (λ b. b || has_node rest other) (ap (same_node other) (sym (same_node_is node first on)) ∙ differ)))
    (λ off e. ap (λ b. same_node other first || b) (has_without node other rest differ)) refl

-- rings without a node that isn't in them are the rings
pub rings_without_absent : (node : NodeId) (rings : List (List NodeId)) → is_in rings node ≡ false → rings_without node rings ≡ rings
rings_without_absent node [] absent = refl
rings_without_absent node (nodes ∷ rings) absent =
    let apart = neither (has_node nodes node) (is_in rings node) absent in
    ap (λ first. first ∷ rings_without node rings) (without_absent node nodes apart.0) ∙ ap (λ rest. nodes ∷ rest) (rings_without_absent node rings apart.1)

-- rings without a node haven't the node
pub is_in_without_itself : (node : NodeId) (rings : List (List NodeId)) → is_in (rings_without node rings) node ≡ false
is_in_without_itself node [] = refl
is_in_without_itself node (nodes ∷ rings) = nor (has_node (without node nodes) node) _ (has_without_itself node nodes) (is_in_without_itself node rings)

-- rings without a node have the others that they had
pub is_in_without : (node other : NodeId) (rings : List (List NodeId)) → same_node other node ≡ false → is_in (rings_without node rings) other ≡ is_in rings other
is_in_without node other [] differ = refl
is_in_without node other (nodes ∷ rings) differ =
    ap (λ b. b || is_in (rings_without node rings) other) (has_without node other nodes differ) ∙ ap (λ b. has_node nodes other || b) (is_in_without node other rings differ)

-- a place is in a list that begins after a place: it is the beginning, or after one of the nodes
abbrev pub is_on : Place → Place → List NodeId → Bool
is_on place start nodes = same_place place start || list_any (λ node. same_place place (After node)) nodes

-- a place is in rings numbered from a first on
abbrev pub is_among : Place → ℕ → List (List NodeId) → Bool
is_among place first [] = false
is_among place first (nodes ∷ rings) = is_on place (head_of first) nodes || is_among place (suc first) rings

-- after a place that isn't in a list nothing is put
pub put_nowhere : (place start : Place) (node : NodeId) (nodes : List NodeId) → is_on place start nodes ≡ false → put_after place node start nodes ≡ nodes
put_nowhere place start node [] off = ap (λ b. cond b (node ∷ []) []) (neither (same_place place start) false off).0
put_nowhere place start node (first ∷ rest) off =
    let apart = neither (same_place place start) (is_on place (After first) rest) off in
    ap (λ b. cond b (node ∷ first ∷ rest) (first ∷ put_after place node (After first) rest)) apart.0 ∙ ap (λ nodes. first ∷ nodes) (put_nowhere place (After first) node rest apart.1)

-- at its beginning a list gets a node as its first
pub put_first : (start : Place) (node : NodeId) (nodes : List NodeId) → put_after start node start nodes ≡ node ∷ nodes
put_first start node [] = ap (λ b. cond b (node ∷ []) []) (same_place_itself start)
put_first start node (first ∷ rest) = ap (λ b. cond b (node ∷ first ∷ rest) (first ∷ put_after start node (After first) rest)) (same_place_itself start)

-- a node that was put after a place is in the list where the place is
pub has_put_itself : (place start : Place) (node : NodeId) (nodes : List NodeId) → is_on place start nodes ≡ true → has_node (put_after place node start nodes) node ≡ true
has_put_itself place start node [] on =
    by_test (λ b. same_place place start ≡ b → has_node (cond b (node ∷ []) []) node ≡ true) (same_place place start)
    (λ here e. or_first (same_node node node) false (same_node_itself node))
    (λ off e. not_both on (nor (same_place place start) false off refl)) refl
has_put_itself place start node (first ∷ rest) on =
    by_test (λ b. same_place place start ≡ b → has_node (cond b (node ∷ first ∷ rest) (first ∷ put_after place node (After first) rest)) node ≡ true) (same_place place start)
    (λ here e. or_first (same_node node node) _ (same_node_itself node))
    (λ off e. or_second (same_node node first) _ (has_put_itself place (After first) node rest (sym (ap (λ b. b || is_on place (After first) rest) off) ∙ on))) refl

-- the others are in the list where they were
pub has_put : (place start : Place) (node other : NodeId) (nodes : List NodeId) → same_node other node ≡ false → has_node (put_after place node start nodes) other ≡ has_node nodes other
has_put place start node other [] differ =
    by_test (λ b. has_node (cond b (node ∷ []) []) other ≡ false) (same_place place start)
    (λ here. nor (same_node other node) false differ refl) (λ off. refl)
has_put place start node other (first ∷ rest) differ =
    by_test (λ b. has_node (cond b (node ∷ first ∷ rest) (first ∷ put_after place node (After first) rest)) other ≡ (same_node other first || has_node rest other)) (same_place place start)
    (λ here. ap (λ b. b || (same_node other first || has_node rest other)) differ)
    (λ off. ap (λ b. same_node other first || b) (has_put place (After first) node other rest differ))

-- a list with a node put in, without it, is the list that hadn't it
pub without_put : (place start : Place) (node : NodeId) (nodes : List NodeId) → has_node nodes node ≡ false → without node (put_after place node start nodes) ≡ nodes
without_put place start node [] absent =
    by_test (λ b. without node (cond b (node ∷ []) []) ≡ []) (same_place place start)
    (λ here. ap (λ b. cond b [] (node ∷ [])) (same_node_itself node)) (λ off. refl)
without_put place start node (first ∷ rest) absent =
    let apart = neither (same_node node first) (has_node rest node) absent in
    by_test (λ b. without node (cond b (node ∷ first ∷ rest) (first ∷ put_after place node (After first) rest)) ≡ first ∷ rest) (same_place place start)
    (λ here. ap (λ b. cond b (without node (first ∷ rest)) (node ∷ without node (first ∷ rest))) (same_node_itself node) ∙ without_absent node (first ∷ rest) absent)
    (λ off. ap (λ b. cond b (without node (put_after place node (After first) rest)) (first ∷ without node (put_after place node (After first) rest))) apart.0
    ∙ ap (λ nodes. first ∷ nodes) (without_put place (After first) node rest apart.1))

-- the place of a node that was put after a place is that place
pub place_put : (place start : Place) (node : NodeId) (nodes : List NodeId) → has_node nodes node ≡ false → is_on place start nodes ≡ true → place_in start (put_after place node start nodes) node
    ≡ Some place
place_put place start node [] absent on =
    by_test (λ b. same_place place start ≡ b → place_in start (cond b (node ∷ []) []) node ≡ Some place) (same_place place start)
    (λ here e. ap (λ b. cond b (Some start) None) (same_node_itself node) ∙ ap Some (sym (same_place_is place start here)))
    (λ off e. not_both on (nor (same_place place start) false off refl)) refl
place_put place start node (first ∷ rest) absent on =
    let apart = neither (same_node node first) (has_node rest node) absent in
    by_test (λ b. same_place place start ≡ b → place_in start (cond b (node ∷ first ∷ rest) (first ∷ put_after place node (After first) rest)) node ≡ Some place) (same_place place start)
    (λ here e. ap (λ b. cond b (Some start) (place_in (After node) (first ∷ rest) node)) (same_node_itself node) ∙ ap Some (sym (same_place_is place start here)))
    (λ off e. ap (λ b. cond b (Some start) (place_in (After first) (put_after place node (After first) rest) node)) apart.0
    ∙ place_put place (After first) node rest apart.1 (sym (ap (λ b. b || is_on place (After first) rest) off) ∙ on)) refl

-- a node that isn't in a list has no place there
pub place_absent : (start : Place) (nodes : List NodeId) (node : NodeId) → has_node nodes node ≡ false → place_in start nodes node ≡ None
place_absent start [] node absent = refl
place_absent start (first ∷ rest) node absent =
    let apart = neither (same_node node first) (has_node rest node) absent in
    ap (λ b. cond b (Some start) (place_in (After first) rest node)) apart.0 ∙ place_absent (After first) rest node apart.1

-- a node without a place in a list isn't in it
pub absent_place : (start : Place) (nodes : List NodeId) (node : NodeId) → place_in start nodes node ≡ None → has_node nodes node ≡ false
absent_place start [] node none = refl
absent_place start (first ∷ rest) node none =
    by_test (λ b. cond b (Some start) (place_in (After first) rest node) ≡ None → (b || has_node rest node) ≡ false) (same_node node first)
    (λ on e. cc) (λ off e. absent_place (After first) rest node e) none

-- a node that isn't in a list has no node after it there
pub next_absent : (nodes : List NodeId) (node : NodeId) → has_node nodes node ≡ false → next_in nodes node ≡ None
next_absent [] node absent = refl
next_absent (first ∷ rest) node absent =
    let apart = neither (same_node node first) (has_node rest node) absent in
    ap (λ b. cond b (first_in rest) (next_in rest node)) apart.0 ∙ next_absent rest node apart.1

-- nor is there one in rings that haven't it
pub next_among_absent : (rings : List (List NodeId)) (node : NodeId) → is_in rings node ≡ false → next_among rings node ≡ None
next_among_absent [] node absent = refl
next_among_absent (nodes ∷ rings) node absent =
    let apart = neither (has_node nodes node) (is_in rings node) absent in
    ap (λ found. option_or found (next_among rings node)) (next_absent nodes node apart.0) ∙ next_among_absent rings node apart.1

-- the first of two options is the one where the second is none
pub or_none : (found : Option NodeId) → option_or found None ≡ found
or_none None = refl
or_none (Some node) = refl
