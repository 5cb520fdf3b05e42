-- Nodes of which one gets other weights: what each is, and the way back.
use Rattle.std.proofs.Common.{◌≡◌, ℕ, Bool, true, false, cond, eqb, T, List, [], ◌∷◌, ◌++◌, Option, Some, None, map, sym, ap, ◌∙◌, refl}
use Rattle.std.specs.Ordering.{nat_cmp, eq_by_cmp}
use Rattle.std.specs.Cmp.{unsigned_tied}
use Rattle.std.specs.FinMap as finmap
use Rattle.coll_order.specs.Lists.{same_node, has_node}
use Rattle.coll_order.specs.Sound.{AreDistinct}
use Rattle.coll_order.specs.declared.places.NodeId.{NodeId}
use Rattle.coll_order.proofs.ListLemmas.{neither, nor}
use Rattle.coll_order.proofs.Sameness.{by_test, not_both, same_node_is, same_node_itself}
use Rattle.coll_syntax.specs.declared.weights.Weight.{Weight}
use Rattle.coll_nodes.proofs.NodeLemmas.{both, later_without}
use Rattle.coll_nodes.proofs.TurningKeys.{bare, AreSame}
use Rattle.coll_nodes.specs.Bodies.{slot_of, made_with, made_from}
use Rattle.coll_nodes.specs.TableLayout.{MadeNode, content_among}
use Rattle.coll_nodes.specs.Moving.{weighed, weighed_nodes, weights_or, exchanged}
use Rattle.coll_nodes.specs.declared.contents.Content.{Content}
use Rattle.coll_nodes.specs.declared.contents.Content.TheVariants as content

-- what a node is that is there, with other weights, if some are given and it is an entry
abbrev pub weighed_if : Option (List Weight) → Option Content → Option Content
weighed_if weights None = None
weighed_if weights (Some it) = Some (weighed weights it)

-- other weights change nothing but weights
pub weighed_bare : (weights : Option (List Weight)) (it : Content) → bare (weighed weights it) ≡ bare it
weighed_bare None it = refl
weighed_bare (Some weights) (content.Declared declaration) = refl
weighed_bare (Some weights) (content.Begun name ring) = refl
weighed_bare (Some weights) (content.Placed entry) = refl

pub weighed_same : (weights : Option (List Weight)) (it : Option Content) → AreSame (weighed_if weights it) it
weighed_same weights None = refl
weighed_same weights (Some it) = ap Some (weighed_bare weights it)

-- a node with other weights, if it is the one that gets them
abbrev pub weighed_node : NodeId → Option (List Weight) → MadeNode → MadeNode
weighed_node node weights made = cond (same_node node made.node) (record made { content = weighed weights made.content }) made

-- it is the same node
weighed_name : (node : NodeId) (weights : Option (List Weight)) (made : MadeNode) → (weighed_node node weights made).node ≡ made.node
weighed_name node weights made = by_test (λ b. (cond b (record made { content = weighed weights made.content }) made).node ≡ made.node) (same_node node made.node) (λ on. refl) (λ off. refl)

-- what each node is, once one has other weights
pub content_weighed : (node : NodeId) (weights : Option (List Weight)) (nodes : List MadeNode) (other : NodeId)
    → content_among (weighed_nodes node weights nodes) other ≡ cond (same_node other node) (weighed_if weights (content_among nodes other)) (content_among nodes other)
content_weighed node weights [] other = let none : Option Content = None in by_test (λ b. none ≡ cond b none none) (same_node other node) (λ on. refl) (λ off. refl)
content_weighed node weights (first ∷ later) other =
    ap (λ name. cond (same_node other name) (Some (weighed_node node weights first).content) (content_among (weighed_nodes node weights later) other)) (weighed_name node weights first)
    ∙ by_test (λ b. same_node other first.node ≡ b → cond b (Some (weighed_node node weights first).content) (content_among (weighed_nodes node weights later) other)
    ≡ cond (same_node other node) (weighed_if weights (cond b (Some first.content) (content_among later other))) (cond b (Some first.content) (content_among later other))) (same_node other first.node)
    (λ on e.
    let is : other ≡ first.node = same_node_is other first.node e in
    let tests : same_node node first.node ≡ same_node other node = turned node first.node ∙ ap (λ n. same_node n node) (sym is) in
    ap (λ b. Some (cond b (record first { content = weighed weights first.content }) first).content) tests ∙ inside (same_node other node))
    (λ off e. content_weighed node weights later other) refl where
      inside : (b : Bool) → Some (cond b (record first { content = weighed weights first.content }) first).content ≡ cond b (Some (weighed weights first.content)) (Some first.content)
      inside true = refl
      inside false = refl

      turned : (a b : NodeId) → same_node a b ≡ same_node b a
      turned a b = by_test (λ t. same_node a b ≡ t → t ≡ same_node b a) (same_node a b)
          (λ on e. sym (ap (same_node b) (same_node_is a b e) ∙ same_node_itself b))
          (λ off e. by_test (λ t. same_node b a ≡ t → false ≡ t) (same_node b a) (λ on f. not_both (ap (λ n. same_node n b) (sym (same_node_is b a f)) ∙ same_node_itself b) e) (λ off f. refl) refl)
          refl

-- the names of nodes
abbrev pub named_in : List MadeNode → List NodeId
named_in nodes = map (λ (made : MadeNode). made.node) nodes

-- they stay
pub named_weighed : (node : NodeId) (weights : Option (List Weight)) (nodes : List MadeNode) → named_in (weighed_nodes node weights nodes) ≡ named_in nodes
named_weighed node weights [] = refl
named_weighed node weights (first ∷ later) =
    ap (λ name. name ∷ named_in (weighed_nodes node weights later)) (weighed_name node weights first) ∙ ap (λ names. first.node ∷ names) (named_weighed node weights later)

-- nodes among which one isn't are the same, whatever its weights
weighed_absent : (node : NodeId) (weights : Option (List Weight)) (nodes : List MadeNode) → has_node (named_in nodes) node ≡ false → weighed_nodes node weights nodes ≡ nodes
weighed_absent node weights [] absent = refl
weighed_absent node weights (first ∷ later) absent =
    let apart = neither (same_node node first.node) (has_node (named_in later) node) absent in
    ap (λ b. cond b (record first { content = weighed weights first.content }) first ∷ weighed_nodes node weights later) apart.0
    ∙ ap (λ nodes. first ∷ nodes) (weighed_absent node weights later apart.1)

-- an entry's own weights go back to it
own_back : (weights : List Weight) (it : Content) → weighed (Some (weights_or weights (Some it))) (weighed (Some weights) it) ≡ it
own_back weights (content.Declared declaration) = refl
own_back weights (content.Begun name ring) = refl
own_back weights (content.Placed entry) = refl

-- no other weights for a node change nothing
pub weighed_none : (node : NodeId) (nodes : List MadeNode) → weighed_nodes node None nodes ≡ nodes
weighed_none node [] = refl
weighed_none node (first ∷ later) =
    by_test (λ b. cond b (record first { content = first.content }) first ∷ weighed_nodes node None later ≡ first ∷ weighed_nodes node None later) (same_node node first.node) (λ on. refl)
    (λ off. refl)
    ∙ ap (λ nodes. first ∷ nodes) (weighed_none node later)

-- a node that gives its weights in exchange, and gets them back, is what it was
pub weighed_back : (node : NodeId) (weights : Option (List Weight)) (nodes : List MadeNode) → AreDistinct (named_in nodes)
    → weighed_nodes node (exchanged weights (content_among nodes node)) (weighed_nodes node weights nodes) ≡ nodes
weighed_back node None nodes distinct = weighed_none node (weighed_nodes node None nodes) ∙ weighed_none node nodes
weighed_back node (Some weights) nodes distinct = back nodes distinct where
  back : (nodes : List MadeNode) → AreDistinct (named_in nodes) → weighed_nodes node (Some (weights_or weights (content_among nodes node))) (weighed_nodes node (Some weights) nodes) ≡ nodes
  back [] distinct = refl
  back (first ∷ later) distinct =
      by_test (λ b. same_node node first.node ≡ b →
      weighed_nodes node (Some (weights_or weights (cond b (Some first.content) (content_among later node))))
      (cond b (record first { content = weighed (Some weights) first.content }) first ∷ weighed_nodes node (Some weights) later) ≡ first ∷ later) (same_node node first.node)
      (λ on e.
      let own = Some (weights_or weights (Some first.content)) in
      let absent : has_node (named_in later) node ≡ false = ap (has_node (named_in later)) (same_node_is node first.node e) ∙ distinct.0 in
      ap (λ nodes. weighed_node node own (record first { content = weighed (Some weights) first.content }) ∷ weighed_nodes node own nodes) (weighed_absent node (Some weights) later absent)
      ∙ (ap (λ nodes. weighed_node node own (record first { content = weighed (Some weights) first.content }) ∷ nodes) (weighed_absent node own later absent)
      ∙ (ap (λ b. cond b (record first { content = weighed own (weighed (Some weights) first.content) }) (record first { content = weighed (Some weights) first.content }) ∷ later) e
      ∙ ap (λ (it : Content). record first { content = it } ∷ later) (own_back weights first.content))))
      (λ off e.
      ap (λ b. cond b (record first { content = weighed (Some (weights_or weights (content_among later node))) first.content }) first ∷ weighed_nodes node
      (Some (weights_or weights (content_among later node))) (weighed_nodes node (Some weights) later)) e
      ∙ ap (λ nodes. first ∷ nodes) (back later distinct.1)) refl

-- the nodes that are made of tags are those of their keys
key_found : (slots : List (Option Content)) (tags : List (ℕ × ℕ)) (node : NodeId) → finmap.find nat_cmp node.key tags ≡ None → has_node (named_in (made_from slots tags)) node ≡ false
key_found slots [] node none = refl
key_found slots (tag ∷ tags) node none =
    by_test (λ b. eq_by_cmp nat_cmp node.key tag.0 ≡ b → cond b (Some tag.1) (finmap.find nat_cmp node.key tags) ≡ None → has_node (named_in (made_from slots (tag ∷ tags))) node ≡ false)
    (eq_by_cmp nat_cmp node.key tag.0)
    (λ on e none. cc)
    (λ off e none.
    let differ : eqb node.key tag.0 ≡ false = sym (unsigned_tied node.key tag.0) ∙ e in
    elim (slot_of slots tag.1) as (λ slot. has_node (named_in (made_with tag.0 slot ++ made_from slots tags)) node ≡ false) [
      | None ↦ key_found slots tags node none
      | Some it ↦ nor (eqb node.key tag.0) _ differ (key_found slots tags node none)
    ]) refl none

-- none of them is named twice
pub made_named : (slots : List (Option Content)) (tags : finmap.FinMap nat_cmp ℕ) → AreDistinct (named_in (made_from slots (finmap.entries tags)))
made_named slots tags = go (finmap.entries tags) (finmap.entries_sorted tags) where
  go : (es : List (ℕ × ℕ)) → T (finmap.is_sorted nat_cmp es) → AreDistinct (named_in (made_from slots es))
  go [] sorted = tt
  go (e ∷ es) sorted = elim (slot_of slots e.1) as (λ slot. AreDistinct (named_in (made_with e.0 slot ++ made_from slots es))) [
    | None ↦ go es (both _ _ sorted).1
    | Some it ↦ (key_found slots es (record { key = e.0 }) (later_without e es sorted), go es (both _ _ sorted).1)
  ]
