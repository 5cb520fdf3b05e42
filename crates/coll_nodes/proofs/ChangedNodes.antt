-- Nodes of which one is dropped, or has other weights: what each node is then.
use Rattle.std.proofs.Common.{◌≡◌, true, false, ◌||◌, not, cond, List, [], ◌∷◌, Option, Some, None, sym, ap, ◌∙◌, refl}
use Rattle.coll_order.specs.Layout.{is_in, rings_with}
use Rattle.coll_order.specs.Lists.{same_node}
use Rattle.coll_order.specs.declared.places.NodeId.{NodeId}
use Rattle.coll_order.specs.declared.places.Place.{Place}
use Rattle.coll_order.proofs.Sameness.{by_test, not_both, same_node_is, same_node_itself}
use Rattle.coll_syntax.specs.declared.weights.Weight.{Weight}
use Rattle.coll_nodes.specs.Linking.{nodes_without}
use Rattle.coll_nodes.specs.SoundBodies.{Adds}
use Rattle.coll_nodes.specs.TableLayout.{TableLayout, MadeNode, content_of, content_among}
use Rattle.coll_nodes.specs.Moving.{weighed, weighed_nodes}
use Rattle.coll_nodes.specs.declared.contents.Content.{Content}
use Rattle.coll_nodes.proofs.AlikeLayouts.{AreAlike, reweighed}

-- what a node is, among nodes without one
pub content_dropped : (node other : NodeId) (nodes : List MadeNode) → content_among (nodes_without (node ∷ []) nodes) other ≡ cond (same_node other node) None (content_among nodes other)
content_dropped node other [] = by_test (λ b. content_among [] other ≡ cond b None (content_among [] other)) (same_node other node) (λ on. refl) (λ off. refl)
content_dropped node other (first ∷ later) =
    let rest = nodes_without (node ∷ []) later in
    by_test (λ b. content_among (cond (not (b || false)) (first ∷ rest) rest) other ≡ cond (same_node other node) None (content_among (first ∷ later) other)) (same_node first.node node)
    (λ on. content_dropped node other later
    ∙ by_test (λ b. cond b None (content_among later other) ≡ cond b None (cond (same_node other first.node) (Some first.content) (content_among later other))) (same_node other node)
    (λ is. refl)
    (λ off.
    let apart : same_node other first.node ≡ false = ap (same_node other) (same_node_is first.node node on) ∙ off in
    sym (ap (λ b. cond b (Some first.content) (content_among later other)) apart)))
    (λ off. by_test (λ b. cond b (Some first.content) (content_among rest other) ≡ cond (same_node other node) None (cond b (Some first.content) (content_among later other)))
    (same_node other first.node)
    (λ is.
    let apart : same_node other node ≡ false = ap (λ n. same_node n node) (same_node_is other first.node is) ∙ off in
    sym (ap (λ b. cond b None (Some first.content)) apart))
    (λ differ. content_dropped node other later))

-- what a node is, among nodes one of which has other weights
pub content_weighed : (node other : NodeId) (weights : Option (List Weight)) (nodes : List MadeNode)
    → content_among (weighed_nodes node weights nodes) other ≡ reweighed (cond (same_node node other) weights None) (content_among nodes other)
content_weighed node other weights [] = refl
content_weighed node other weights (first ∷ later) =
    let rest = weighed_nodes node weights later in
    let changed : MadeNode = record first { content = weighed weights first.content } in
    let gives = reweighed (cond (same_node node other) weights None) in
    by_test (λ b. content_among (cond b changed first ∷ rest) other ≡ gives (content_among (first ∷ later) other)) (same_node node first.node)
    (λ on. by_test (λ b. cond b (Some (weighed weights first.content)) (content_among rest other) ≡ gives (cond b (Some first.content) (content_among later other))) (same_node other first.node)
    (λ is.
    let same : same_node node other ≡ true = ap (same_node node) (same_node_is other first.node is) ∙ on in
    sym (ap (λ b. reweighed (cond b weights None) (Some first.content)) same))
    (λ differ. content_weighed node other weights later))
    (λ off. by_test (λ b. cond b (Some first.content) (content_among rest other) ≡ gives (cond b (Some first.content) (content_among later other))) (same_node other first.node)
    (λ is.
    let apart : same_node node other ≡ false = ap (same_node node) (same_node_is other first.node is) ∙ off in
    sym (ap (λ b. reweighed (cond b weights None) (Some first.content)) apart))
    (λ differ. content_weighed node other weights later))

-- nodes one of which has other weights are alike
pub weighed_alike : (layout : TableLayout) (node : NodeId) (weights : Option (List Weight)) → AreAlike layout (weighed_nodes node weights layout.nodes)
weighed_alike layout node weights other linked = (cond (same_node node other) weights None, content_weighed node other weights layout.nodes)

-- what keeps its weights is what it was
pub kept_weights : (found : Option Content) → found ≡ reweighed None found
kept_weights None = refl
kept_weights (Some it) = refl

-- a layout without a node's content
abbrev pub bare : TableLayout → NodeId → TableLayout
bare layout node = record layout { nodes = nodes_without (node ∷ []) layout.nodes }

-- without a node that stands nowhere, all that stand are alike
pub bare_alike : (layout : TableLayout) (node : NodeId) → is_in layout.rings node ≡ false → AreAlike layout (nodes_without (node ∷ []) layout.nodes)
bare_alike layout node apart other linked =
    let differ : same_node other node ≡ false = by_test (λ b. same_node other node ≡ b → b ≡ false) (same_node other node)
    (λ on _. not_both (ap (is_in layout.rings) (sym (same_node_is other node on)) ∙ linked) apart) (λ off _. refl) refl in
    (None, content_dropped node other layout.nodes ∙ (ap (λ b. cond b None (content_of layout other)) differ ∙ kept_weights (content_of layout other)))

-- a node that stands is one that was added to the layout without it
pub adds_bare : (layout : TableLayout) (rings : List (List NodeId)) (node : NodeId) (it : Content) (place : Place) → content_of layout node ≡ Some it → is_in rings node ≡ false
    → layout.rings ≡ rings_with place node 0 rings
    → Adds (record { rings = rings; nodes = nodes_without (node ∷ []) layout.nodes }) layout node it place
adds_bare layout rings node it place is apart put = record {
  makes = record {
    fresh = content_dropped node node layout.nodes ∙ ap (λ b. cond b None (content_of layout node)) (same_node_itself node);
    contents = λ other. by_test (λ b. same_node other node ≡ b → content_of layout other ≡ cond b (Some it) (content_among (nodes_without (node ∷ []) layout.nodes) other)) (same_node other node)
        (λ on _. ap (content_of layout) (same_node_is other node on) ∙ is)
        (λ off _. sym (content_dropped node other layout.nodes ∙ ap (λ b. cond b None (content_of layout other)) off)) refl;
  };
  apart = apart;
  rings = put;
}
