-- A node that is made, and dropped again: the nodes are as they were.
use Rattle.std.proofs.Common.{◌≡◌, ◌≢◌, ℕ, cond, List, [], ◌∷◌, Option, Some, None, sym, ap, ◌∙◌}
use Rattle.coll_order.specs.Changes.{with_node}
use Rattle.coll_order.specs.Layout.{Layout, tag_of}
use Rattle.coll_order.specs.declared.places.NodeId.{NodeId}
use Rattle.coll_order.proofs.LayoutLemmas.{made_and_dropped, tag_with_node}
use Rattle.coll_order.proofs.Sameness.{same_node_itself}
use Rattle.coll_nodes.proofs.ChangedTags.{layout_dropped}
use Rattle.coll_nodes.proofs.NodeLemmas.{made_more}
use Rattle.coll_nodes.specs.Bodies.{AreMade, layout_with, slot_of}
use Rattle.coll_nodes.specs.Linking.{nodes_without}
use Rattle.coll_nodes.specs.TableLayout.{TableLayout}
use Rattle.coll_nodes.specs.declared.contents.Content.{Content}

-- without a node that was made, the nodes are those before
pub made_dropped : (layout : Layout) (old new : List (Option Content)) (node : NodeId) (tag : ℕ) (content : Content) → AreMade layout.tags old → tag_of layout node ≡ None
    → slot_of old tag ≡ None → slot_of new tag ≡ Some content → ((other : ℕ) → other ≢ tag → slot_of new other ≡ slot_of old other)
    → nodes_without (node ∷ []) (layout_with (with_node layout node tag) new).nodes ≡ (layout_with layout old).nodes
made_dropped layout old new node tag content made fresh free filled others =
    let more = made_more layout old new node tag content made fresh free filled others in
    let at : tag_of (with_node layout node tag) node ≡ Some tag = tag_with_node layout node node tag ∙ ap (λ b. cond b (Some tag) (tag_of layout node)) (same_node_itself node) in
    sym (ap (λ (l : TableLayout). l.nodes) (layout_dropped (with_node layout node tag) new node tag more at old (λ other differ. sym (others other differ))))
    ∙ ap (λ (l : Layout). (layout_with l old).nodes) (made_and_dropped layout node tag fresh)
