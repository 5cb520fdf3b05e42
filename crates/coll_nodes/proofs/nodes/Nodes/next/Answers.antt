-- What comes next in a ring stands directly after the node.
use Rattle.std.proofs.Common.{◌≡◌, ◌∷◌, ◌++◌, [], ◌∙◌, slice_index_or}
use Rattle.coll_order.proofs.LayoutLemmas.{next_of_between}
use Rattle.coll_nodes.proofs.nodes.Nodes.next.Goals as goal

pub returns : goal.returns
returns c ring prefix rest is =
    let layout = c.self.inside.rings.layout in
    let stands : slice_index_or layout.rings ring [] ≡ prefix ++ c.args.node ∷ rest = rw (← c.self.view_is) at is in
    c.next.ensures ∙ next_of_between layout (record { index = ring }) prefix rest c.args.node c.lemma_layout.ensures stands
