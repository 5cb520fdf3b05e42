-- The entry behind one is that of the node behind its own.
use Rattle.std.proofs.Common.{◌≡◌, ◌∙◌, ap, sym, option_copied}
use Rattle.std.specs.Option.{option_and_then}
use Rattle.coll_order.specs.Lists.{next_in}
use Rattle.coll_nodes.specs.NodesBeside.{node_entry}
use Rattle.coll_nodes.specs.NodeNumbers.{entry_nodes}
use Rattle.coll_nodes.proofs.BesideEntries.{behind_is, nothing_behind, placed_node}
use Rattle.coll_nodes.proofs.bodies.Body.entry_behind.Goals as goal

pub returns-in_err-node : goal.returns-in_err-node
returns-in_err-node c =
    ap option_copied c.from_residual.ensures ∙ nothing_behind c.args.self.now.layout c.lemma_layout.ensures.sound c.args.id.now c.in_err-node.ensures.none

pub node_behind-requires-clause-entry : goal.node_behind-requires-clause-entry
node_behind-requires-clause-entry c =
    rw c.self.view_is (placed_node c.args.self.now.layout c.lemma_layout.ensures.sound c.args.id.now c.in_ok-node.node c.in_ok-node.ensures.some)

pub returns-in_err-behind : goal.returns-in_err-behind
returns-in_err-behind c =
    let layout = c.args.self.now.layout in
    let stands : c.node_behind.result ≡ next_in (entry_nodes c.args.self.now.layout) c.in_ok-node.node = rw (← c.self.view_is) c.node_behind.ensures.behind in
    ap option_copied c.from_residual-in_err-behind.ensures ∙ (ap (option_and_then (node_entry layout)) (sym c.in_err-behind.was ∙ stands)
    ∙ sym (behind_is layout c.lemma_layout.ensures.sound c.args.id.now c.in_ok-node.node c.in_ok-node.ensures.some))

pub returns : goal.returns
returns c =
    let layout = c.args.self.now.layout in
    let stands : c.node_behind.result ≡ next_in (entry_nodes c.args.self.now.layout) c.in_ok-node.node = rw (← c.self.view_is) c.node_behind.ensures.behind in
    c.entry_at.ensures ∙ (ap (option_and_then (node_entry layout)) (sym c.in_ok-behind.was ∙ stands)
    ∙ sym (behind_is layout c.lemma_layout.ensures.sound c.args.id.now c.in_ok-node.node c.in_ok-node.ensures.some))
