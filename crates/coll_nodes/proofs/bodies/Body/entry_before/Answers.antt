-- The entry before one is that of the node before its own.
use Rattle.std.proofs.Common.{◌≡◌, ◌∙◌, None, ap, sym, option_copied}
use Rattle.std.specs.Option.{option_and_then}
use Rattle.coll_nodes.specs.NodesBeside.{node_entry, node_between}
use Rattle.coll_nodes.specs.NodeNumbers.{entry_nodes}
use Rattle.coll_nodes.proofs.BesideEntries.{before_is, none_before, placed_node}
use Rattle.coll_nodes.proofs.bodies.Body.entry_before.Goals as goal

pub returns-in_err-node : goal.returns-in_err-node
returns-in_err-node c =
    ap option_copied c.from_residual.ensures ∙ none_before c.args.self.now.layout c.lemma_layout.ensures.sound c.args.id.now c.in_err-node.ensures.none

pub node_before-requires-clause-entry : goal.node_before-requires-clause-entry
node_before-requires-clause-entry c =
    rw c.self.view_is (placed_node c.args.self.now.layout c.lemma_layout.ensures.sound c.args.id.now c.in_ok-node.node c.in_ok-node.ensures.some)

pub returns-in_err-before : goal.returns-in_err-before
returns-in_err-before c =
    let layout = c.args.self.now.layout in
    let stands : c.node_before.result ≡ node_between None (entry_nodes c.args.self.now.layout) c.in_ok-node.node = rw (← c.self.view_is) c.node_before.ensures.before in
    ap option_copied c.from_residual-in_err-before.ensures ∙ (ap (option_and_then (node_entry layout)) (sym c.in_err-before.was ∙ stands)
    ∙ sym (before_is layout c.lemma_layout.ensures.sound c.args.id.now c.in_ok-node.node c.in_ok-node.ensures.some))

pub returns : goal.returns
returns c =
    let layout = c.args.self.now.layout in
    let stands : c.node_before.result ≡ node_between None (entry_nodes c.args.self.now.layout) c.in_ok-node.node = rw (← c.self.view_is) c.node_before.ensures.before in
    c.entry_at.ensures ∙ (ap (option_and_then (node_entry layout)) (sym c.in_ok-before.was ∙ stands)
    ∙ sym (before_is layout c.lemma_layout.ensures.sound c.args.id.now c.in_ok-node.node c.in_ok-node.ensures.some))
