-- The last entry is that of the last node.
use Rattle.std.proofs.Common.{◌≡◌, ◌∙◌, None, ap, sym, option_copied}
use Rattle.std.specs.Option.{option_and_then}
use Rattle.coll_nodes.specs.NodesBeside.{before_among, node_entry}
use Rattle.coll_nodes.specs.TableLayout.{nodes_in, sections_ring}
use Rattle.coll_nodes.proofs.BesideEntries.{last_is}
use Rattle.coll_nodes.proofs.BesideNodes.{all_before}
use Rattle.coll_nodes.proofs.bodies.Body.last_entry.Goals as goal

pub returns-in_err-last : goal.returns-in_err-last
returns-in_err-last c =
    let layout = c.args.self.now.layout in
    let last : c.find_section.result.before ≡ before_among layout None None (nodes_in layout sections_ring) = rw (← c.self.view_is) c.find_section.ensures.last in
    ap option_copied c.from_residual.ensures ∙ (ap (option_and_then (node_entry layout)) (sym c.in_err-last.was ∙ (last ∙ all_before layout None (nodes_in layout sections_ring)))
    ∙ sym (last_is layout c.lemma_layout.ensures.sound))

pub returns : goal.returns
returns c =
    let layout = c.args.self.now.layout in
    let last : c.find_section.result.before ≡ before_among layout None None (nodes_in layout sections_ring) = rw (← c.self.view_is) c.find_section.ensures.last in
    c.entry_at.ensures ∙ (ap (option_and_then (node_entry layout)) (sym c.in_ok-last.was ∙ (last ∙ all_before layout None (nodes_in layout sections_ring)))
    ∙ sym (last_is layout c.lemma_layout.ensures.sound))
