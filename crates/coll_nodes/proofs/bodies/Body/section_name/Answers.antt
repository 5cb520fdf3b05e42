-- The section of an entry is the one whose ring has the entry's node.
use Rattle.std.proofs.Common.{◌≡◌, ◌∙◌, Some, ap, sym, chars, option_map, true}
use Rattle.std.specs.Option.{option_and_then}
use Rattle.coll_order.specs.Lists.{has_node}
use Rattle.coll_nodes.specs.NodesBeside.{name_if, section_among}
use Rattle.coll_nodes.specs.TableLayout.{content_of, nodes_in, sections_at, sections_ring}
use Rattle.coll_nodes.proofs.BesideEntries.{name_is, no_name}
use Rattle.coll_nodes.proofs.bodies.Body.section_name.Goals as goal

pub returns-in_err-node : goal.returns-in_err-node
returns-in_err-node c =
    ap (option_map (λ name. chars name.now)) c.from_residual.ensures ∙ no_name (sections_at c.args.self.now.layout) c.args.id.now c.in_err-node.ensures.none

pub returns-in_err-section : goal.returns-in_err-section
returns-in_err-section c =
    let layout = c.args.self.now.layout in
    let there : has_node (nodes_in layout c.ring-ring.result) c.in_ok-node.node ≡ true = rw (← c.self.view_is) c.ring-ring.ensures in
    let found : c.find_section.result.section ≡ section_among layout (Some c.ring-ring.result) (nodes_in layout sections_ring) = rw (← c.self.view_is) c.find_section.ensures.found in
    ap (option_map (λ name. chars name.now)) c.from_residual-in_err-section.ensures
    ∙ (ap (option_and_then (λ section. option_and_then name_if (content_of layout section))) (sym c.in_err-section.was ∙ found)
    ∙ sym (name_is layout c.lemma_layout.ensures.sound c.args.id.now c.in_ok-node.node c.in_ok-node.ensures.some c.ring-ring.result there))

pub returns : goal.returns
returns c =
    let layout = c.args.self.now.layout in
    let there : has_node (nodes_in layout c.ring-ring.result) c.in_ok-node.node ≡ true = rw (← c.self.view_is) c.ring-ring.ensures in
    let found : c.find_section.result.section ≡ section_among layout (Some c.ring-ring.result) (nodes_in layout sections_ring) = rw (← c.self.view_is) c.find_section.ensures.found in
    let is : content_of layout c.in_ok-section.section ≡ Some c.content.result.now = rw (← c.self.view_is) c.content.ensures in
    c.name_of.ensures ∙ (sym (ap (option_and_then name_if) is)
    ∙ (ap (option_and_then (λ section. option_and_then name_if (content_of layout section))) (sym c.in_ok-section.was ∙ found)
    ∙ sym (name_is layout c.lemma_layout.ensures.sound c.args.id.now c.in_ok-node.node c.in_ok-node.ensures.some c.ring-ring.result there)))
