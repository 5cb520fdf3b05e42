-- A walk begins in the first section.
use Rattle.std.proofs.Common.{◌≡◌, Some, sym, ap, ◌∙◌}
use Rattle.coll_order.specs.Lists.{first_in}
use Rattle.coll_nodes.specs.TableLayout.{nodes_in, sections_ring}
use Rattle.coll_nodes.proofs.WalkLemmas.{on_first, visited_first}
use Rattle.coll_nodes.proofs.walks.Walk.new.Goals as goal

pub invariant_of-result : goal.invariant_of-result
invariant_of-result c =
    let layout = c.args.nodes.now.layout in
    let stands : first_in (nodes_in layout sections_ring) ≡ Some c.in-Some.first = sym (ap (λ ring. first_in (nodes_in layout ring)) c.requires.ring) ∙ (sym c.first.ensures ∙ c.in-Some.is) in
    on_first layout c.lemma_layout.ensures c.requires.sections c.in-Some.first stands c.first_ring-ring.result c.first_ring-ring.ensures c.next.result c.next.ensures c.first-2.result c.first-2.ensures

pub returns : goal.returns
returns c =
    let layout = c.args.nodes.now.layout in
    let stands : first_in (nodes_in layout sections_ring) ≡ Some c.in-Some.first = sym (ap (λ ring. first_in (nodes_in layout ring)) c.requires.ring) ∙ (sym c.first.ensures ∙ c.in-Some.is) in
    visited_first layout c.lemma_layout.ensures c.requires.sections c.in-Some.first stands c.first_ring-ring.result c.first_ring-ring.ensures c.next.result c.next.ensures c.first-2.result
    c.first-2.ensures
