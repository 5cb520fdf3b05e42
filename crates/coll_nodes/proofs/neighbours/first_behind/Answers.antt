-- One section more is gone past.
use Rattle.std.proofs.Common.{◌≡◌, ◌∙◌, true, ap, sym, subst}
use Rattle.coll_order.specs.Lists.{first_in, has_node}
use Rattle.coll_nodes.specs.NodeNumbers.{entry_nodes_of}
use Rattle.coll_nodes.specs.TableLayout.{nodes_in, sections_ring}
use Rattle.coll_nodes.specs.WalkStates.{StandsIfAny, left_of}
use Rattle.coll_nodes.proofs.BesideNodes.{begins_here, begins_later, left_behind}
use Rattle.coll_nodes.proofs.WalkLemmas.{cut_at, fewer_left, left_next, stands_next}
use Rattle.coll_nodes.proofs.neighbours.first_behind.Goals as goal

pub sections-init : goal.sections-init
sections-init c =
    let layout = c.args.nodes.now.layout in
    record {
      stands = stands_next layout sections_ring c.args.section c.next-left.result c.lemma_layout.ensures c.requires.section c.next-left.ensures;
      first = λ prefix later cut. ap (λ nodes. first_in (entry_nodes_of layout nodes))
          (left_behind layout c.args.section c.next-left.result c.lemma_layout.ensures c.requires.section c.next-left.ensures prefix later cut);
    }

pub sections-smaller : goal.sections-smaller
sections-smaller c = fewer_left c.args.nodes.now.layout sections_ring _ c.in-Some.section c.next-left-in-Some.result c.lemma_layout.ensures c.in-Some.is c.sections.invariant.stands c.next-left-in-Some.ensures

pub sections-preserved : goal.sections-preserved
sections-preserved c =
    let layout = c.args.nodes.now.layout in
    let there : has_node (nodes_in layout sections_ring) c.in-Some.section ≡ true = subst (StandsIfAny layout sections_ring) c.in-Some.is c.sections.invariant.stands in
    let left = ap (left_of layout sections_ring) c.in-Some.is ∙ left_next layout sections_ring c.in-Some.section c.next-left-in-Some.result c.lemma_layout.ensures there c.next-left-in-Some.ensures in
    record {
      stands = stands_next layout sections_ring c.in-Some.section c.next-left-in-Some.result c.lemma_layout.ensures there c.next-left-in-Some.ensures;
      first = λ prefix later cut. sym (ap (λ nodes. first_in (entry_nodes_of layout nodes)) left
          ∙ begins_later layout c.in-Some.section (left_of layout sections_ring c.next-left-in-Some.result) c.ring_of.result c.ring_of.ensures.ring (sym c.first_node.ensures.first ∙ c.in_default-first_node.is))
          ∙ c.sections.invariant.first prefix later cut;
    }

pub returns-in-Some-first_node-clause-first : goal.returns-in-Some-first_node-clause-first
returns-in-Some-first_node-clause-first c =
    let layout = c.args.nodes.now.layout in
    let there : has_node (nodes_in layout sections_ring) c.in-Some.section ≡ true = subst (StandsIfAny layout sections_ring) c.in-Some.is c.sections.invariant.stands in
    let cut = cut_at (nodes_in layout sections_ring) c.in-Some.section there in
    λ prefix later whole. begins_here layout c.in-Some.section cut.1 c.ring_of.result c.in-Some-first_node.first c.ring_of.ensures.ring (sym c.in-Some-first_node.is ∙ c.first_node.ensures.first)
    ∙ (sym (ap (λ nodes. first_in (entry_nodes_of layout nodes)) (ap (left_of layout sections_ring) c.in-Some.is ∙ cut.3)) ∙ c.sections.invariant.first prefix later whole)

pub returns-clause-first : goal.returns-clause-first
returns-clause-first c =
    let layout = c.args.nodes.now.layout in
    λ prefix later whole. sym (ap (λ left. first_in (entry_nodes_of layout (left_of layout sections_ring left))) c.in_default.is) ∙ c.sections.invariant.first prefix later whole
