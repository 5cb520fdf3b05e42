-- One section more is gone past.
use Rattle.std.proofs.Common.{◌≡◌, ◌∙◌, true, false, None, Some, ap, sym, subst}
use Rattle.coll_order.specs.Lists.{first_in, has_node}
use Rattle.coll_nodes.specs.NodesBeside.{before_among, is_asked, section_among}
use Rattle.coll_nodes.specs.TableLayout.{nodes_in, sections_ring}
use Rattle.coll_nodes.specs.WalkStates.{StandsIfAny, left_of}
use Rattle.coll_nodes.proofs.BesideNodes.{asked_here, before_here, before_later, not_asked}
use Rattle.coll_nodes.proofs.WalkLemmas.{cut_at, fewer_left, left_first, left_next, stands_first, stands_next}
use Rattle.coll_nodes.proofs.neighbours.find_section.Goals as goal

pub sections-init : goal.sections-init
sections-init c =
    let layout = c.args.nodes.now.layout in
    let first = c.first-left.ensures ∙ ap (λ ring. first_in (nodes_in layout ring)) c.requires.ring in
    let left : left_of layout sections_ring c.first-left.result ≡ nodes_in layout sections_ring = ap (left_of layout sections_ring) first ∙ left_first layout sections_ring in
    record {
      stands = subst (StandsIfAny layout sections_ring) (sym first) (stands_first layout sections_ring);
      before = tt;
      found = ap (section_among layout c.args.ring) left;
      last = ap (before_among layout c.args.ring None) left;
    }

pub sections-smaller : goal.sections-smaller
sections-smaller c = fewer_left c.args.nodes.now.layout sections_ring _ c.in-Some.section c.next-left.result c.lemma_layout.ensures c.in-Some.is c.sections.invariant.stands c.next-left.ensures

pub sections-preserved : goal.sections-preserved
sections-preserved c =
    let layout = c.args.nodes.now.layout in
    let there : has_node (nodes_in layout sections_ring) c.in-Some.section ≡ true = subst (StandsIfAny layout sections_ring) c.in-Some.is c.sections.invariant.stands in
    let left = ap (left_of layout sections_ring) c.in-Some.is ∙ left_next layout sections_ring c.in-Some.section c.next-left.result c.lemma_layout.ensures there c.next-left.ensures in
    let off : is_asked c.args.ring (Some c.ring_of-entries.result) ≡ false = sym c.is_asked.ensures ∙ c.if-is_asked.false in
    record {
      stands = stands_next layout sections_ring c.in-Some.section c.next-left.result c.lemma_layout.ensures there c.next-left.ensures;
      before = c.last_node-before.ensures.linked;
      found = sym (ap (section_among layout c.args.ring) left
          ∙ not_asked layout c.args.ring c.in-Some.section (left_of layout sections_ring c.next-left.result) c.ring_of-entries.result c.ring_of-entries.ensures.ring off)
          ∙ c.sections.invariant.found;
      last = ap (λ before. before_among layout c.args.ring before (left_of layout sections_ring c.next-left.result)) c.last_node-before.ensures.last
          ∙ (sym (ap (before_among layout c.args.ring c.sections.before) left
          ∙ before_later layout c.args.ring c.in-Some.section (left_of layout sections_ring c.next-left.result) c.ring_of-entries.result c.ring_of-entries.ensures.ring c.sections.before off)
          ∙ c.sections.invariant.last);
    }

pub returns-then-is_asked-clause-found : goal.returns-then-is_asked-clause-found
returns-then-is_asked-clause-found c =
    let layout = c.args.nodes.now.layout in
    let there : has_node (nodes_in layout sections_ring) c.in-Some.section ≡ true = subst (StandsIfAny layout sections_ring) c.in-Some.is c.sections.invariant.stands in
    let on : is_asked c.args.ring (Some c.ring_of-entries.result) ≡ true = sym c.is_asked.ensures ∙ c.if-is_asked.true in
    let cut = cut_at (nodes_in layout sections_ring) c.in-Some.section there in
    sym (ap (section_among layout c.args.ring) (ap (left_of layout sections_ring) c.in-Some.is ∙ cut.3)
    ∙ asked_here layout c.args.ring c.in-Some.section cut.1 c.ring_of-entries.result c.ring_of-entries.ensures.ring on)
    ∙ c.sections.invariant.found

pub returns-then-is_asked-clause-last : goal.returns-then-is_asked-clause-last
returns-then-is_asked-clause-last c =
    let layout = c.args.nodes.now.layout in
    let there : has_node (nodes_in layout sections_ring) c.in-Some.section ≡ true = subst (StandsIfAny layout sections_ring) c.in-Some.is c.sections.invariant.stands in
    let on : is_asked c.args.ring (Some c.ring_of-entries.result) ≡ true = sym c.is_asked.ensures ∙ c.if-is_asked.true in
    let cut = cut_at (nodes_in layout sections_ring) c.in-Some.section there in
    sym (ap (before_among layout c.args.ring c.sections.before) (ap (left_of layout sections_ring) c.in-Some.is ∙ cut.3)
    ∙ before_here layout c.args.ring c.in-Some.section cut.1 c.ring_of-entries.result c.ring_of-entries.ensures.ring c.sections.before on)
    ∙ c.sections.invariant.last

pub returns-clause-found : goal.returns-clause-found
returns-clause-found c =
    let layout = c.args.nodes.now.layout in
    sym (ap (λ left. section_among layout c.args.ring (left_of layout sections_ring left)) c.in_default.is) ∙ c.sections.invariant.found

pub returns-clause-last : goal.returns-clause-last
returns-clause-last c =
    let layout = c.args.nodes.now.layout in
    sym (ap (λ left. before_among layout c.args.ring c.sections.before (left_of layout sections_ring left)) c.in_default.is) ∙ c.sections.invariant.last
