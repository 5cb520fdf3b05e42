-- One section more has its entries' numbers.
use Rattle.std.proofs.Common.{◌≡◌, ◌+◌, ◌∙◌, true, ◌++◌, ap, subst, arith, length, length-append}
use Rattle.coll_order.specs.Lists.{has_node}
use Rattle.coll_nodes.specs.NodeNumbers.{entry_nodes_in, entry_nodes_of}
use Rattle.coll_nodes.specs.SoundBodies.{read_at}
use Rattle.coll_nodes.specs.TableLayout.{nodes_in, sections_ring}
use Rattle.coll_nodes.specs.WalkStates.{StandsIfAny, left_of}
use Rattle.coll_nodes.proofs.NumberedNodes.{section_numbered}
use Rattle.coll_nodes.proofs.WalkLemmas.{cut_at, fewer_left, left_next, stands_next}
use Rattle.coll_nodes.proofs.numbered_rings.number_sections.Goals as goal

pub number_section-requires-clause-few : goal.number_section-requires-clause-few
number_section-requires-clause-few c =
    let layout = c.args.nodes.now.layout in
    let there : has_node (nodes_in layout sections_ring) c.in-Some.section ≡ true = subst (StandsIfAny layout sections_ring) c.in-Some.is c.sections.invariant.stands in
    let cut = cut_at (nodes_in layout sections_ring) c.in-Some.section there in
    let here = read_at (entry_nodes_in layout) layout c.in-Some.section in
    let left : length (entry_nodes_of layout (left_of layout sections_ring c.sections.left)) ≡ length here + length (entry_nodes_of layout cut.1) =
    ap (λ nodes. length (entry_nodes_of layout nodes)) (ap (left_of layout sections_ring) c.in-Some.is ∙ cut.3) ∙ length-append here (entry_nodes_of layout cut.1) in
    omega (arith, left, c.sections.invariant.count, c.requires.few)

pub sections-smaller : goal.sections-smaller
sections-smaller c = fewer_left c.args.nodes.now.layout sections_ring _ c.in-Some.section c.next-left.result c.lemma_layout.ensures c.in-Some.is c.sections.invariant.stands c.next-left.ensures

pub sections-preserved : goal.sections-preserved
sections-preserved c =
    let layout = c.args.nodes.now.layout in
    let there : has_node (nodes_in layout sections_ring) c.in-Some.section ≡ true = subst (StandsIfAny layout sections_ring) c.in-Some.is c.sections.invariant.stands in
    let here = read_at (entry_nodes_in layout) layout c.in-Some.section in
    let later = entry_nodes_of layout (left_of layout sections_ring c.next-left.result) in
    let left : entry_nodes_of layout (left_of layout sections_ring c.sections.left) ≡ here ++ later =
    ap (entry_nodes_of layout) (ap (left_of layout sections_ring) c.in-Some.is
    ∙ left_next layout sections_ring c.in-Some.section c.next-left.result c.lemma_layout.ensures there c.next-left.ensures) in
    let counted = ap length left ∙ length-append here later in
    record {
      stands = stands_next layout sections_ring c.in-Some.section c.next-left.result c.lemma_layout.ensures there c.next-left.ensures;
      count = omega (arith, counted, c.in_ok-last.ensures.count, c.sections.invariant.count);
      numbers = λ node. section_numbered _ here later c.sections.last c.in_ok-last.last c.sections.numbers c.number_section.new.numbers left c.in_ok-last.ensures.count c.in_ok-last.ensures.numbers
          node ∙ c.sections.invariant.numbers node;
    }
