-- One node of a ring more gets its number.
use Rattle.std.proofs.Common.{◌≡◌, ◌+◌, ◌∙◌, suc, true, ◌∷◌, ap, subst, arith, length}
use Rattle.coll_order.specs.Lists.{has_node}
use Rattle.coll_nodes.specs.TableLayout.{nodes_in}
use Rattle.coll_nodes.specs.WalkStates.{StandsIfAny, left_of}
use Rattle.coll_nodes.proofs.NumberedNodes.{one_numbered}
use Rattle.coll_nodes.proofs.WalkLemmas.{fewer_left, left_next, stands_next}
use Rattle.coll_nodes.proofs.numbered_rings.number_ring.Goals as goal

pub entries-smaller : goal.entries-smaller
entries-smaller c = fewer_left c.args.nodes.now.layout c.args.ring _ c.in-Some.node c.next-left.result c.lemma_layout.ensures c.in-Some.is c.entries.invariant.stands c.next-left.ensures

pub entries-preserved : goal.entries-preserved
entries-preserved c =
    let layout = c.args.nodes.now.layout in
    let there : has_node (nodes_in layout c.args.ring) c.in-Some.node ≡ true = subst (StandsIfAny layout c.args.ring) c.in-Some.is c.entries.invariant.stands in
    let left : left_of layout c.args.ring c.entries.left ≡ c.in-Some.node ∷ left_of layout c.args.ring c.next-left.result =
    ap (left_of layout c.args.ring) c.in-Some.is ∙ left_next layout c.args.ring c.in-Some.node c.next-left.result c.lemma_layout.ensures there c.next-left.ensures in
    let counted = ap length left in
    let one : c.entries.last + 1 ≡ suc c.entries.last = omega arith in
    record {
      stands = stands_next layout c.args.ring c.in-Some.node c.next-left.result c.lemma_layout.ensures there c.next-left.ensures;
      count = omega (arith, counted, c.entries.invariant.count);
      numbers = λ node. one_numbered _ _ c.in-Some.node c.entries.last (c.entries.last + 1) c.entries.numbers c.set.new.self left one c.in_ok-set.ensures node ∙ c.entries.invariant.numbers node;
    }
