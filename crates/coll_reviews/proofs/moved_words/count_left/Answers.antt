-- The word at the place is put with those behind it, or stays with those before it.
use Rattle.std.proofs.Common.{arith, sym, ◌∙◌}
use Rattle.coll_nodes.specs.TableLayout.{collation}
use Rattle.coll_reviews.proofs.OrderedWords.{comes_once, put_here, stays_here}
use Rattle.coll_reviews.proofs.moved_words.count_left.Goals as goal

pub parts-preserved-then-branch : goal.parts-preserved-then-branch
parts-preserved-then-branch c = record {
  order = c.place_before-place.ensures.from;
  within = omega (arith, c.place_before-place.ensures.below, c.parts.invariant.within);
  put = λ d within.
      put_here (collation c.args.table.now) c.args.words.now c.place_before-place.result _ c.args.next.now d (comes_once (collation c.args.table.now) c.lemma_well_formed.ensures.well_formed)
      within (sym c.in_ok-comes_before.ensures.before ∙ c.if-branch.true);
  stay = c.parts.invariant.stay;
  serves = c.in_ok-comes_before.ensures.serves;
}

pub parts-preserved : goal.parts-preserved
parts-preserved c = record {
  order = omega (arith, c.place_before-place.ensures.below);
  within = c.parts.invariant.within;
  put = c.parts.invariant.put;
  stay = λ d above.
      stays_here (collation c.args.table.now) c.args.words.now c.place_before-place.result _ _ c.args.next.now d
      (omega (arith, c.place_before-place.ensures.below, c.parts.invariant.within)) (omega arith) (sym c.in_ok-comes_before.ensures.before ∙ c.if-branch.false);
  serves = c.in_ok-comes_before.ensures.serves;
}
