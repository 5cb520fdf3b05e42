-- One word more comes before none of those before it.
use Rattle.std.proofs.Common.{arith, sym, ◌∙◌}
use Rattle.coll_nodes.specs.TableLayout.{collation}
use Rattle.coll_reviews.proofs.ListedLemmas.{order_on_at}
use Rattle.coll_reviews.proofs.listed_words.count_in_order.Goals as goal

pub loop-place-preserved : goal.loop-place-preserved
loop-place-preserved c = record {
  above = omega arith;
  sorted = order_on_at c.args.list.now c.loop-place.place _ _ c.loop-place.invariant.above c.loop-place-test.true (collation c.args.table.now)
      (sym c.in_ok-comes_before.ensures.before ∙ c.if-branch.false) c.loop-place.invariant.sorted;
  serves = c.in_ok-comes_before.ensures.serves;
}
