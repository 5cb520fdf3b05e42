-- A pair more, or none; and behind the last word there is none.
use Rattle.std.proofs.Common.{◌+◌, length, ap, arith, subst, sym}
use Rattle.coll_reviews.proofs.ListedLemmas.{CountedSoFar, counted_new_at, counted_old_at, pairs_end}
use Rattle.coll_reviews.proofs.review_lines.new_pairs.Goals as goal
use Rattle.coll_reviews.proofs.review_lines.new_pairs.Goals.{then-first-second, else-first-second}

pub returns : goal.returns
returns c = omega (arith, c.loop-place.invariant.told, ap length (pairs_end c.args.list.now c.loop-place.place c.loop-place-test.false))

pub loop-place-preserved : goal.loop-place-preserved
loop-place-preserved c =
    let list = c.args.list.now in
    let place = c.loop-place.place in
    elim c.if-first-second.branch [
      | then-first-second w ↦ subst (CountedSoFar list (place + 1)) (sym w.count-is)
          (counted_new_at list place _ _ c.loop-place.invariant.above c.loop-place-test.true c.loop-place.count c.loop-place.invariant
          w.if-first-second.true)
      | else-first-second w ↦ subst (CountedSoFar list (place + 1)) (sym w.count-is)
          (counted_old_at list place _ _ c.loop-place.invariant.above c.loop-place-test.true c.loop-place.count c.loop-place.invariant
          w.if-first-second.false)
    ]
