-- The string in the middle stands before the text, or at it, or behind it.
use Rattle.std.proofs.Common.{◌-◌, arith}
use Rattle.coll_elements.proofs.ElementOrder.{halves_down, halves_up, half_below}
use Rattle.coll_elements.proofs.element_order.count_up_to.Goals as goal

pub halves-preserved-then-is_lt : goal.halves-preserved-then-is_lt
halves-preserved-then-is_lt c =
    let half = half_below (c.halves.high - c.halves.low) (omega (arith, c.halves-test.true)) in
    record {
      from = c.halves.invariant.from;
      order = omega arith;
      to = omega (arith, half, c.halves.invariant.to);
      reached = c.halves.invariant.reached;
      behind = halves_down _ c.index-ordered-middle.result _ _ _ _ _ _ _ c.requires.within c.requires.ascending (omega (arith, half, c.halves.invariant.to, c.requires.within))
          c.index-ordered-middle.is c.get.ensures.bytes c.cmp.ensures c.is_lt.ensures c.if-is_lt.true c.halves.invariant.behind;
    }

pub halves-preserved : goal.halves-preserved
halves-preserved c =
    let half = half_below (c.halves.high - c.halves.low) (omega (arith, c.halves-test.true)) in
    record {
      from = omega (arith, c.halves.invariant.from);
      order = omega (arith, half);
      to = c.halves.invariant.to;
      reached = λ _. halves_up _ c.index-ordered-middle.result _ _ _ _ _ c.requires.ascending (omega (arith, half, c.halves.invariant.to, c.requires.within)) c.index-ordered-middle.is
          c.get.ensures.bytes c.cmp.ensures c.is_lt.ensures c.if-is_lt.false;
      behind = c.halves.invariant.behind;
    }
