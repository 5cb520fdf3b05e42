-- Each step goes to the last element before it that its string begins with.
use Rattle.coll_elements.proofs.ElementOrder.{steps_down, ends_begun}
use Rattle.coll_elements.proofs.element_order.last_begun.Goals as goal
use Rattle.std.proofs.Common.{arith}

pub returns-then-starts_with : goal.returns-then-starts_with
returns-then-starts_with c =
    ends_begun _ c.index-ordered-left.result _ _ _ _ _ c.requires.within c.shorter-test.true c.shorter.invariant.within c.index-ordered-left.is c.get.ensures.bytes c.starts_with.ensures.cases
    c.if-starts_with.true c.shorter.invariant.apart

pub shorter-smaller : goal.shorter-smaller
shorter-smaller c = (steps_down _ c.index-ordered-left.result _ _ _ _ _ c.requires.within c.requires.ascending c.requires.linked c.requires.reached c.shorter-test.true c.shorter.invariant.within
    c.index-ordered-left.is c.get.ensures.bytes c.starts_with.ensures.cases c.if-starts_with.false c.shorter.invariant.apart).below

pub shorter-preserved : goal.shorter-preserved
shorter-preserved c =
    let step = steps_down _ c.index-ordered-left.result _ _ _ _ _ c.requires.within c.requires.ascending c.requires.linked c.requires.reached c.shorter-test.true c.shorter.invariant.within
    c.index-ordered-left.is c.get.ensures.bytes c.starts_with.ensures.cases c.if-starts_with.false c.shorter.invariant.apart in
    record { within = omega (arith, step.below, c.shorter.invariant.within); apart = step.apart }
