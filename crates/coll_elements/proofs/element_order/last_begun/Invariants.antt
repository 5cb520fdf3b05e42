-- A text begins with no element behind the one that is looked at.
use Rattle.std.proofs.Common.{◌≤◌}
use Rattle.coll_elements.specs.ElementOrder.{strings_in}
use Rattle.coll_elements.proofs.ElementOrder.{NoneBegun}
use Rattle.coll_elements.proofs.element_order.last_begun.Given as goal

abbrev pub invariant-shorter : goal.invariant-shorter
invariant-shorter l = record {
  within : l.left ≤ l.among;
  apart : NoneBegun (strings_in l.ordered) l.text l.left l.among;
}

abbrev pub decreases-shorter : goal.decreases-shorter
decreases-shorter l = l.left
