-- The strings so far have the numbers of their places.
use Rattle.coll_elements.specs.ElementOrder.{AreNumbered}
use Rattle.coll_elements.proofs.placed_elements.numbered_strings.Given as goal

abbrev pub invariant-loop-place : goal.invariant-loop-place
invariant-loop-place l = AreNumbered l.named l.place l.strings.items
