use Rattle.std.proofs.Common.{◌≡◌, length}
use Rattle.coll_key.specs.LevelList.{listed}
use Rattle.coll_key.specs.TextOrder.{list_order}
use Rattle.coll_key.proofs.comparison.order_along.Given as goal

abbrev pub invariant-steps : goal.invariant-steps
invariant-steps l = list_order (listed l.position 0 l.initial.left) (listed l.position 0 l.initial.right) ≡ list_order (listed l.position 0 l.left) (listed l.position 0 l.right)

abbrev pub decreases-steps : goal.decreases-steps
decreases-steps l = length l.left
