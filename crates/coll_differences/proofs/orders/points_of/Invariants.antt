-- The points of what was visited, and those of what is left, are the order.
use Rattle.std.proofs.Common.{◌≡◌, ◌++◌, map}
use Rattle.coll_differences.specs.Orders.{mark_at, marks_of}
use Rattle.coll_differences.proofs.orders.points_of.Given as goal

abbrev pub invariant-points : goal.invariant-points
invariant-points l = marks_of l.points.items ++ map mark_at l.left ≡ map mark_at l.initial.left
