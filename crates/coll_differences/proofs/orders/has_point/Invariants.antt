-- The point is among those that are left, if it is among all.
use Rattle.std.proofs.Common.{◌≡◌, drop}
use Rattle.coll_differences.specs.Orders.{has_mark, mark_of, marks_of}
use Rattle.coll_differences.proofs.orders.has_point.Given as goal

abbrev pub invariant-loop-other : goal.invariant-loop-other
invariant-loop-other l = has_mark (marks_of l.points) (mark_of l.point) ≡ has_mark (marks_of (drop l.other-index l.points)) (mark_of l.point)
