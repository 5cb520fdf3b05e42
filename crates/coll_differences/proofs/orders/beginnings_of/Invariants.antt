-- The beginnings among the points met so far are found.
use Rattle.std.proofs.Common.{◌≡◌, take}
use Rattle.coll_differences.specs.Orders.{beginnings, marks_of}
use Rattle.coll_differences.proofs.orders.beginnings_of.Given as goal

abbrev pub invariant-loop-point : goal.invariant-loop-point
invariant-loop-point l = marks_of l.found.items ≡ beginnings (marks_of (take l.point-index l.points))
