-- The points of what was met, and those of what is left, are all.
use Rattle.std.proofs.Common.{◌≡◌, ◌++◌, map}
use Rattle.coll_differences.specs.Orders.{marks_of, Declares}
use Rattle.coll_differences.proofs.orders.points_declared.Given as goal

abbrev pub invariant-declared : goal.invariant-declared
invariant-declared l = marks_of l.points.items ++ map Declares l.left ≡ map Declares l.initial.left
