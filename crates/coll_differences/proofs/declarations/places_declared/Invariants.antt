-- The points met so far have their places.
use Rattle.std.proofs.Common.{take}
use Rattle.coll_nodes.specs.TableLayout.{collation}
use Rattle.coll_differences.specs.Orders.{marks_declared, marks_of, ArePlaces}
use Rattle.coll_differences.proofs.declarations.places_declared.Given as goal

abbrev pub invariant-loop-point : goal.invariant-loop-point
invariant-loop-point l = ArePlaces (marks_declared (collation l.table)) (marks_of (take l.point-index l.points)) l.found.items
