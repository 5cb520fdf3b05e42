-- So far no fault changed, but for names that are near.
use Rattle.std.proofs.Common.{◌≡◌, map}
use Rattle.coll_lint.specs.Orders.{bare_fault}
use Rattle.coll_lint.proofs.near_names.seek_near_names.Given as goal

abbrev pub invariant-loop-found : goal.invariant-loop-found
invariant-loop-found l = map bare_fault l.faults ≡ map bare_fault l.initial.faults
