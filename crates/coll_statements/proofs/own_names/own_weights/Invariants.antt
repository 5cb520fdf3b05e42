-- What is put on the list are the weights so far, by own names.
use Rattle.std.proofs.Common.{◌≡◌, take}
use Rattle.coll_nodes.specs.OwnNames.{own_weights}
use Rattle.coll_nodes.specs.TableLayout.{declared_at}
use Rattle.coll_statements.proofs.own_names.own_weights.Given as goal

abbrev pub invariant-loop-weight : goal.invariant-loop-weight
invariant-loop-weight l = l.own.items ≡ own_weights (declared_at l.body.layout) (take l.weight-index l.weights)
