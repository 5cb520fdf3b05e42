-- What is put on the list are the weights so far, as the entry keeps them.
use Rattle.std.proofs.Common.{◌≡◌, map, take}
use Rattle.coll_nodes.specs.Entries.{kept_weight}
use Rattle.coll_statements.proofs.line_weights.copied_weights.Given as goal

abbrev pub invariant-loop-weight : goal.invariant-loop-weight
invariant-loop-weight l = l.weights.items ≡ map (kept_weight l.id) (take l.weight-index l.given)
