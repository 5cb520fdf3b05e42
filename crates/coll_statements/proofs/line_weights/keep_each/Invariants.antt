use Rattle.std.proofs.Common.{◌≡◌, ◌++◌, map, take, drop}
use Rattle.coll_nodes.specs.Entries.{kept_weight}
use Rattle.coll_statements.proofs.line_weights.keep_each.Given as goal

abbrev pub invariant-loop-weight : goal.invariant-loop-weight
invariant-loop-weight l = l.weights ≡ map (kept_weight l.id) (take l.weight-index l.initial.weights) ++ drop l.weight-index l.initial.weights
