-- The lists are the same if what is left of them is.
use Rattle.std.proofs.Common.{◌≡◌, drop}
use Rattle.coll_differences.specs.Sameness.{same_list, same_weight}
use Rattle.coll_differences.proofs.sameness.has_same_weights.Given as goal

abbrev pub invariant-loop-weight : goal.invariant-loop-weight
invariant-loop-weight l = same_list same_weight l.weights l.others ≡ same_list same_weight (drop l.weight-index l.weights) l.left
