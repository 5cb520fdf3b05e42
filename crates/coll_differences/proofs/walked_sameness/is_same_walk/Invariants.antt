-- The walks are the same if what is left of them is.
use Rattle.std.proofs.Common.{◌≡◌}
use Rattle.coll_differences.specs.Sameness.{same_list, same_visited}
use Rattle.coll_differences.proofs.walked_sameness.is_same_walk.Given as goal

abbrev pub invariant-visited : goal.invariant-visited
invariant-visited l = same_list same_visited l.initial.left l.initial.others ≡ same_list same_visited l.left l.others
