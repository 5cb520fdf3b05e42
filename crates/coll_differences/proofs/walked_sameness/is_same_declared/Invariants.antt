-- The walks are the same if what is left of them is.
use Rattle.std.proofs.Common.{◌≡◌}
use Rattle.coll_differences.specs.Sameness.{same_list, same_declaration}
use Rattle.coll_differences.proofs.walked_sameness.is_same_declared.Given as goal

abbrev pub invariant-declared : goal.invariant-declared
invariant-declared l = same_list same_declaration l.initial.left l.initial.others ≡ same_list same_declaration l.left l.others
