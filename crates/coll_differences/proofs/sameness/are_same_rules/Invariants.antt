-- The lists are the same if what is left of them is.
use Rattle.std.proofs.Common.{◌≡◌, drop}
use Rattle.coll_differences.specs.Sameness.{same_list, same_rule}
use Rattle.coll_differences.proofs.sameness.are_same_rules.Given as goal

abbrev pub invariant-loop-rule : goal.invariant-loop-rule
invariant-loop-rule l = same_list same_rule l.rules l.others ≡ same_list same_rule (drop l.rule-index l.rules) l.left
