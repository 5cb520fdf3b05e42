-- So many are there.
use Rattle.std.proofs.Common.{◌≡◌, replicate}
use Rattle.coll_syntax.specs.declared.weights.Weight.TheVariants.{Own}
use Rattle.coll_ranks.proofs.ranking.own_weights.Given as goal

abbrev pub invariant-loop-level : goal.invariant-loop-level
invariant-loop-level l = l.weights.items ≡ replicate l.level Own
