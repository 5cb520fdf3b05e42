use Rattle.std.proofs.Common.{◌≡◌, ◌≤◌, ◌++◌, ◌-◌, length, max, replicate}
use Rattle.coll_syntax.specs.declared.weights.Weight.TheVariants.{Own}
use Rattle.coll_statements.proofs.line_weights.fill_up.Given as goal

abbrev pub invariant-loop-weights : goal.invariant-loop-weights
invariant-loop-weights l = record {
  filled : l.weights.items ≡ l.initial.weights.items ++ replicate (length l.weights.items - length l.initial.weights.items) Own;
  few : length l.weights.items ≤ max l.levels (length l.initial.weights.items);
}

abbrev pub decreases-loop-weights : goal.decreases-loop-weights
decreases-loop-weights l = l.levels - length l.weights.items
