use Rattle.std.proofs.Common.{length}
use Rattle.coll_syntax.proofs.ListReading.{ReadsWeights}
use Rattle.coll_syntax.proofs.weight_lists.weights.Given as goal

abbrev pub invariant-loop-operand : goal.invariant-loop-operand
invariant-loop-operand l = ReadsWeights l.tokens l.weights.items (length l.yielded)
