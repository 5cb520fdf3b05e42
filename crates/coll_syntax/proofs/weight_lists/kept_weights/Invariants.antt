use Rattle.std.proofs.Common.{length}
use Rattle.coll_syntax.proofs.KeptReading.{ReadsKept}
use Rattle.coll_syntax.proofs.weight_lists.kept_weights.Given as goal

abbrev pub invariant-loop-operand : goal.invariant-loop-operand
invariant-loop-operand l = ReadsKept l.own l.tokens l.weights.items (length l.yielded)
