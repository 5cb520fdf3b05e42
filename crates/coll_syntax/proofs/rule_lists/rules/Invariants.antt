use Rattle.std.proofs.Common.{◌≡◌, ◌≤◌, length, take}
use Rattle.coll_syntax.proofs.ListReading.{ReadsRules}
use Rattle.coll_syntax.proofs.rule_lists.rules.Given as goal

abbrev pub invariant-loop-operand : goal.invariant-loop-operand
invariant-loop-operand l = record {
  reads : ReadsRules l.tokens (take l.levels l.slots) (length l.yielded);
  count : l.levels ≡ length l.yielded;
  within : l.levels ≤ 4;
  four : length l.slots ≡ 4;
}
