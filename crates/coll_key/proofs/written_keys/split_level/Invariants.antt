use Rattle.std.proofs.Common.{◌≡◌, ◌++◌, take, drop}
use Rattle.coll_key.specs.WrittenKey.{first_level, later_levels}
use Rattle.coll_key.proofs.written_keys.split_level.Given as goal

abbrev pub invariant-loop-at : goal.invariant-loop-at
invariant-loop-at l = record {
  level : first_level l.key ≡ take l.at l.key ++ first_level (drop l.at l.key);
  later : later_levels l.key ≡ later_levels (drop l.at l.key);
}
