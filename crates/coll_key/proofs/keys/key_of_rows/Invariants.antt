use Rattle.std.proofs.Common.{◌≡◌, ◌++◌, drop}
use Rattle.std.specs.List.{flat_map}
use Rattle.coll_key.specs.LevelList.{level_lists_from}
use Rattle.coll_ranks.specs.LevelWeights.{row_numbers}
use Rattle.coll_key.specs.SortKey.{ended}
use Rattle.coll_key.proofs.keys.key_of_rows.Given as goal

abbrev pub invariant-loop-level : goal.invariant-loop-level
invariant-loop-level l =
    flat_map ended (level_lists_from l.rules 0 (row_numbers l.weights) l.rows)
    ≡ l.key.items ++ flat_map ended (level_lists_from (drop l.level l.rules) l.level (row_numbers l.weights) l.rows)
