use Rattle.std.proofs.Common.{◌≡◌, ◌≤◌, ◌+◌, ◌*◌, ◌++◌, length}
use Rattle.std.specs.Prelude.{vec_len, vec_capacity}
use Rattle.coll_key.specs.LevelList.{directed, items, listed}
use Rattle.coll_ranks.specs.LevelWeights.{row_numbers}
use Rattle.coll_key.proofs.DirectionLemmas.{directed_numbers}
use Rattle.coll_key.proofs.levels.with_rows.Given as goal

abbrev pub invariant-rows : goal.invariant-rows
invariant-rows l =
    let numbers = directed_numbers l.backward (row_numbers l.weights l.level) in
    record {
      room : vec_len l.with + length l.left * 2 + 1 ≤ vec_capacity l.with;
      few : l.gaps + length l.left ≤ 65_536;
      same : l.initial.with.items ++ listed l.position 0 (items numbers (directed l.backward l.rows)) ≡ l.with.items ++ listed l.position l.gaps (items numbers (directed l.backward l.left));
    }

abbrev pub decreases-rows : goal.decreases-rows
decreases-rows l = length l.left
