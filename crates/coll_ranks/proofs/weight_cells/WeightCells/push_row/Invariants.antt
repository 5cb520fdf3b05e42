-- The weights that are left make up the row.
use Rattle.std.proofs.Common.{◌≡◌, ◌++◌, ◌-◌}
use Rattle.coll_elements.specs.Rank.{known_rank}
use Rattle.coll_ranks.specs.Ranks.{compiled_row_by}
use Rattle.coll_ranks.proofs.weight_cells.WeightCells.push_row.Given as goal

abbrev pub invariant-loop-level : goal.invariant-loop-level
invariant-loop-level l =
    record {
      row : l.self ++ compiled_row_by (known_rank l.initial.ranks) (l.levels - l.level) l.owner l.left ≡ l.initial.self ++ compiled_row_by (known_rank l.initial.ranks) l.levels l.owner l.initial.left;
      same : l.ranks ≡ l.initial.ranks;
    }
