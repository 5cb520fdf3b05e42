-- The weights of one level, and elements by the rows of their weights.
use Rattle.std.specs.Prelude.{ℕ, ◌+◌, ◌*◌, List, [], ◌∷◌, map, slice_index_or}
use Rattle.coll_ranks.specs.RankLists.{WeightsValue}
use Rattle.coll_ranks.specs.Ranks.{added_to, added_at}
use Rattle.coll_ranks.specs.WeightCells.{cell_list}
use Rattle.coll_ranks.specs.declared.level_weights.LevelWeights.{LevelWeights}
use Rattle.coll_ranks.specs.declared.text_elements.TextElement.{TextElement}
use Rattle.coll_ranks.specs.declared.text_elements.TextElement.TheVariants.{Placed, Absent}
use Rattle.coll_ranks.specs.declared.text_elements.ElementRow.{ElementRow}
use Rattle.coll_ranks.specs.declared.text_elements.WeightRanks.{WeightRanks}
use Rattle.coll_ranks.specs.declared.text_elements.WeightRanks.TheVariants.{Ignored, Single, Several}

-- the ranks of a weight, as a list
abbrev pub ranks_in : WeightRanks → List ℕ
ranks_in Ignored = []
ranks_in (Single rank) = rank ∷ []
ranks_in (Several ranks) = ranks.now

-- the row of an element
abbrev pub row_of : WeightsValue → TextElement → ElementRow
row_of weights (Placed rank) = record { first = rank * weights.levels; code = 0 }
row_of weights (Absent c) = record { first = 0; code = c }

-- the numbers of a row at a level
abbrev pub row_numbers : WeightsValue → (level : ℕ) → ElementRow → List ℕ
row_numbers weights level row = map (added_to (added_at weights level row.code)) (slice_index_or weights.lists (row.first + level) [])

-- the ranks of the weight of a row, by the weights of one level
abbrev pub level_ranks : LevelWeights → ElementRow → List ℕ
level_ranks weights row = slice_index_or (map (cell_list weights.long.now) weights.cells.now) row.first []

-- and the numbers of a row, by the weights of one level
abbrev pub level_numbers : LevelWeights → ElementRow → List ℕ
level_numbers weights row = map (added_to (weights.times * row.code)) (level_ranks weights row)
