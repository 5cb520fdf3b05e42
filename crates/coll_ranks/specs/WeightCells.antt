-- Weights as ranks, each in a cell: the list that a cell stands for.
use Rattle.std.specs.Prelude.{◌<◌, ℕ, List, [], ◌∷◌, slice_index_or}
use Rattle.coll_ranks.specs.declared.weight_cells.WeightCell.{WeightCell}
use Rattle.coll_ranks.specs.declared.weight_cells.WeightCell.TheVariants.{Empty, Single, Long}

-- the list that a cell stands for, where these are the long ones
abbrev pub cell_list : (long : List (List ℕ)) → WeightCell → List ℕ
cell_list long Empty = []
cell_list long (Single rank) = rank ∷ []
cell_list long (Long place) = slice_index_or long place []

-- a cell that tells a place tells one among so many long lists
abbrev pub IsCell : (count : ℕ) → WeightCell → Type 0
IsCell count Empty = Unit {0}
IsCell count (Single rank) = Unit {0}
IsCell count (Long place) = place < count

-- all of these cells do
abbrev pub AreCells : (count : ℕ) → List WeightCell → Type 0
AreCells count [] = Unit {0}
AreCells count (cell ∷ cells) = IsCell count cell × AreCells count cells
