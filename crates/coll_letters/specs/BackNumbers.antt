-- What is left of the numbers of a text at a level that is looked at from the back, and a number of it.
use Rattle.std.specs.Prelude.{◌≡◌, ◌<◌, ◌≤◌, ℕ, Bool, List, Option, length, map, reverse}
use Rattle.coll_ranks.specs.LevelWeights.{level_numbers, ranks_in}
use Rattle.coll_ranks.specs.Ranks.{added_to}
use Rattle.coll_ranks.specs.declared.level_weights.LevelWeights.{LevelWeights}
use Rattle.coll_ranks.specs.declared.text_elements.ElementRow.{ElementRow}
use Rattle.coll_key.specs.ForwardNumbers.{items_left}
use Rattle.coll_key.specs.LevelList.{listed}
use Rattle.coll_letters.specs.LevelNumbers.{placed}
use Rattle.coll_letters.specs.declared.back_numbers.RowsBefore.{RowsBefore}
use Rattle.coll_letters.specs.declared.level_numbers.PlacedNumber.{PlacedNumber}

-- the numbers of a row, the last one first
abbrev pub numbers_back : LevelWeights → ElementRow → List ℕ
numbers_back weights row = reverse (level_numbers weights row)

-- the items of what is left: the numbers that are left of a character, and then those of the rows before it
abbrev pub items_before : LevelWeights → RowsBefore → List (Option ℕ)
items_before weights rest = items_left (numbers_back weights) (map (added_to rest.added) (reverse (ranks_in rest.ranks))) (reverse rest.rows.now)

-- a number comes first of what is left, and others before it
pub record IsFoundBefore (weights : LevelWeights) (rest : RowsBefore) (found : PlacedNumber) (earlier : RowsBefore) : Type 0 where
  pub next : (position : Bool) → listed position 0 (items_before weights rest) ≡ placed position found (listed position 0 (items_before weights earlier))
  pub shorter : length (items_before weights earlier) < length (items_before weights rest)
  pub shorter_rows : length earlier.rows.now ≤ length rest.rows.now
