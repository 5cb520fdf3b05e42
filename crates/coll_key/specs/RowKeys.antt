-- Rows that a caller keeps for the elements of texts.
use Rattle.std.specs.Prelude.{◌≡◌, ◌<◌, ℕ, List, length, map}
use Rattle.coll_nodes.specs.Table.{Collation}
use Rattle.coll_elements.specs.Elements.{elements_of}
use Rattle.coll_ranks.specs.LevelWeights.{row_numbers}
use Rattle.coll_ranks.specs.RankLists.{WeightsValue}
use Rattle.coll_ranks.specs.WeightNumbers.{numbers_at}
use Rattle.coll_ranks.specs.declared.text_elements.ElementRow.{ElementRow}

-- rows have the numbers of the elements of a text, one after another, at each level of a table
abbrev pub AreRowsOf : Collation → (text : List ℕ) → WeightsValue → List ElementRow → Type 0
AreRowsOf table text weights rows =
    (level : ℕ) → level < length table.rules → map (row_numbers weights level) rows ≡ map (numbers_at table level) (elements_of table text)
