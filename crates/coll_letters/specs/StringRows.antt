-- What is known of strings by a table: what those of collating elements weigh, and which are none.
use Rattle.std.specs.Prelude.{◌≡◌, ◌<◌, ℕ, List, All, None, Some, length}
use Rattle.coll_nodes.specs.ElementTexts.{element_entry}
use Rattle.coll_nodes.specs.Table.{Collation}
use Rattle.coll_nodes.specs.declared.entries.Entry.{Entry}
use Rattle.coll_ranks.specs.LevelWeights.{row_numbers}
use Rattle.coll_ranks.specs.RankLists.{WeightsValue}
use Rattle.coll_ranks.specs.WeightNumbers.{numbers_at}
use Rattle.coll_ranks.specs.declared.text_elements.ElementRow.{ElementRow}
use Rattle.coll_letters.specs.declared.string_rows.KnownString.{KnownString}
use Rattle.coll_letters.specs.declared.string_rows.KnownString.TheVariants.{Element, NoElement}
use Rattle.coll_letters.specs.declared.string_rows.StringRow.{StringRow}
use Rattle.coll_letters.specs.declared.string_rows.StringRows.{StringRows}

-- a string is that of an element that is placed, and a row has the numbers of the element
pub record IsRowOfString (table : Collation) (weights : WeightsValue) (string : List ℕ) (row : ElementRow) : Type 0 where
  pub entry : Entry
  pub placed : element_entry table string ≡ Some entry
  pub numbers : (level : ℕ) → level < length table.rules → row_numbers weights level row ≡ numbers_at table level entry.id

-- what is known of a string holds: it is an element's, with its row, or that of none
abbrev pub IsKnownString : Collation → WeightsValue → (string : List ℕ) → KnownString → Type 0
IsKnownString table weights string (Element row) = IsRowOfString table weights string row
IsKnownString table weights string NoElement = element_entry table string ≡ None

-- a string, and what is known of it
abbrev pub IsStringRow : Collation → WeightsValue → StringRow → Type 0
IsStringRow table weights kept = IsKnownString table weights kept.text kept.known

-- what is kept of strings is known of them
pub record AreStringRows (table : Collation) (weights : WeightsValue) (kept : StringRows) : Type 0 where
  pub rows : All (IsStringRow table weights) kept.rows.items
