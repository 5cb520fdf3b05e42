-- How a withdrawal goes: statements are taken down, those after the withdrawn one are put to the table anew, and their new records
-- are paired with them.
use Rattle.std.specs.Prelude.{◌≡◌, ℕ, zero, suc, false, List, [], ◌∷◌, ◌++◌, length}
use Rattle.coll_nodes.specs.TableLayout.{TableValue, collation}
use Rattle.coll_syntax.specs.Proper.{IsProper}
use Rattle.coll_syntax.specs.declared.statements.Statement.{Statement}
use Rattle.coll_table.specs.Record.{Fits, KeepsLoose, added_nodes, turn, turned, without_nodes}
use Rattle.coll_table.specs.Turning.{steps_of}
use Rattle.coll_table.specs.declared.records.Record.{Record}
use Rattle.coll_history.specs.Histories.{History}
use Rattle.coll_history.specs.Kept.{Leads, undone_by}
use Rattle.coll_history.specs.declared.histories.Kept.{Kept}

-- Taken down and put up.

-- a record that was turned on a table: the table after it, and the record after it, which turns the table back
pub record IsTurned (table : TableValue) (k k1 : Kept) (table1 : TableValue) : Type 0 where
  pub statement : k1.statement ≡ k.statement
  pub table_is : table1 ≡ turn table k.change
  pub change_is : k1.change ≡ turned table k.change
  pub fits : Fits table1 k1.change
  pub back : turn table1 k1.change ≡ table
  pub steps : steps_of k1.change.items ≡ steps_of k.change.items

-- the last record of a list fits a table
abbrev pub LastFits : TableValue → List Kept → Type 0
LastFits table kept = (rest : List Kept) (k : Kept) → kept ≡ rest ++ k ∷ [] → Fits table k.change

-- the record of the last statement of a list was turned, and the statement stands last in another list
pub record TurnsLast (table table1 : TableValue) (from from1 onto onto1 : List Kept) : Type 0 where
  pub kept : Kept
  pub kept_turned : Kept
  pub from_is : from ≡ from1 ++ kept ∷ []
  pub onto_is : onto1 ≡ onto ++ kept_turned ∷ []
  pub is_turned : IsTurned table kept kept_turned table1

-- a history is another one of which so many of the last statements were taken back
pub record IsLowered (high low : History) (count : ℕ) : Type 0 where
  pub moved : List Statement
  pub moved_count : length moved ≡ count
  pub start : low.start ≡ high.start
  pub remaining : high.remaining ≡ low.remaining ++ moved
  pub undone : low.undone ≡ moved ++ high.undone

-- a table turned on by so many of the records that were undone
unfoldable pub raised : ℕ → TableValue → List Kept → TableValue
raised zero table kept = table
raised (suc count) table [] = table
raised (suc count) table (k ∷ later) = raised count (turn table k.change) later

-- Put to the table anew.

-- the statements of what is kept are proper
unfoldable pub AreProper : List Kept → Type 0
AreProper [] = Unit {0}
AreProper (k ∷ later) = IsProper k.statement × AreProper later

-- a statement with another record
abbrev pub with_record : Kept → Record → Kept
with_record k change = record { statement = k.statement; change = change }

-- the first statements of what is kept, each with its new record
unfoldable pub paired : List Kept → List Record → List Kept
paired [] fresh = []
paired (k ∷ later) [] = []
paired (k ∷ later) (change ∷ fresh) = with_record k change ∷ paired later fresh

-- statements that were put to a table behind others lead back to where those led, and what was loose in the table is so still
pub record IsRebuilt (old new : TableValue) (kept : List Kept) : Type 0 where
  pub leads : (before : List Kept) → Leads old before → Leads new (before ++ kept)
  pub start : (before : List Kept) → Leads old before → collation (undone_by new (before ++ kept)) ≡ collation (undone_by old before)
  pub loose : KeepsLoose old.layout new.layout

-- a table with new records, the newest first, taken back and given up
unfoldable pub given_back : TableValue → List Record → TableValue
given_back table [] = table
given_back table (change ∷ earlier) = given_back (without_nodes (turn table change) (added_nodes change.items)) earlier

-- each of the new records is in force and fits when its turn comes
unfoldable pub CanGiveBack : TableValue → List Record → Type 0
CanGiveBack table [] = Unit {0}
CanGiveBack table (change ∷ earlier) =
    (change.undone ≡ false) × Fits table change × CanGiveBack (without_nodes (turn table change) (added_nodes change.items)) earlier

-- some of what is kept stands before the last of it
pub record StandsBeforeLast (kept later : List Kept) : Type 0 where
  pub earlier : List Kept
  pub last : Kept
  pub parts : kept ≡ (earlier ++ later) ++ last ∷ []
