-- What a session keeps of its history, and what holds of it.
use Rattle.std.specs.Prelude.{◌≡◌, ◌+◌, ◌≤◌, true, false, List, [], ◌∷◌, map, reverse, vec_len, vec_capacity, Ok}
use Rattle.std.specs.List.{flat_map}
use Rattle.coll_order.specs.declared.places.NodeId.{NodeId}
use Rattle.coll_syntax.specs.Proper.{IsProper}
use Rattle.coll_syntax.specs.declared.statements.Statement.{Statement}
use Rattle.coll_table.specs.Delta.{delta}
use Rattle.coll_history.specs.Following.{ArePlaces}
use Rattle.coll_history.specs.Limits.{most_remaining}
use Rattle.coll_history.specs.Histories.{History, SessionValue}
use Rattle.coll_table.specs.Record.{Fits, dropped_nodes, statement_steps, turn}
use Rattle.coll_nodes.specs.TableLayout.{TableValue, collation}
use Rattle.coll_table.specs.Turning.{steps_of}
use Rattle.coll_history.specs.declared.histories.Kept.{Kept}
use Rattle.coll_history.specs.declared.histories.Session.TheInside.{Inside}

-- the statements of what is kept
abbrev pub statements_of : List Kept → List Statement
statements_of kept = map (λ (k : Kept). k.statement) kept

-- a table, its ring steps aside
abbrev pub uncounted : TableValue → TableValue
uncounted table = record table { steps = 0 }

-- a table turned back by the records kept since some moment, from the last to the first
unfoldable pub undone_by : TableValue → List Kept → TableValue
undone_by table [] = table
undone_by table (k ∷ later) = turn (undone_by table later) k.change

-- a record is that of a proper statement, between the tables before it and after it
pub record IsChange (before after : TableValue) (k : Kept) : Type 0 where
  pub proper : IsProper k.statement
  pub accepted : delta (collation before) k.statement ≡ Ok (collation after)
  pub steps : steps_of k.change.items ≡ statement_steps (collation before) k.statement

-- each record is in force, fits the table after its statement, and leads back to the one that the statement was accepted in
unfoldable pub Leads : TableValue → List Kept → Type 0
Leads table [] = Unit {0}
Leads table (k ∷ later) =
    IsChange (undone_by table (k ∷ later)) (undone_by table later) k × (k.change.undone ≡ false) × Fits (undone_by table later) k.change
    × Leads table later

-- each undone record, the next to be put again first, fits, and leads on to the table that its statement gives
unfoldable pub LeadsOn : TableValue → List Kept → Type 0
LeadsOn table [] = Unit {0}
LeadsOn table (k ∷ later) =
    IsChange table (turn table k.change) k × (k.change.undone ≡ true) × Fits table k.change × LeadsOn (turn table k.change) later

-- the history that is kept: the next statement to be put again is kept last
abbrev pub history_of : TableValue → List Kept → List Kept → History
history_of table remaining undone =
    record { start = collation (undone_by table remaining); remaining = statements_of remaining; undone = reverse (statements_of undone) }

-- what contracts see of a session
abbrev pub session_of : TableValue → List Kept → List Kept → SessionValue
session_of table remaining undone =
    record { history = history_of (uncounted table) remaining undone; layout = table.layout; steps = table.steps }

-- what holds of a session: its records lead where they say, the history isn't too long, each undo and each redo has its room, and
-- the places that were handed over are those that they are said to be
pub record IsSoundSession (s : Inside) : Type 0 where
  pub leads : Leads (uncounted s.table) s.remaining.items
  pub leads_on : LeadsOn (uncounted s.table) (reverse s.undone.items)
  pub few : vec_len s.remaining + vec_len s.undone ≤ most_remaining
  pub undo_room : vec_len s.remaining + vec_len s.undone ≤ vec_capacity s.undone
  pub redo_room : vec_len s.remaining + vec_len s.undone ≤ vec_capacity s.remaining
  pub places : ArePlaces s.standing s.numbers (uncounted s.table) s.remaining.items s.undone.items

-- the nodes that undone records would put in again
abbrev pub added_by_all : List Kept → List NodeId
added_by_all kept = flat_map (λ (k : Kept). dropped_nodes k.change) kept
