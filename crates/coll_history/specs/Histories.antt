-- The history of a session (the project's own): which statements remain, which were taken back, and what a statement, an undo and
-- a redo do.
use Rattle.std.specs.Prelude.{◌≡◌, ◌≢◌, ◌-◌, ◌==◌, ℕ, zero, suc, nat_le, if◌then◌else◌, List, [], ◌∷◌, ◌++◌}
use Rattle.std.specs.Prelude.{length, take, drop, slice_get, Option, None, Result, Ok, Err}
use Rattle.coll_syntax.specs.declared.statements.Statement.{Statement}
use Rattle.coll_nodes.specs.Table.{Collation}
use Rattle.coll_nodes.specs.TableLayout.{TableLayout}
use Rattle.coll_table.specs.Delta.{delta}
use Rattle.coll_table.specs.Record.{statement_steps}
use Rattle.coll_history.specs.Limits.{most_remaining}
use Rattle.coll_history.specs.Replay.{replay}
use Rattle.coll_table.specs.declared.refusals.Refusal.{Refusal}
use Rattle.coll_table.specs.declared.refusals.Refusal.TheVariants as refusal
use Rattle.coll_history.specs.declared.history_faults.BenchFault.{BenchFault}
use Rattle.coll_history.specs.declared.history_faults.BenchFault.TheVariants.{Table, NothingToUndo, NothingToRedo, HistoryFull}

-- the table at first, the statements that remain, from the first, and those taken back, from the next to be put again
pub record History : Type 0 where
  pub start : Collation
  pub remaining : List Statement
  pub undone : List Statement

-- a history in which nothing has happened
abbrev pub begun : Collation → History
begun table = record { start = table; remaining = []; undone = [] }

-- the table now: the one at first, rewritten by the statements that remain
abbrev pub table_now : History → Collation
table_now h = replay h.start h.remaining

-- an accepted statement remains, and nothing is left to be put again
abbrev pub with_statement : History → Statement → History
with_statement h statement = record { start = h.start; remaining = h.remaining ++ statement ∷ []; undone = [] }

-- the history with a statement that the table accepts, or the table's refusal
abbrev pub judged_by : History → Statement → Result Collation Refusal → Result History BenchFault
judged_by h statement (Ok table) = Ok (with_statement h statement)
judged_by h statement (Err reason) = Err (Table reason)

-- what becomes of a statement: refused where the history is full, and else judged by the table
unfoldable pub judged : History → Statement → Result History BenchFault
judged h statement = if nat_le most_remaining (length h.remaining) then Err HistoryFull
    else judged_by h statement (delta (table_now h) statement)

-- the last statement that remains is the next to be put again
abbrev pub stepped_back : History → History
stepped_back h =
    let kept = length h.remaining - 1 in
    record { start = h.start; remaining = take kept h.remaining; undone = drop kept h.remaining ++ h.undone }

-- the history after an undo, which is refused where nothing remains
unfoldable pub taken_back : History → Result History BenchFault
taken_back h = if length h.remaining == 0 then Err NothingToUndo else Ok (stepped_back h)

-- the history with the next of what was taken back put again, or the refusal where nothing was
abbrev pub stepped_on : Collation → (remaining undone : List Statement) → Result History BenchFault
stepped_on start remaining [] = Err NothingToRedo
stepped_on start remaining (statement ∷ later) = Ok (record { start = start; remaining = remaining ++ statement ∷ []; undone = later })

-- the history after a redo, which is refused where nothing was taken back
unfoldable pub put_again : History → Result History BenchFault
put_again h = stepped_on h.start h.remaining h.undone

-- the ring steps of the first of some statements, in the table that it is put to; none where there is none
abbrev pub first_steps : Collation → List Statement → ℕ
first_steps table [] = 0
first_steps table (statement ∷ later) = statement_steps table statement

-- the ring steps that a redo takes: those of the next statement to be put again
unfoldable pub redo_steps : History → ℕ
redo_steps h = first_steps (table_now h) h.undone

-- the ring steps that an undo takes: those of the last statement that remains, in the table that it was put to
unfoldable pub undo_steps : History → ℕ
undo_steps h = redo_steps (stepped_back h)

-- the statement with a number, counted from 1
abbrev pub numbered : List Statement → ℕ → Option Statement
numbered statements zero = None
numbered statements (suc before) = slice_get statements before

-- what a refusal says of the history: it is the stated one, or lack of memory, which may stand in its place
abbrev pub RefusesStatement : History → Statement → BenchFault → Type 0
RefusesStatement h statement fault = fault ≢ Table refusal.OutOfMemory → judged h statement ≡ Err fault

-- a session as contracts see it: its history, and of its table the layout, loose nodes included, and the number of ring steps that
-- it has taken
pub record SessionValue : Type 0 where
  pub history : History
  pub layout : TableLayout
  pub steps : ℕ
