-- Withdrawal of a statement from the middle of a history (the project's own): the table rewritten by all other statements that
-- remain.
use Rattle.std.specs.Prelude.{ℕ, ◌-◌, ◌==◌, ◌&&◌, Bool, suc, nat_le, if◌then◌else◌, List, []}
use Rattle.std.specs.Prelude.{◌∷◌, ◌++◌, length, take, drop, Result, Ok, Err}
use Rattle.coll_syntax.specs.declared.statements.Statement.{Statement}
use Rattle.coll_nodes.specs.Table.{Collation}
use Rattle.coll_table.specs.Delta.{delta}
use Rattle.coll_table.specs.declared.refusals.Refusal.{Refusal}
use Rattle.coll_history.specs.Histories.{History}
use Rattle.coll_history.specs.declared.history_faults.BenchFault.{BenchFault}
use Rattle.coll_history.specs.declared.history_faults.BenchFault.TheVariants.{StillNeeded, NoSuchStatement}

-- what comes of the table after the statement with a number, or the refusal of this statement
abbrev pub going_on : ℕ → Result Collation Refusal → (Collation → Result Collation BenchFault) → Result Collation BenchFault
going_on number (Ok table) rest = rest table
going_on number (Err refusal) rest = Err (StillNeeded number refusal)

-- the table after statements that are numbered on from some number, without the one that has a certain number, or the refusal of
-- the first one that needs it; each keeps the number that it has in the whole list
unfoldable pub withdrawn_from : (left_out number : ℕ) → Collation → List Statement → Result Collation BenchFault
withdrawn_from left_out number table [] = Ok table
withdrawn_from left_out number table (statement ∷ later) =
    if number == left_out then withdrawn_from left_out (suc number) table later
    else going_on number (delta table statement) (λ next. withdrawn_from left_out (suc number) next later)

-- a statement with a number remains
abbrev pub is_numbered : History → ℕ → Bool
is_numbered h number = nat_le 1 number && nat_le number (length h.remaining)

-- the history without the statement that has a number, in which nothing is left to be put again
abbrev pub without_statement : History → ℕ → History
without_statement h number = record { start = h.start; remaining = take (number - 1) h.remaining ++ drop number h.remaining; undone = [] }

-- the history where the table can be made, and else its refusal
abbrev pub history_where : Result Collation BenchFault → History → Result History BenchFault
history_where (Ok table) h = Ok h
history_where (Err fault) h = Err fault

-- the history after a withdrawal, which is refused where no such statement remains, and where a later one needs it
unfoldable pub withdrawn : History → ℕ → Result History BenchFault
withdrawn h number = if is_numbered h number then history_where (withdrawn_from number 1 h.start h.remaining) (without_statement h number)
    else Err NoSuchStatement
