-- What statements make of a table, one after another (the project's own).
use Rattle.std.specs.Prelude.{◌≡◌, Bool, true, false, List, [], ◌∷◌, Result, Ok, Err, Option, Some, None, ℕ}
use Rattle.std.specs.Result.{IsErr}
use Rattle.coll_syntax.specs.declared.statements.Statement.{Statement}
use Rattle.coll_nodes.specs.Table.{Collation}
use Rattle.coll_table.specs.Delta.{delta}
use Rattle.coll_table.specs.declared.refusals.Refusal.{Refusal}

-- what follows a table that was given; a refusal stays
abbrev pub and_then : Result Collation Refusal → (Collation → Result Collation Refusal) → Result Collation Refusal
and_then (Ok table) later = later table
and_then (Err refusal) later = Err refusal

-- the table rewritten by statements, one after another, each of which it has to accept; or the first refusal
unfoldable pub rewritten : Collation → List Statement → Result Collation Refusal
rewritten table [] = Ok table
rewritten table (statement ∷ later) = and_then (delta table statement) (λ after. rewritten after later)

-- whatever table some statements rewrite to one table, others rewrite it to another one
unfoldable pub LeadsOn : (statements : List Statement) → Collation → (more : List Statement) → Collation → Type 0
LeadsOn statements table more after = (start : Collation) → rewritten start statements ≡ Ok table → rewritten start more ≡ Ok after

-- what a table answers to a statement: it accepts it, and is rewritten, or it refuses it, and stays
abbrev pub Answers : (accepted : Bool) → Collation → Statement → (after : Collation) → Type 0
Answers true table statement after = delta table statement ≡ Ok after
Answers false table statement after = IsErr (delta table statement) × (after ≡ table)

-- what comes of a statement that is put to a table: there are so many lines with it, and the table is rewritten, or it is left out
abbrev pub IsPut : (with : Option ℕ) → Collation → Statement → (after : Collation) → Type 0
IsPut (Some lines) table statement after = delta table statement ≡ Ok after
IsPut None table statement after = after ≡ table
