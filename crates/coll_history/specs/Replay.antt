-- Replay: the table that statements make of a table, one after another.
use Rattle.std.specs.Prelude.{List, [], ◌∷◌, Result, Ok, Err}
use Rattle.coll_syntax.specs.declared.statements.Statement.{Statement}
use Rattle.coll_nodes.specs.Table.{Collation}
use Rattle.coll_table.specs.Delta.{delta}
use Rattle.coll_table.specs.declared.refusals.Refusal.{Refusal}

-- the table that was given, or the one from before where none was
abbrev pub given_or : Collation → Result Collation Refusal → Collation
given_or before (Ok table) = table
given_or before (Err refusal) = before

-- the table after a statement; a refused one leaves it
abbrev pub after_statement : Collation → Statement → Collation
after_statement table statement = given_or table (delta table statement)

-- the table after some statements, in order
unfoldable pub replay : Collation → List Statement → Collation
replay table [] = table
replay table (statement ∷ statements) = replay (after_statement table statement) statements
