-- What is known of a table that is being built.
use Rattle.std.specs.Prelude.{◌≡◌, Bool, true}
use Rattle.coll_nodes.specs.WellFormed.{IsWellFormed}
use Rattle.coll_texts.specs.BuilderStates.{BuilderState, table_of}

-- a table whose category has ended is well formed
abbrev pub IsEnded : Bool → BuilderState → Type 0
IsEnded ended state = ended ≡ true → IsWellFormed (table_of state)
