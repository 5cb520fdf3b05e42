-- The limits of a table, as numbers. The constants of the code are proved to be these (`limits_are_stated`).
use Rattle.std.specs.Prelude.{ℕ}

-- the most entries of a table, in all sections together
abbrev pub most_entries : ℕ
most_entries = 262_144

-- the most declarations of a table
abbrev pub most_declarations : ℕ
most_declarations = 262_144

-- the most sections of a table, the first counted
abbrev pub most_sections : ℕ
most_sections = 1_024
