-- The limit of a history, as a number. The constant of the code is proved to be this (`limits_are_stated`).
use Rattle.std.specs.Prelude.{ℕ}

-- the most statements that remain
abbrev pub most_remaining : ℕ
most_remaining = 65_535
