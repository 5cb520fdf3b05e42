-- The limits of texts and of names, as numbers. The constants of the code are proved to be these (`limits_are_stated`).
use Rattle.std.specs.Prelude.{ℕ}

-- most physical lines of a text
abbrev pub most_lines : ℕ
most_lines = 4194304

-- most characters of a name
abbrev pub most_name_chars : ℕ
most_name_chars = 64
