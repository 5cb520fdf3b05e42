-- The limit of physical lines, as a number. The constant of the code is proved to be this (`limits_are_stated`).
use Rattle.std.specs.Prelude.{ℕ}

-- most bytes of a physical line, and of the physical lines of a continued line together
abbrev pub most_line_bytes : ℕ
most_line_bytes = 65536
