-- The limits of blocks, as numbers. The constants of the code are proved to be these (`limits_are_stated`).
use Rattle.std.specs.Prelude.{ℕ}

-- the most order lines of a block (the project's own limit)
abbrev pub most_block_lines : ℕ
most_block_lines = 4096
