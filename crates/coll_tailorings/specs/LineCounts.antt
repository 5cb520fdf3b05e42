-- How many lines statements have in a delta file.
use Rattle.std.specs.Prelude.{ℕ, List, length}
use Rattle.std.specs.List.{flat_map}
use Rattle.coll_syntax.specs.declared.statements.Statement.{Statement}
use Rattle.coll_texts.specs.StatementText.{statement_lines}

-- the number of lines of statements
abbrev pub line_count : List Statement → ℕ
line_count statements = length (flat_map statement_lines statements)
