-- The law of imported delta files (the project's own): a batch takes the file for the table that was tailored, without a fault, and its
-- table is then the one that the import made.
use Rattle.std.specs.Prelude.{◌≡◌, ◌≤◌, ℕ, List, All, length, Ok}
use Rattle.coll_lex.specs.Limits.{most_lines}
use Rattle.coll_syntax.specs.declared.statements.Statement.{Statement}
use Rattle.coll_nodes.specs.Table.{Collation}
use Rattle.coll_delta_texts.specs.DeltaText.{delta_lines, delta_text}
use Rattle.coll_delta_texts.specs.Writable.{IsCopyName, IsWritable}
use Rattle.coll_tailorings.specs.Rewriting.{rewritten}
use Rattle.coll_bench.specs.BatchOutcome.{after_delta}

-- a delta file that is written of statements which rewrite a table rewrites it so, whichever input it is
abbrev pub WrittenDeltasAreAccepted : Type 0
WrittenDeltasAreAccepted = (table after : Collation) (copies : List (List ℕ)) (statements : List Statement)
    → All IsCopyName copies → All IsWritable statements → length (delta_lines copies statements) ≤ most_lines
    → rewritten table statements ≡ Ok after → (input : ℕ) → after_delta input table (delta_text copies statements) ≡ Ok after
