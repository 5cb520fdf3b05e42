-- The law of delta files: what is written of statements is read as these statements.
use Rattle.std.specs.Prelude.{◌≡◌, ℕ, ◌≤◌, List, All, map, length, None}
use Rattle.coll_devices.specs.PhysicalLines.{lines_of}
use Rattle.coll_lex.specs.Limits.{most_lines}
use Rattle.coll_syntax.specs.declared.statements.Statement.{Statement}
use Rattle.coll_requests.specs.DeltaFiles.{DeltaRequests, delta_requests}
use Rattle.coll_requests.specs.declared.delta_files.StatementAt.{StatementAt}
use Rattle.coll_delta_texts.specs.DeltaText.{delta_lines, delta_text}
use Rattle.coll_delta_texts.specs.Writable.{IsCopyName, IsWritable}

-- a delta file says these statements, in order, and is not at fault
abbrev pub SaysJust : List Statement → DeltaRequests → Type 0
SaysJust statements read = (map (λ (at : StatementAt). at.statement) read.statements ≡ statements) × (read.fault ≡ None)

-- the text of a delta file, where its copies and its statements can be written and its lines are no more than a text may have, says
-- just these statements
abbrev pub WrittenDeltasAreReadBack : Type 0
WrittenDeltasAreReadBack = (copies : List (List ℕ)) (statements : List Statement) → All IsCopyName copies → All IsWritable statements
    → length (delta_lines copies statements) ≤ most_lines → SaysJust statements (delta_requests (lines_of (delta_text copies statements)))
