-- What is wrong with the lines of a delta file that is surveyed: with each, what judging it gives over the table, and with the block,
-- that the lines before it left (the project's own).
use Rattle.std.specs.Prelude.{◌≡◌, ℕ, zero, suc, Bool, true, false, not, nat_le, if◌then◌else◌}
use Rattle.std.specs.Prelude.{List, [], ◌∷◌, ◌++◌, length, map, get_or, reverse}
use Rattle.std.specs.Prelude.{Option, Some, None, is_none, option_map}
use Rattle.std.specs.Prelude.{Result, Ok, Err}
use Rattle.std.specs.List.{fold, list_any}
use Rattle.coll_devices.specs.PhysicalLines.{lines_of}
use Rattle.coll_lex.specs.declared.early_ends.EarlyEnd.{EarlyEnd}
use Rattle.coll_lex.specs.declared.tokens.Token.{Token}
use Rattle.coll_syntax.specs.DeltaLines.{delta_line}
use Rattle.coll_requests.specs.DeltaFaults.{early_fault}
use Rattle.coll_requests.specs.Limits.{most_block_lines}
use Rattle.coll_requests.specs.declared.delta_faults.DeltaFault.{DeltaFault}
use Rattle.coll_syntax.specs.Identifier.{same_id}
use Rattle.coll_syntax.specs.Proper.{is_proper}
use Rattle.coll_syntax.specs.declared.identifiers.Id.{Id}
use Rattle.coll_syntax.specs.declared.lines.DeltaLine.{DeltaLine}
use Rattle.coll_syntax.specs.declared.lines.DeltaLine.TheVariants as line
use Rattle.coll_syntax.specs.declared.statements.OrderLine.{OrderLine}
use Rattle.coll_syntax.specs.declared.statements.Statement.{Statement}
use Rattle.coll_syntax.specs.declared.statements.Statement.TheVariants as statement
use Rattle.coll_syntax.specs.declared.syntax_faults.SyntaxFault.{SyntaxFault}
use Rattle.coll_syntax.specs.declared.syntax_faults.SyntaxFault.TheVariants.{BlockTooLong}
use Rattle.coll_nodes.specs.OwnNames.{own_id}
use Rattle.coll_nodes.specs.Table.{Collation}
use Rattle.coll_nodes.specs.TableLayout.{collation}
use Rattle.coll_table.specs.Delta.{delta}
use Rattle.coll_table.specs.declared.refusals.Refusal.{Refusal}
use Rattle.coll_table.specs.declared.refusals.Refusal.TheVariants.{NotDeclared, SymbolWithWeights, TooManyWeights, WeightNotPlaced}
use Rattle.coll_advice.specs.Faults.{block_ids, faults}
use Rattle.coll_advice.specs.LineFaults.{line_fault}
use Rattle.coll_advice.specs.declared.found.Found.{Found}
use Rattle.coll_faults.specs.Faults.{delta_fault_of}
use Rattle.coll_faults.specs.declared.faults.Fault.TheVariants as fault
use Rattle.coll_findings.specs.SurveyedLines.{Given, Handed, Refused, ended_early, first_lines, handed_on}
use Rattle.coll_findings.specs.ToldFaults.{LineFault, Tells, at_line}
use Rattle.coll_surveys.specs.declared.delta_surveys.DeltaSurvey.{DeltaSurvey}
use Rattle.coll_findings.specs.declared.findings.FoundFault.{FoundFault}
use Rattle.coll_findings.specs.declared.line_surveys.Opening.{Opening}
use Rattle.coll_findings.specs.declared.line_surveys.Opening.TheVariants as opening
use Rattle.coll_surveys.specs.declared.open_blocks.EndedBlock.{EndedBlock}
use Rattle.coll_surveys.specs.declared.open_blocks.OpenBlock.{OpenBlock}

-- Where a survey stands.

-- a block that is open: the number of its first line, what its lines are placed behind, unless its first line was refused, its order
-- lines, the number of each, and whether it had one too many
pub record BlockState : Type 0 where
  pub begins : ℕ
  pub target : Option Id
  pub lines : List OrderLine
  pub numbers : List ℕ
  pub overfull : Bool

abbrev pub block_state : OpenBlock → BlockState
block_state block = record {
  begins = block.begins;
  target = block.target;
  lines = block.lines.items;
  numbers = block.numbers.items;
  overfull = block.overfull;
}

-- what the lines so far left: the table, and the block that is open, if one is
pub record DeltaState : Type 0 where
  pub table : Collation
  pub block : Option BlockState

-- before the first line, over this table
abbrev pub first_state : Collation → DeltaState
first_state table = record { table = table; block = None }

-- the faults that a survey told, and the table and the block that the lines so far left
abbrev pub faults_told : DeltaSurvey → List FoundFault
faults_told survey = survey.told.told.faults.items

abbrev pub table_left : DeltaSurvey → Collation
table_left survey = collation survey.table

abbrev pub block_left : DeltaSurvey → Option BlockState
block_left survey = option_map block_state survey.block

abbrev pub delta_state : DeltaSurvey → DeltaState
delta_state survey = record { table = table_left survey; block = block_left survey }

-- Statements.

-- the line at which a fault of a statement stands that begins at a line: that of its order line, if it is one's
abbrev pub line_of : (begins : ℕ) → (numbers : List ℕ) → (place : Option ℕ) → ℕ
line_of begins numbers None = begins
line_of begins numbers (Some place) = get_or numbers place begins

-- a fault of a statement, at its line
abbrev pub found_fault : (begins : ℕ) → (numbers : List ℕ) → Found → LineFault
found_fault begins numbers found = record { begins = begins; line = line_of begins numbers found.line; fault = fault.Table found.refusal }

-- the faults of a statement whose order lines have these numbers; what no line of a text can spell has none
abbrev pub statement_faults : Collation → (begins : ℕ) → (numbers : List ℕ) → Statement → List LineFault
statement_faults table begins numbers s = if is_proper s then map (found_fault begins numbers) (faults table s) else []

-- what a table answers a statement
abbrev pub answer_faults : ℕ → Result Collation Refusal → List LineFault
answer_faults number (Ok after) = []
answer_faults number (Err refusal) = at_line number (fault.Table refusal) ∷ []

abbrev pub refused_faults : Collation → ℕ → Statement → List LineFault
refused_faults table number s = if is_proper s then answer_faults number (delta table s) else []

-- Blocks.

-- a block that has ended: the number of its first line, what it says, and the numbers of its order lines
pub record EndedState : Type 0 where
  pub begins : ℕ
  pub statement : Statement
  pub numbers : List ℕ

abbrev pub ended_state : EndedBlock → EndedState
ended_state block = record { begins = block.begins; statement = block.statement; numbers = block.numbers.items }

-- a block that ends says nothing where its first line was refused
abbrev pub ended_block : BlockState → Option EndedState
ended_block block =
    option_map (λ (target : Id). record {
      begins = block.begins;
      statement = statement.Block target block.lines;
      numbers = block.numbers;
    }) block.target

-- the faults of a block that has ended
abbrev pub ended_faults : Collation → Option EndedState → List LineFault
ended_faults table None = []
ended_faults table (Some block) = statement_faults table block.begins block.numbers block.statement

-- the faults of the block that is open, if one is, where it ends
abbrev pub block_faults : Collation → Option BlockState → List LineFault
block_faults table None = []
block_faults table (Some block) = ended_faults table (ended_block block)

-- Lines.

-- that a line may not stand in the block that is open, if one is
abbrev pub open_faults : Option BlockState → ℕ → List LineFault
open_faults None number = []
open_faults (Some block) number = at_line number fault.BlockOpen ∷ []

-- a statement that is a line of its own
abbrev pub alone_faults : Collation → Option BlockState → ℕ → Statement → List LineFault
alone_faults table block number s = open_faults block number ++ statement_faults table number [] s

-- an order line that the block can't take: the first one that is too many
abbrev pub many_faults : BlockState → ℕ → List LineFault
many_faults block number =
    if nat_le most_block_lines (length block.lines)
    then (if block.overfull then [] else at_line number (fault.Syntax BlockTooLong) ∷ []) else []

-- an order line: one of the block that is open, or a statement
abbrev pub order_faults : Collation → Option BlockState → ℕ → OrderLine → List LineFault
order_faults table None number order = statement_faults table number [] (statement.Reweight order)
order_faults table (Some block) number order = many_faults block number

-- `reorder-end`
abbrev pub end_faults : Collation → Option BlockState → ℕ → List LineFault
end_faults table None number = at_line number fault.NoBlock ∷ []
end_faults table (Some block) number = block_faults table (Some block)

-- the end of the category
abbrev pub category_faults : Collation → Option BlockState → ℕ → List LineFault
category_faults table None number = []
category_faults table (Some block) number = block_faults table (Some block) ++ at_line number fault.BlockNotEnded ∷ []

-- a line that the grammar accepts
abbrev pub line_faults : Collation → Option BlockState → ℕ → DeltaLine → List LineFault
line_faults table block number (line.Symbol name) = alone_faults table block number (statement.Symbol name)
line_faults table block number (line.Element name text) = alone_faults table block number (statement.Element name text)
line_faults table block number (line.Equivalence name symbol) = alone_faults table block number (statement.Equivalence name symbol)
line_faults table block number (line.SectionAfter moved after) = alone_faults table block number (statement.SectionAfter moved after)
line_faults table block number (line.ReorderAfter target) = block_faults table block
line_faults table block number (line.Order order) = order_faults table block number order
line_faults table block number line.ReorderEnd = end_faults table block number
line_faults table block number line.EndCategory = category_faults table block number
line_faults table block number line.Script = open_faults block number
line_faults table block number line.Copy = open_faults block number
line_faults table block number line.Category = open_faults block number

-- what a refused line ends, by what it begins with
abbrev pub passed_faults : Collation → Option BlockState → Opening → List LineFault
passed_faults table block opening.Block = block_faults table block
passed_faults table block opening.BlockEnd = block_faults table block
passed_faults table block opening.Other = []

-- a line, as the grammar reads it
abbrev pub read_faults : Collation → Option BlockState → ℕ → Opening → Result DeltaLine SyntaxFault → List LineFault
read_faults table block number begins (Ok read) = line_faults table block number read
read_faults table block number begins (Err f) = at_line number (fault.Syntax f) ∷ passed_faults table block begins

-- a line of these tokens, which begins so
abbrev pub faults_of_line : Collation → Option BlockState → ℕ → Opening → List Token → List LineFault
faults_of_line table block number begins tokens = read_faults table block number begins (delta_line tokens)

-- a line that is handed on
abbrev pub faults_by : Collation → Option BlockState → Handed → List LineFault
faults_by table block (Given number begins tokens) = faults_of_line table block number begins tokens
faults_by table block (Refused number begins f) = at_line number (fault.Lex f) ∷ passed_faults table block begins

-- What a statement leaves.

-- the table behind a statement that it answers so: where it refuses it, it is as it was
abbrev pub table_after : Collation → Result Collation Refusal → Collation
table_after table (Ok after) = after
table_after table (Err refusal) = table

-- the table behind a statement that is put to it; what no line of a text can spell isn't
abbrev pub table_behind : Collation → Statement → Collation
table_behind table s = if is_proper s then table_after table (delta table s) else table

-- What a block leaves.

-- something is wrong that is no line's
abbrev pub is_of_no_line : Found → Bool
is_of_no_line found = is_none found.line

-- what is told as not declared is another identifier than that of its line
abbrev pub is_another : (undeclared : Option Id) → Id → Bool
is_another None id = false
is_another (Some undeclared) id = not (same_id undeclared id)

-- a refusal is one of the weights alone of a line with this identifier
abbrev pub is_of_weights : Refusal → (undeclared : Option Id) → Id → Bool
is_of_weights SymbolWithWeights undeclared id = true
is_of_weights TooManyWeights undeclared id = true
is_of_weights WeightNotPlaced undeclared id = true
is_of_weights NotDeclared undeclared id = is_another undeclared id
is_of_weights _ undeclared id = false

-- what is left of a line with this fault, if it has one: the line without its weights, where these alone are at fault, and else nothing
abbrev pub mended_line : OrderLine → Option Found → List OrderLine
mended_line line None = line ∷ []
mended_line line (Some found) = if is_of_weights found.refusal found.id line.id then record line { weights = None } ∷ [] else []

-- what is left of the lines of a block, from the one with this number on, as each is judged (`line_faults` of coll_advice)
abbrev pub mended_lines : Collation → (number : ℕ) → (before all : List Id) → List OrderLine → List OrderLine
mended_lines table number before all [] = []
mended_lines table number before all (line ∷ lines) =
    mended_line line (line_fault table number before all line)
    ++ mended_lines table (suc number) (before ++ own_id table.declared line.id ∷ []) all lines

-- what is left of a block
abbrev pub mended_block : Collation → (target : Id) → List OrderLine → Statement
mended_block table target lines =
    statement.Block target (mended_lines table zero (own_id table.declared target ∷ []) (block_ids table target lines) lines)

-- the table behind a block that it refuses: what is left of that is put to it, unless something is wrong that is no line's
unfoldable pub table_mended : Collation → Statement → Collation
table_mended table (statement.Block target lines) =
    if list_any is_of_no_line (faults table (statement.Block target lines)) then table
    else table_behind table (mended_block table target lines)
table_mended table _ = table

-- the table behind a block that it answers so
abbrev pub answered_block : Collation → Statement → Result Collation Refusal → Collation
answered_block table s (Ok after) = after
answered_block table s (Err refusal) = table_mended table s

-- the table behind a block that is put to it
abbrev pub table_behind_block : Collation → Statement → Collation
table_behind_block table s = if is_proper s then answered_block table s (delta table s) else table

-- the table behind a block that has ended
abbrev pub ended_left : Collation → Option EndedState → Collation
ended_left table None = table
ended_left table (Some block) = table_behind_block table block.statement

-- the table behind the block that is open, if one is, where it ends
abbrev pub closed_left : Collation → Option BlockState → Collation
closed_left table None = table
closed_left table (Some block) = ended_left table (ended_block block)

-- Blocks as they are mended: each fault that was found is taken out, the last one first, so that the lines before it keep their places.

-- lines without the one at this place, or without its weights, where these alone are at fault
abbrev pub without_fault_at : (place : ℕ) → Found → List OrderLine → List OrderLine
without_fault_at place found [] = []
without_fault_at zero found (line ∷ lines) = mended_line line (Some found) ++ lines
without_fault_at (suc place) found (line ∷ lines) = line ∷ without_fault_at place found lines

abbrev pub without_found : (place : Option ℕ) → Found → List OrderLine → List OrderLine
without_found None found lines = lines
without_found (Some place) found lines = without_fault_at place found lines

abbrev pub without_fault : List OrderLine → Found → List OrderLine
without_fault lines found = without_found found.line found lines

abbrev pub without_faults : List OrderLine → List Found → List OrderLine
without_faults lines found = fold without_fault lines (reverse found)

-- a block without the lines at fault
abbrev pub without_lines : Statement → List Found → Option Statement
without_lines (statement.Block target lines) found = Some (statement.Block target (without_faults lines found))
without_lines _ found = None

-- what is left of a block with these faults, if something is
abbrev pub mended : Statement → List Found → Option Statement
mended s found = if list_any is_of_no_line found then None else without_lines s found

-- the table behind what is left, if something is
abbrev pub table_behind_left : Collation → Option Statement → Collation
table_behind_left table None = table
table_behind_left table (Some s) = table_behind table s

-- What a line leaves.

-- the block that is open, if one is, has ended
abbrev pub closed : DeltaState → DeltaState
closed s = record { table = closed_left s.table s.block; block = None }

-- a block that begins at a line, behind this target
abbrev pub first_block : (begins : ℕ) → Option Id → BlockState
first_block begins target = record { begins = begins; target = target; lines = []; numbers = []; overfull = false }

-- a block begins, and ends the one that is open
abbrev pub opened : DeltaState → ℕ → Option Id → DeltaState
opened s number target = record { table = closed_left s.table s.block; block = Some (first_block number target) }

-- a statement that is a line of its own, also in an open block
abbrev pub left_alone : DeltaState → Statement → DeltaState
left_alone s stated = record s { table = table_behind s.table stated }

-- a block with an order line more
abbrev pub with_order : BlockState → ℕ → OrderLine → BlockState
with_order block number order = record block { lines = block.lines ++ order ∷ []; numbers = block.numbers ++ number ∷ [] }

-- the same, unless it has all that it may have
abbrev pub with_order_if : BlockState → ℕ → OrderLine → BlockState
with_order_if block number order =
    if nat_le most_block_lines (length block.lines) then record block { overfull = true } else with_order block number order

-- an order line: it stands in the block that is open, or alone
abbrev pub left_by_order : Collation → Option BlockState → ℕ → OrderLine → DeltaState
left_by_order table None number order = record { table = table_behind table (statement.Reweight order); block = None }
left_by_order table (Some block) number order = record { table = table; block = Some (with_order_if block number order) }

-- a line that the grammar accepts
abbrev pub left_by_line : DeltaState → ℕ → DeltaLine → DeltaState
left_by_line s number (line.Symbol name) = left_alone s (statement.Symbol name)
left_by_line s number (line.Element name text) = left_alone s (statement.Element name text)
left_by_line s number (line.Equivalence name symbol) = left_alone s (statement.Equivalence name symbol)
left_by_line s number (line.SectionAfter moved after) = left_alone s (statement.SectionAfter moved after)
left_by_line s number (line.ReorderAfter target) = opened s number (Some target)
left_by_line s number (line.Order order) = left_by_order s.table s.block number order
left_by_line s number line.ReorderEnd = closed s
left_by_line s number line.EndCategory = closed s
left_by_line s number line.Script = s
left_by_line s number line.Copy = s
left_by_line s number line.Category = s

-- the same of a line that is a keyword alone
abbrev pub left_by_bare : DeltaState → DeltaLine → DeltaState
left_by_bare s line.ReorderEnd = closed s
left_by_bare s line.EndCategory = closed s
left_by_bare s _ = s

-- a refused line, by what it begins with: the target of a block that it opens isn't known
abbrev pub left_passed : DeltaState → ℕ → Opening → DeltaState
left_passed s number opening.Block = opened s number None
left_passed s number opening.BlockEnd = closed s
left_passed s number opening.Other = s

-- a line, as the grammar reads it
abbrev pub left_read : DeltaState → ℕ → Opening → Result DeltaLine SyntaxFault → DeltaState
left_read s number begins (Ok read) = left_by_line s number read
left_read s number begins (Err f) = left_passed s number begins

-- a line that is handed on
abbrev pub left_by : DeltaState → Handed → DeltaState
left_by s (Given number begins tokens) = left_read s number begins (delta_line tokens)
left_by s (Refused number begins f) = left_passed s number begins

-- what is told of a line that is handed on is what is wrong with it, over the table and with the block that the lines before it left
pub record TellsDeltaLine (old : DeltaSurvey) (handed : Handed) (new : DeltaSurvey) : Type 0 where
  pub told : Tells (faults_told old) (faults_told new) (faults_by (table_left old) (block_left old) handed)
  pub left : delta_state new ≡ left_by (delta_state old) handed

-- a line ends the category, as the grammar reads it
abbrev pub is_delta_end : DeltaLine → Bool
is_delta_end line.EndCategory = true
is_delta_end _ = false

abbrev pub ends_read : Result DeltaLine SyntaxFault → Bool
ends_read (Ok read) = is_delta_end read
ends_read (Err f) = false

abbrev pub ends_delta : List Token → Bool
ends_delta tokens = ends_read (delta_line tokens)

-- All lines of a text.

-- the lines of a text, as a survey is handed them
abbrev pub delta_lines : (text : List ℕ) → List Handed
delta_lines text = handed_on ends_delta first_lines (lines_of text)

-- what is wrong with each line, over what the lines before it left
unfoldable pub lines_faults : DeltaState → List Handed → List LineFault
lines_faults s [] = []
lines_faults s (handed ∷ later) = faults_by s.table s.block handed ++ lines_faults (left_by s handed) later

-- what lines leave
unfoldable pub lines_left : DeltaState → List Handed → DeltaState
lines_left s [] = s
lines_left s (handed ∷ later) = lines_left (left_by s handed) later

-- how a text ends of which the category doesn't, behind what is wrong with the block that is open
abbrev pub early_faults : Collation → Option BlockState → DeltaFault → List LineFault
early_faults table block end = block_faults table block ++ at_line end.line (delta_fault_of end.line end.cause) ∷ []

abbrev pub text_end_faults : DeltaState → Option EarlyEnd → List LineFault
text_end_faults s None = []
text_end_faults s (Some end) = early_faults s.table s.block (early_fault end)

-- what the end of a text leaves of which the category doesn't end
abbrev pub text_end_left : DeltaState → Option EarlyEnd → DeltaState
text_end_left s None = s
text_end_left s (Some end) = closed s

-- how a text ends, unless its category does
abbrev pub delta_end : (text : List ℕ) → Option EarlyEnd
delta_end text = ended_early ends_delta first_lines (lines_of text)

-- what is wrong with the lines of a text, from what stands before them, and then with its end
abbrev pub text_faults : DeltaState → (text : List ℕ) → List LineFault
text_faults s text = lines_faults s (delta_lines text) ++ text_end_faults (lines_left s (delta_lines text)) (delta_end text)

-- what a text leaves
abbrev pub text_left : DeltaState → (text : List ℕ) → DeltaState
text_left s text = text_end_left (lines_left s (delta_lines text)) (delta_end text)

-- all that is wrong with a delta file over a table, and the table that it leaves
abbrev pub delta_faults : Collation → (text : List ℕ) → List LineFault
delta_faults table text = text_faults (first_state table) text

abbrev pub delta_left : Collation → (text : List ℕ) → Collation
delta_left table text = (text_left (first_state table) text).table
