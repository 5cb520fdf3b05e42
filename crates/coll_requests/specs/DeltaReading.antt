-- A delta file handed in line by line: what is stored of the lines before, and what one more line makes of it.
use Rattle.std.specs.Prelude.{◌≡◌, ℕ, Bool, true, false, IsTrue, ◌&&◌, ◌||◌, ◌⊎◌, if◌then◌else◌, List}
use Rattle.std.specs.Prelude.{[], ◌∷◌, ◌++◌, Option, Some, None, is_some, Result, Ok, Err}
use Rattle.coll_lex.specs.EarlyEnds.{ends_at}
use Rattle.coll_lex.specs.LogicalLines.{LexerState, OpenLine, first_state, number_of, outside, fed, takes_memory, state_by}
use Rattle.coll_lex.specs.declared.faults.LexFault.{LexFault}
use Rattle.coll_syntax.specs.declared.syntax_faults.SyntaxFault.TheVariants as syntax
use Rattle.coll_requests.specs.DeltaFaults.{early_fault}
use Rattle.coll_requests.specs.Parsing.{parsed_in}
use Rattle.coll_requests.specs.RequestFaults.{is_lack_of_memory}
use Rattle.coll_requests.specs.Requests.{fault_at}
use Rattle.coll_requests.specs.OpenBlocks.{is_full, dropped_by_status, kept_after, kept_requests_at, kept_ended}
use Rattle.coll_requests.specs.DeltaFiles.{DeltaEnd, Ended, AtFault, Undecided, DeltaOutcome, DeltaRequests, at_line}
use Rattle.coll_requests.specs.DeltaFiles.{ends_so, after_statements, file_fault, statements_in, standalone_fault}
use Rattle.coll_requests.specs.DeltaFiles.{fault_outside, ends_category, delta_outcome, delta_requests}
use Rattle.coll_requests.specs.declared.delta_faults.DeltaFault.{DeltaFault}
use Rattle.coll_requests.specs.declared.delta_faults.DeltaCause.TheVariants.{Request as RequestCause, NoCategory, NoEnd}
use Rattle.coll_requests.specs.declared.delta_files.StatementAt.{StatementAt}
use Rattle.coll_requests.specs.declared.open_blocks.OpenBlock.{OpenBlock}
use Rattle.coll_requests.specs.declared.open_blocks.BlockStatus.{BlockStatus}
use Rattle.coll_requests.specs.declared.open_blocks.BlockStatus.TheVariants.{Building, Spoiled, Starved}
use Rattle.coll_requests.specs.declared.request_faults.RequestFault.TheVariants as fault
use Rattle.coll_requests.specs.declared.session_lines.Opening.TheVariants as opening
use Rattle.coll_requests.specs.declared.session_lines.Parsed.{Parsed}
use Rattle.coll_requests.specs.declared.session_lines.Parsed.TheVariants as parsed
use Rattle.coll_requests.specs.declared.session_lines.ParsedLine.{ParsedLine}
use Rattle.coll_requests.specs.declared.requests.FaultAt.{FaultAt}
use Rattle.coll_requests.specs.declared.requests.Request.{Request}
use Rattle.coll_requests.specs.declared.requests.Request.TheVariants as kind
use Rattle.coll_requests.specs.declared.requests.RequestAt.{RequestAt}

-- what is stored: where the lexer stands, whether the category has begun, and has ended, what is kept of the block that is
-- open, and the first fault
pub record DeltaState : Type 0 where
  pub lexer : LexerState
  pub begun : Bool
  pub ended : Bool
  pub block : Option OpenBlock
  pub fault : Option DeltaFault

-- before the first line
abbrev pub first_delta : DeltaState
first_delta = record { lexer = first_state; begun = false; ended = false; block = None; fault = None }

-- a block that no line has spoiled
abbrev pub Unspoiled : BlockStatus → Type 0
Unspoiled (Building g) = Unit {0}
Unspoiled (Spoiled at) = ⊥
Unspoiled (Starved line) = ⊥

-- the block that is open, if one is, isn't spoiled
abbrev pub IsUnspoiled : Option OpenBlock → Type 0
IsUnspoiled None = Unit {0}
IsUnspoiled (Some block) = Unspoiled block.status

-- what holds of every reader: no line has spoiled the block that is open
abbrev pub IsSoundDelta : DeltaState → Type 0
IsSoundDelta s = IsUnspoiled s.block

-- what is given for a line and what is stored then, or the line's fault
abbrev pub Step : Type 0
Step = Result (List StatementAt × DeltaState) DeltaFault

-- the fault of a line in a block that is kept
abbrev pub kept_fault_inside : OpenBlock → ℕ → Parsed → Option FaultAt
kept_fault_inside block n (parsed.Stops f) = Some (fault_at n (fault.Lex f))
kept_fault_inside block n (parsed.Refused o f) = Some (fault_at n f)
kept_fault_inside block n (parsed.Command c) = None
kept_fault_inside block n (parsed.BadCommand f) = None
kept_fault_inside block n (parsed.BlockStart target) = None
kept_fault_inside block n parsed.BlockEnd = None
kept_fault_inside block n (parsed.OrderLine order) =
    if is_full block.status then Some (fault_at n (fault.Syntax syntax.BlockTooLong)) else None
kept_fault_inside block n (parsed.Standalone a) = Some (standalone_fault n a)

-- the fault of a line, by the block that is kept before it
abbrev pub kept_fault_under : Option OpenBlock → ParsedLine → Option FaultAt
kept_fault_under None line = fault_outside line.number line.parsed
kept_fault_under (Some block) line = kept_fault_inside block line.number line.parsed

-- the request of the block that a line at fault ends, which comes before that fault
abbrev pub kept_ended_before : Option OpenBlock → Parsed → List RequestAt
kept_ended_before block (parsed.Refused opening.ReorderAfter f) = kept_ended block
kept_ended_before block _ = []

-- a line at fault: the statement of the block that it ends, if it ends one, is given first, and the fault is stored
abbrev pub faulty : DeltaState → DeltaFault → List StatementAt → Step
faulty s f [] = Err f
faulty s f (given ∷ more) = Ok (given ∷ more, record s { block = None; fault = Some f })

-- a line of the category, by its fault
abbrev pub judged : DeltaState → ParsedLine → Option FaultAt → Step
judged s line (Some at) = faulty s (file_fault at) (statements_in (kept_ended_before s.block line.parsed))
judged s line None = Ok (
  statements_in (kept_requests_at s.block line),
  record s { block = kept_after s.block line; ended = ends_category line.parsed },
)

-- a physical line of the category, by what is parsed of it
abbrev pub by_parsed : DeltaState → Option ParsedLine → Step
by_parsed s None = Ok ([], s)
by_parsed s (Some line) = judged s line (kept_fault_under s.block line)

-- a physical line of the category
abbrev pub by_physical : DeltaState → List ℕ → Step
by_physical s line = by_parsed (record s { lexer = state_by s.lexer (fed s.lexer line) }) (parsed_in false false s.lexer line)

-- a physical line before the category, by what the lexer says of it
abbrev pub by_outside : DeltaState → Result (Bool × LexerState) LexFault → Step
by_outside s (Ok (begins, after)) = Ok ([], record s { lexer = after; begun = begins })
by_outside s (Err f) = Err (at_line (number_of s.lexer) (RequestCause (fault.Lex f)))

-- a physical line, by where it stands: behind the category, in it, or before it
abbrev pub by_where : DeltaState → List ℕ → Step
by_where s line =
    if s.ended then Ok ([], s)
    else (if s.begun then by_physical s line
    else by_outside s (outside s.lexer line))

-- a fault that stands, or the step
abbrev pub unless_faulty : Option DeltaFault → Step → Step
unless_faulty (Some f) step = Err f
unless_faulty None step = step

-- what is given for one more line and what is stored then, or the fault
unfoldable pub delta_line : DeltaState → List ℕ → Step
delta_line s line = unless_faulty s.fault (by_where s line)

-- the fault of a file that ends here: of a line that is left open, or of the end
abbrev pub early_end : DeltaState → Option OpenLine → DeltaFault
early_end s left = early_fault (ends_at s.begun s.lexer.count left)

-- the fault at the end of the file, unless one stands
abbrev pub or_at_end : Option DeltaFault → Option DeltaFault → Option DeltaFault
or_at_end (Some f) own = Some f
or_at_end None own = own

-- the fault with which the file ends here, if it has one
unfoldable pub delta_end : DeltaState → Option DeltaFault
delta_end s = or_at_end s.fault (if s.ended then None else Some (early_end s s.lexer.line))

-- memory may be taken for a line: it stands in the category, and the lexer takes memory for it, as it does for each line that
-- ends a logical line with tokens
pub record MayTakeDelta (s : DeltaState) (line : List ℕ) : Type 0 where
  pub begun : s.begun ≡ true
  pub going : s.ended ≡ false
  pub taken : IsTrue (takes_memory s.lexer line)

-- the fault of a line, if it has one, is lack of memory
abbrev pub is_lack : Option FaultAt → Bool
is_lack None = false
is_lack (Some at) = is_lack_of_memory at.fault

-- an order line
abbrev pub is_order : Parsed → Bool
is_order (parsed.OrderLine order) = true
is_order _ = false

-- a line to which memory may be refused: it is refused for lack of memory, or is an order line
abbrev pub MayLackMemory : Option OpenBlock → ParsedLine → Type 0
MayLackMemory block line = (is_lack (kept_fault_under block line) ≡ true) ⊎ (is_order line.parsed ≡ true)

-- a request that is refused
abbrev pub refuses : Request → Bool
refuses (kind.Refused f) = true
refuses _ = false

-- a request that is refused
abbrev pub is_refused : Option RequestAt → Bool
is_refused None = false
is_refused (Some request) = refuses request.request

-- a block in which memory was refused to a line
abbrev pub is_starved : Option OpenBlock → Bool
is_starved None = false
is_starved (Some block) = is_some (dropped_by_status block.status)

-- memory was refused to a line, as what it leaves tells: it is an order line, and the block after it is starved, or the request
-- that it completes is refused
abbrev pub leaves_lack : (order : Bool) → Option OpenBlock → Option RequestAt → Bool
leaves_lack order block request = order && (is_starved block || is_refused request)

-- what follows a line, unless it is at fault
abbrev pub past_line : Step → (DeltaState → DeltaRequests) → DeltaRequests
past_line (Ok (given, after)) later = record { statements = given ++ (later after).statements; fault = (later after).fault }
past_line (Err f) later = record { statements = []; fault = Some f }

-- what is answered to lines that are handed in one after another, and then to the end
unfoldable pub answers_to : DeltaState → List (List ℕ) → DeltaRequests
answers_to s [] = record { statements = []; fault = delta_end s }
answers_to s (line ∷ lines) = past_line (delta_line s line) (λ after. answers_to after lines)

-- handing in the lines of a delta file one after another answers what the file says
abbrev pub DeltaLinesAreRead : Type 0
DeltaLinesAreRead = (lines : List (List ℕ)) → answers_to first_delta lines ≡ delta_requests lines

-- how the lines handed in so far end: with a fault, with the category, or with neither yet
abbrev pub end_from : DeltaState → Option DeltaFault → DeltaEnd
end_from s (Some f) = AtFault f
end_from s None = if s.ended then Ended else Undecided (if s.begun then NoEnd else NoCategory)

-- what follows a line, unless it is at fault, where the end of the file isn't seen
abbrev pub past_line_from : Step → (DeltaState → DeltaOutcome) → DeltaOutcome
past_line_from (Ok (given, after)) later = after_statements given (later after)
past_line_from (Err f) later = ends_so (AtFault f)

-- what is answered to lines that are handed in one after another
unfoldable pub answers_from : DeltaState → List (List ℕ) → DeltaOutcome
answers_from s [] = ends_so (end_from s s.fault)
answers_from s (line ∷ lines) = past_line_from (delta_line s line) (λ after. answers_from after lines)

-- handing in the first lines of a delta file one after another answers what these say
abbrev pub DeltaLinesAreTaken : Type 0
DeltaLinesAreTaken = (lines : List (List ℕ)) → answers_from first_delta lines ≡ delta_outcome false lines
