-- What a delta file says: its statements with the lines that they begin at, up to the end of its category or the first fault
-- (category lines as in POSIX.1-2017, 7.3; the rest is the project's own).
use Rattle.std.specs.Prelude.{ℕ, Bool, true, false, if◌then◌else◌, List, [], ◌∷◌, ◌++◌, map, length, Option, Some, None, Result, Ok, Err}
use Rattle.std.specs.List.{flat_map}
use Rattle.coll_lex.specs.LogicalLines.{LexerState, first_state, number_of, outside, logical_lines}
use Rattle.coll_lex.specs.declared.faults.LexFault.{LexFault}
use Rattle.coll_requests.specs.SessionLines.{delta_file_parsed}
use Rattle.coll_requests.specs.Requests.{BlockLines, fault_at, spoils, ended_request, requests_at, block_after}
use Rattle.coll_requests.specs.declared.delta_faults.DeltaFault.{DeltaFault}
use Rattle.coll_requests.specs.declared.delta_faults.DeltaCause.{DeltaCause}
use Rattle.coll_requests.specs.declared.delta_faults.DeltaCause.TheVariants.{Request as RequestCause, NoCategory, NoEnd}
use Rattle.coll_requests.specs.declared.delta_files.StatementAt.{StatementAt}
use Rattle.coll_requests.specs.declared.request_faults.RequestFault.TheVariants as fault
use Rattle.coll_requests.specs.declared.session_lines.StandaloneLine.{StandaloneLine}
use Rattle.coll_requests.specs.declared.session_lines.StandaloneLine.TheVariants as standalone
use Rattle.coll_requests.specs.declared.session_lines.Opening.TheVariants as opening
use Rattle.coll_requests.specs.declared.session_lines.Parsed.{Parsed}
use Rattle.coll_requests.specs.declared.session_lines.Parsed.TheVariants as parsed
use Rattle.coll_requests.specs.declared.session_lines.ParsedLine.{ParsedLine}
use Rattle.coll_requests.specs.declared.requests.FaultAt.{FaultAt}
use Rattle.coll_requests.specs.declared.requests.Request.{Request}
use Rattle.coll_requests.specs.declared.requests.Request.TheVariants as kind
use Rattle.coll_requests.specs.declared.requests.RequestAt.{RequestAt}

-- a fault of a line
abbrev pub at_line : ℕ → DeltaCause → DeltaFault
at_line number cause = record { line = number; cause = cause }

-- a fault of a line or of a block, in a delta file
abbrev pub file_fault : FaultAt → DeltaFault
file_fault at = at_line at.line (RequestCause at.fault)

-- how lines of a delta file end: with the category, with a fault, or with neither yet, and then the cause of the fault if the
-- text ends with them
pub data DeltaEnd : Type 0 where
  Ended : DeltaEnd
  AtFault : DeltaFault → DeltaEnd
  Undecided : DeltaCause → DeltaEnd

-- what lines of a delta file say
pub record DeltaOutcome : Type 0 where
  pub statements : List StatementAt
  pub ending : DeltaEnd

-- lines that say no statement and end so
abbrev pub ends_so : DeltaEnd → DeltaOutcome
ends_so ending = record { statements = []; ending = ending }

-- some statements, and then what later lines say
abbrev pub after_statements : List StatementAt → DeltaOutcome → DeltaOutcome
after_statements given later = record { statements = given ++ later.statements; ending = later.ending }

-- the statement of a request, if it has one
abbrev pub statement_in : ℕ → Request → List StatementAt
statement_in line (kind.Command c) = []
statement_in line (kind.Statement s) = record { line = line; statement = s } ∷ []
statement_in line (kind.Refused f) = []

-- the statements among some requests
abbrev pub statements_in : List RequestAt → List StatementAt
statements_in us = flat_map (λ (u : RequestAt). statement_in u.line u.request) us

-- the fault of a line that no block takes, where one is open: the category can't end there
abbrev pub standalone_fault : ℕ → StandaloneLine → FaultAt
standalone_fault n (standalone.Statement s) = fault_at n fault.BlockOpen
standalone_fault n standalone.NoEffect = fault_at n fault.BlockOpen
standalone_fault n standalone.EndsCategory = fault_at n fault.BlockNotEnded

-- the fault of a line in an open block: a line that no block takes, or any other that spoils the block, is at fault at once
abbrev pub fault_inside : BlockLines → ℕ → Parsed → Option FaultAt
fault_inside block n (parsed.Stops f) = Some (fault_at n (fault.Lex f))
fault_inside block n (parsed.Refused o f) = Some (fault_at n f)
fault_inside block n (parsed.Command c) = None
fault_inside block n (parsed.BadCommand f) = None
fault_inside block n (parsed.BlockStart target) = None
fault_inside block n parsed.BlockEnd = None
fault_inside block n (parsed.OrderLine order) = spoils block.lines (record { number = n; parsed = parsed.OrderLine order })
fault_inside block n (parsed.Standalone a) = Some (standalone_fault n a)

-- the fault of a line where no block is open
abbrev pub fault_outside : ℕ → Parsed → Option FaultAt
fault_outside n (parsed.Stops f) = Some (fault_at n (fault.Lex f))
fault_outside n (parsed.Refused o f) = Some (fault_at n f)
fault_outside n (parsed.Command c) = None
fault_outside n (parsed.BadCommand f) = None
fault_outside n (parsed.BlockStart target) = None
fault_outside n parsed.BlockEnd = Some (fault_at n fault.NoBlock)
fault_outside n (parsed.OrderLine order) = None
fault_outside n (parsed.Standalone a) = None

-- the fault of a line, under the block that is open before it
abbrev pub fault_under : Option BlockLines → ParsedLine → Option FaultAt
fault_under None line = fault_outside line.number line.parsed
fault_under (Some block) line = fault_inside block line.number line.parsed

-- the request of the block that a line at fault ends, which comes before that fault: a refused line that begins with
-- `reorder-after` ends the block, and is none of it
abbrev pub ended_before : Option BlockLines → Parsed → List RequestAt
ended_before block (parsed.Refused opening.ReorderAfter f) = ended_request block
ended_before block _ = []

-- a line ends the category
abbrev pub ends_category : Parsed → Bool
ends_category (parsed.Standalone standalone.EndsCategory) = true
ends_category _ = false

-- what lines say of which this is the first, by its fault: a line without one completes its requests, and unless it ends the
-- category, the later lines follow
abbrev pub by_fault : Option BlockLines → ParsedLine → Option FaultAt → DeltaOutcome → DeltaOutcome
by_fault block line (Some at) later = after_statements (statements_in (ended_before block line.parsed)) (ends_so (AtFault (file_fault at)))
by_fault block line None later =
    after_statements (statements_in (requests_at block line)) (if ends_category line.parsed then ends_so Ended else later)

-- what lines of the category say, under the block that is open before them
unfoldable pub outcome_within : Option BlockLines → List ParsedLine → DeltaOutcome
outcome_within block [] = ends_so (Undecided NoEnd)
outcome_within block (line ∷ lines) = by_fault block line (fault_under block line) (outcome_within (block_after block line) lines)

-- what a physical line says that stands before the category, by whether the category begins with it
abbrev pub by_begin : ℕ → Result (Bool × LexerState) LexFault → (within outside : LexerState → DeltaOutcome) → DeltaOutcome
by_begin number (Ok (true, after)) within outside = within after
by_begin number (Ok (false, after)) within outside = outside after
by_begin number (Err f) within outside = ends_so (AtFault (at_line number (RequestCause (fault.Lex f))))

-- what physical lines say: those before the category are looked at alone, those of the category as logical lines; the test
-- says whether the text ends with them
unfoldable pub outcome_before : (ends : Bool) → LexerState → List (List ℕ) → DeltaOutcome
outcome_before ends s [] = ends_so (Undecided NoCategory)
outcome_before ends s (line ∷ lines) =
    by_begin (number_of s) (outside s line)
    (λ after. outcome_within None (map delta_file_parsed (logical_lines [] ends after lines)))
    (λ after. outcome_before ends after lines)

-- what the physical lines of a delta file say, from its first on
abbrev pub delta_outcome : (ends : Bool) → List (List ℕ) → DeltaOutcome
delta_outcome ends lines = outcome_before ends first_state lines

-- what a whole delta file says: its statements with their lines, and the fault that ends it, if one does
pub record DeltaRequests : Type 0 where
  pub statements : List StatementAt
  pub fault : Option DeltaFault

-- the fault of a file of so many lines, which may end too early
abbrev pub fault_at_end : ℕ → DeltaEnd → Option DeltaFault
fault_at_end count Ended = None
fault_at_end count (AtFault f) = Some f
fault_at_end count (Undecided cause) = Some (at_line count cause)

-- what a delta file of these physical lines says; nothing after the end of the category is looked at
unfoldable pub delta_requests : List (List ℕ) → DeltaRequests
delta_requests lines = record {
  statements = (delta_outcome true lines).statements;
  fault = fault_at_end (length lines) (delta_outcome true lines).ending;
}
