-- The requests of a session text: what its lines ask for, one after another, found apart from any table (the project's own;
-- `reorder-after` and `reorder-end` as in ISO/IEC 14651).
--
-- A block begins at an accepted `reorder-after`, or at a refused line whose first physical line begins with that
-- text, and ends at the next `reorder-end` or `reorder-after`, or refused line that begins with either. Its one
-- answer comes where it ends, and is judged from all of its lines.
use Rattle.std.specs.Prelude.{ℕ, Bool, nat_le, if◌then◌else◌, List, [], ◌∷◌, ◌++◌, map, length}
use Rattle.std.specs.Prelude.{Option, Some, None, option_to_list, Result, Ok, Err}
use Rattle.std.specs.List.{flat_map}
use Rattle.coll_lex.specs.declared.faults.LexFault.{LexFault}
use Rattle.coll_lex.specs.declared.faults.LexFault.TheVariants as lex
use Rattle.coll_syntax.specs.declared.identifiers.Id.{Id}
use Rattle.coll_syntax.specs.declared.syntax_faults.SyntaxFault.TheVariants as syntax
use Rattle.coll_syntax.specs.declared.statements.OrderLine.{OrderLine}
use Rattle.coll_syntax.specs.declared.statements.Statement.TheVariants as statement
use Rattle.coll_requests.specs.RequestFaults.{is_lack_of_memory}
use Rattle.coll_requests.specs.Limits.{most_block_lines}
use Rattle.coll_requests.specs.declared.request_faults.RequestFault.{RequestFault}
use Rattle.coll_requests.specs.declared.request_faults.RequestFault.TheVariants as fault
use Rattle.coll_requests.specs.declared.session_lines.StandaloneLine.{StandaloneLine}
use Rattle.coll_requests.specs.declared.session_lines.StandaloneLine.TheVariants as standalone
use Rattle.coll_requests.specs.declared.session_lines.Opening.TheVariants as opening
use Rattle.coll_requests.specs.declared.session_lines.Parsed.{Parsed}
use Rattle.coll_requests.specs.declared.session_lines.Parsed.TheVariants as parsed
use Rattle.coll_requests.specs.declared.session_lines.ParsedLine.{ParsedLine}
use Rattle.coll_requests.specs.declared.requests.Request.{Request}
use Rattle.coll_requests.specs.declared.requests.Request.TheVariants as kind
use Rattle.coll_requests.specs.declared.requests.RequestAt.{RequestAt}
use Rattle.coll_requests.specs.declared.requests.FaultAt.{FaultAt}

-- a request of this line, which asks for this
abbrev pub asked_at : ℕ → Request → RequestAt
asked_at line request = record { line = line; request = request }

-- a line with this fault
abbrev pub fault_at : ℕ → RequestFault → FaultAt
fault_at line f = record { line = line; fault = f }

-- the request of a line that is refused
abbrev pub refused_at : FaultAt → RequestAt
refused_at at = asked_at at.line (kind.Refused at.fault)

-- the order line that a line is, if it is one
abbrev pub order_by : Parsed → List OrderLine
order_by (parsed.Stops f) = []
order_by (parsed.Refused o f) = []
order_by (parsed.Command c) = []
order_by (parsed.BadCommand f) = []
order_by (parsed.BlockStart target) = []
order_by parsed.BlockEnd = []
order_by (parsed.OrderLine order) = order ∷ []
order_by (parsed.Standalone a) = []

-- the order lines among some lines
abbrev pub orders_in : List ParsedLine → List OrderLine
orders_in lines = flat_map (λ (line : ParsedLine). order_by line.parsed) lines

-- the refusal of a command, known or not, that a block is open around
abbrev pub command_refused_by : ℕ → Parsed → List RequestAt
command_refused_by line (parsed.Stops f) = []
command_refused_by line (parsed.Refused o f) = []
command_refused_by line (parsed.Command c) = refused_at (fault_at line fault.BlockOpen) ∷ []
command_refused_by line (parsed.BadCommand f) = refused_at (fault_at line fault.BlockOpen) ∷ []
command_refused_by line (parsed.BlockStart target) = []
command_refused_by line parsed.BlockEnd = []
command_refused_by line (parsed.OrderLine order) = []
command_refused_by line (parsed.Standalone a) = []

-- the refusals of the commands among some lines of a block
abbrev pub commands_refused_in : List ParsedLine → List RequestAt
commands_refused_in lines = flat_map (λ (line : ParsedLine). command_refused_by line.number line.parsed) lines

-- the first of two, if there is one
abbrev pub or_else : {A : Type 0} → Option A → Option A → Option A
or_else (Some x) later = Some x
or_else None later = later

-- the line, if it was refused for lack of memory
abbrev pub lack_by : ℕ → Parsed → Option ℕ
lack_by line (parsed.Stops f) = None
lack_by line (parsed.Refused o f) = if is_lack_of_memory f then Some line else None
lack_by line (parsed.Command c) = None
lack_by line (parsed.BadCommand f) = None
lack_by line (parsed.BlockStart target) = None
lack_by line parsed.BlockEnd = None
lack_by line (parsed.OrderLine order) = None
lack_by line (parsed.Standalone a) = None

-- the first of some lines that was refused for lack of memory
unfoldable pub first_lack : List ParsedLine → Option ℕ
first_lack [] = None
first_lack (line ∷ lines) = or_else (lack_by line.number line.parsed) (first_lack lines)

-- the fault of a line that spoils a block with so many order lines before it: a refused line, an order line too many, or a
-- line that no block takes
abbrev pub spoils_by : (orders : ℕ) → ℕ → Parsed → Option FaultAt
spoils_by orders line (parsed.Stops f) = None
spoils_by orders line (parsed.Refused o f) = Some (fault_at line f)
spoils_by orders line (parsed.Command c) = None
spoils_by orders line (parsed.BadCommand f) = None
spoils_by orders line (parsed.BlockStart target) = None
spoils_by orders line parsed.BlockEnd = None
spoils_by orders line (parsed.OrderLine order) =
    if nat_le most_block_lines orders then Some (fault_at line (fault.Syntax syntax.BlockTooLong)) else None
spoils_by orders line (parsed.Standalone a) = Some (fault_at line fault.BlockOpen)

-- the fault of a line, if it spoils a block with these lines before it
abbrev pub spoils : (before : List ParsedLine) → ParsedLine → Option FaultAt
spoils before line = spoils_by (length (orders_in before)) line.number line.parsed

-- the fault of the first line that spoils a block with these lines before them
unfoldable pub first_spoiler : (before lines : List ParsedLine) → Option FaultAt
first_spoiler before [] = None
first_spoiler before (line ∷ lines) = or_else (spoils before line) (first_spoiler (before ++ line ∷ []) lines)

-- a block that is open: the number of its first line, the target that this names or its fault, and the lines parsed since
pub record BlockLines : Type 0 where
  pub line : ℕ
  pub target : Result Id RequestFault
  pub lines : List ParsedLine

-- a block of which the first line was parsed
abbrev pub opened : ℕ → Result Id RequestFault → BlockLines
opened line target = record { line = line; target = target; lines = [] }

-- the block with a further line
abbrev pub with_line : BlockLines → ParsedLine → BlockLines
with_line block line = record { line = block.line; target = block.target; lines = block.lines ++ line ∷ [] }

-- the first line, if it was refused for lack of memory
abbrev pub target_lack : ℕ → Result Id RequestFault → Option ℕ
target_lack line (Ok target) = None
target_lack line (Err f) = if is_lack_of_memory f then Some line else None

-- the first line of the block that was refused for lack of memory
abbrev pub lack_in : BlockLines → Option ℕ
lack_in block = or_else (target_lack block.line block.target) (first_lack block.lines)

-- the request of a block by its first line that spoils it: the statement, or the refusal
abbrev pub stated_unless : Option FaultAt → ℕ → Id → List OrderLine → RequestAt
stated_unless None line target orders = asked_at line (kind.Statement (statement.Block target orders))
stated_unless (Some at) line target orders = refused_at at

-- the request of a block by its first line and those after it: where the first is refused, its fault is the least
abbrev pub request_of : ℕ → Result Id RequestFault → List ParsedLine → RequestAt
request_of line (Ok target) lines = stated_unless (first_spoiler [] lines) line target (orders_in lines)
request_of line (Err f) lines = refused_at (fault_at line f)

-- the fault of a line that was refused for lack of memory
abbrev pub starved_at : ℕ → FaultAt
starved_at line = fault_at line (fault.Lex lex.OutOfMemory)

-- a request, unless a line was refused for lack of memory, which then decides
abbrev pub unless_starved : Option ℕ → RequestAt → RequestAt
unless_starved (Some line) request = refused_at (starved_at line)
unless_starved None request = request

-- the request of a block at its end: its statement, or the fault that decides, which is lack of memory where a line had it,
-- and else that of the first line that spoils it
unfoldable pub block_request : BlockLines → RequestAt
block_request block = unless_starved (lack_in block) (request_of block.line block.target block.lines)

-- the request of the block that is open, if one is
abbrev pub ended_request : Option BlockLines → List RequestAt
ended_request None = []
ended_request (Some block) = block_request block ∷ []

-- the request of the block that ends with this line, which is none of it; where none is open, the line's own
abbrev pub ended_or : Option BlockLines → RequestAt → RequestAt
ended_or None own = own
ended_or (Some block) own = block_request block

-- the request of the block that ends with this line, which is one of it; where none is open, the line's own
abbrev pub ended_with_or : Option BlockLines → ParsedLine → RequestAt → RequestAt
ended_with_or None line own = own
ended_with_or (Some block) line own = block_request (with_line block line)

-- the request of a command, which is refused where a block is open
abbrev pub outside_block : Option BlockLines → RequestAt → RequestAt
outside_block None own = own
outside_block (Some block) own = refused_at (fault_at own.line fault.BlockOpen)

-- the requests of a line, if it has any, where no block is open
abbrev pub own_requests : Option BlockLines → List RequestAt → List RequestAt
own_requests None own = own
own_requests (Some block) own = []

-- the request of a line that no block takes: its statement, if it has one
abbrev pub standalone_requests : ℕ → StandaloneLine → List RequestAt
standalone_requests n (standalone.Statement s) = asked_at n (kind.Statement s) ∷ []
standalone_requests n standalone.NoEffect = []
standalone_requests n standalone.EndsCategory = []

-- the requests that a line completes, under the block that is open before it
abbrev pub requests_by : Option BlockLines → ℕ → Parsed → List RequestAt
requests_by block n (parsed.Stops f) = []
requests_by block n (parsed.Refused opening.ReorderAfter f) = ended_request block
requests_by block n (parsed.Refused opening.ReorderEnd f) =
    ended_with_or block (record { number = n; parsed = parsed.Refused opening.ReorderEnd f }) (asked_at n (kind.Refused f)) ∷ []
requests_by block n (parsed.Refused opening.Neither f) = own_requests block (asked_at n (kind.Refused f) ∷ [])
requests_by block n (parsed.Command c) = outside_block block (asked_at n (kind.Command c)) ∷ []
requests_by block n (parsed.BadCommand f) = outside_block block (asked_at n (kind.Refused f)) ∷ []
requests_by block n (parsed.BlockStart target) = ended_request block
requests_by block n parsed.BlockEnd = ended_or block (asked_at n (kind.Refused fault.NoBlock)) ∷ []
requests_by block n (parsed.OrderLine order) = own_requests block (asked_at n (kind.Statement (statement.Reweight order)) ∷ [])
requests_by block n (parsed.Standalone a) = own_requests block (standalone_requests n a)

-- the requests that a line completes
unfoldable pub requests_at : Option BlockLines → ParsedLine → List RequestAt
requests_at block line = requests_by block line.number line.parsed

-- the block, if one is open, with a further line
abbrev pub and_line : Option BlockLines → ParsedLine → Option BlockLines
and_line None line = None
and_line (Some block) line = Some (with_line block line)

-- the block that is open after a line
abbrev pub block_by : Option BlockLines → ℕ → Parsed → Option BlockLines
block_by block n (parsed.Stops f) = None
block_by block n (parsed.Refused opening.ReorderAfter f) = Some (opened n (Err f))
block_by block n (parsed.Refused opening.ReorderEnd f) = None
block_by block n (parsed.Refused opening.Neither f) = and_line block (record { number = n; parsed = parsed.Refused opening.Neither f })
block_by block n (parsed.Command c) = and_line block (record { number = n; parsed = parsed.Command c })
block_by block n (parsed.BadCommand f) = and_line block (record { number = n; parsed = parsed.BadCommand f })
block_by block n (parsed.BlockStart target) = Some (opened n (Ok target))
block_by block n parsed.BlockEnd = None
block_by block n (parsed.OrderLine order) = and_line block (record { number = n; parsed = parsed.OrderLine order })
block_by block n (parsed.Standalone a) = and_line block (record { number = n; parsed = parsed.Standalone a })

-- the block that is open after a line
unfoldable pub block_after : Option BlockLines → ParsedLine → Option BlockLines
block_after block line = block_by block line.number line.parsed

-- the fault of a block by the line of it that was refused for lack of memory, if one was
abbrev pub not_ended : ℕ → Option ℕ → FaultAt
not_ended line (Some starved) = starved_at starved
not_ended line None = fault_at line fault.BlockNotEnded

-- the fault of a block that the end of the text leaves open
unfoldable pub block_left_open : BlockLines → FaultAt
block_left_open block = not_ended block.line (lack_in block)

-- the fault of a line, by its number, that is continued where the text ends
abbrev pub dangling : Option ℕ → List FaultAt
dangling None = []
dangling (Some line) = fault_at line (fault.Lex lex.DanglingEscape) ∷ []

-- the faults at the end of the text: that of the block that is open, or else of a line that is continued
abbrev pub end_faults : Option BlockLines → (continued : Option ℕ) → List FaultAt
end_faults None continued = dangling continued
end_faults (Some block) continued = block_left_open block ∷ []

-- a block that is dropped has no fault, but for a lack of memory in it
unfoldable pub dropped_faults : Option BlockLines → List FaultAt
dropped_faults None = []
dropped_faults (Some block) = map starved_at (option_to_list (lack_in block))

-- the last faults, at a line after which no other comes: where the text ends with a line that is continued, those of its
-- end; at a line too long or too many its own, where a block that is open is dropped
abbrev pub last_faults : Option BlockLines → ℕ → LexFault → List FaultAt
last_faults block n lex.DanglingEscape = end_faults block (Some n)
last_faults block n f = dropped_faults block ++ fault_at n (fault.Lex f) ∷ []

-- the requests of some faults
abbrev pub refusals : List FaultAt → List RequestAt
refusals faults = map refused_at faults

-- the fault at which the text ends, if the line has one
abbrev pub stop_of : Parsed → Option LexFault
stop_of (parsed.Stops f) = Some f
stop_of (parsed.Refused o f) = None
stop_of (parsed.Command c) = None
stop_of (parsed.BadCommand f) = None
stop_of (parsed.BlockStart target) = None
stop_of parsed.BlockEnd = None
stop_of (parsed.OrderLine line) = None
stop_of (parsed.Standalone a) = None

-- the requests at a line after which no other comes, or else those that it completes and those that come later
abbrev pub last_or : Option LexFault → Option BlockLines → ℕ → List RequestAt → List RequestAt
last_or None block n more = more
last_or (Some f) block n more = refusals (last_faults block n f)

-- the requests of lines, under the block that is open before them; the test says whether the text's end is seen
unfoldable pub requests : Bool → Option BlockLines → List ParsedLine → List RequestAt
requests ends block [] = if ends then refusals (end_faults block None) else []
requests ends block (line ∷ lines) =
    last_or (stop_of line.parsed) block line.number (requests_at block line ++ requests ends (block_after block line) lines)
