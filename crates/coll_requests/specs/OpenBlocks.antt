-- What a session keeps of an open block: all that its end needs, in one piece; and the requests of lines by what is kept.
use Rattle.std.specs.Prelude.{ℕ, Bool, false, nat_le, if◌then◌else◌, List, [], ◌∷◌, ◌++◌, length}
use Rattle.std.specs.Prelude.{Option, Some, None, option_to_list, Result, Ok, Err}
use Rattle.coll_lex.specs.declared.faults.LexFault.{LexFault}
use Rattle.coll_lex.specs.declared.faults.LexFault.TheVariants as lex
use Rattle.coll_syntax.specs.declared.identifiers.Id.{Id}
use Rattle.coll_syntax.specs.declared.syntax_faults.SyntaxFault.TheVariants as syntax
use Rattle.coll_syntax.specs.declared.statements.OrderLine.{OrderLine}
use Rattle.coll_syntax.specs.declared.statements.Statement.TheVariants as statement
use Rattle.coll_requests.specs.RequestFaults.{is_lack_of_memory}
use Rattle.coll_requests.specs.Requests.{BlockLines, asked_at, fault_at, refused_at, starved_at, standalone_requests}
use Rattle.coll_requests.specs.Requests.{orders_in, first_spoiler, lack_in, dangling, refusals, stop_of}
use Rattle.coll_requests.specs.Limits.{most_block_lines}
use Rattle.coll_requests.specs.declared.request_faults.RequestFault.{RequestFault}
use Rattle.coll_requests.specs.declared.request_faults.RequestFault.TheVariants as fault
use Rattle.coll_requests.specs.declared.session_lines.Opening.TheVariants as opening
use Rattle.coll_requests.specs.declared.session_lines.Parsed.{Parsed}
use Rattle.coll_requests.specs.declared.session_lines.Parsed.TheVariants as parsed
use Rattle.coll_requests.specs.declared.session_lines.ParsedLine.{ParsedLine}
use Rattle.coll_requests.specs.declared.requests.Request.TheVariants as kind
use Rattle.coll_requests.specs.declared.requests.RequestAt.{RequestAt}
use Rattle.coll_requests.specs.declared.requests.FaultAt.{FaultAt}
use Rattle.coll_requests.specs.declared.open_blocks.BlockStatus.{BlockStatus}
use Rattle.coll_requests.specs.declared.open_blocks.BlockStatus.TheVariants.{Building, Spoiled, Starved}
use Rattle.coll_requests.specs.declared.open_blocks.OpenBlock.{OpenBlock}

-- what is kept of a block that began at this line
abbrev pub open_at : ℕ → BlockStatus → OpenBlock
open_at line status = record { line = line; status = status }

-- a block that no line has spoiled has all the lines that it may have
abbrev pub is_full : BlockStatus → Bool
is_full (Building g) = nat_le most_block_lines (length g.lines)
is_full (Spoiled at) = false
is_full (Starved line) = false

-- what is kept of a block whose first line was accepted, which names this target
abbrev pub begun_at : ℕ → Id → OpenBlock
begun_at line target = open_at line (Building (record { target = target; lines = [] }))

-- what is kept of a line's fault: its line where memory was refused, and else all of it
abbrev pub spoiled_by : FaultAt → BlockStatus
spoiled_by at = if is_lack_of_memory at.fault then Starved at.line else Spoiled at

-- what is kept after a line that spoils the block: the first line that memory was refused for, or else the first that spoils the
-- block
abbrev pub after_fault : BlockStatus → FaultAt → BlockStatus
after_fault (Building g) at = spoiled_by at
after_fault (Spoiled first) at = if is_lack_of_memory at.fault then Starved at.line else Spoiled first
after_fault (Starved line) at = Starved line

-- what is kept after an order line: one too many spoils the block
abbrev pub after_order : BlockStatus → ℕ → OrderLine → BlockStatus
after_order (Building g) line order =
    if nat_le most_block_lines (length g.lines) then Spoiled (fault_at line (fault.Syntax syntax.BlockTooLong))
    else Building (record { target = g.target; lines = g.lines ++ order ∷ [] })
after_order (Spoiled first) line order = Spoiled first
after_order (Starved first) line order = Starved first

-- the block after a refused line
abbrev pub spoiled : OpenBlock → FaultAt → OpenBlock
spoiled block at = open_at block.line (after_fault block.status at)

-- the block after an order line
abbrev pub joined : OpenBlock → ℕ → OrderLine → OpenBlock
joined block line order = open_at block.line (after_order block.status line order)

-- the request of what is kept, at the block's end
abbrev pub request_by_status : ℕ → BlockStatus → RequestAt
request_by_status line (Building g) = asked_at line (kind.Statement (statement.Block g.target g.lines))
request_by_status line (Spoiled at) = refused_at at
request_by_status line (Starved first) = refused_at (starved_at first)

-- the request of a block that is kept, at its end
abbrev pub kept_request : OpenBlock → RequestAt
kept_request block = request_by_status block.line block.status

-- the fault of what is kept, where the text ends
abbrev pub left_open_by_status : ℕ → BlockStatus → FaultAt
left_open_by_status line (Building g) = fault_at line fault.BlockNotEnded
left_open_by_status line (Spoiled at) = fault_at line fault.BlockNotEnded
left_open_by_status line (Starved first) = starved_at first

-- the fault of a block that is kept, where the text ends
abbrev pub kept_left_open : OpenBlock → FaultAt
kept_left_open block = left_open_by_status block.line block.status

-- the fault of what is kept, if it has one where the block is dropped
abbrev pub dropped_by_status : BlockStatus → Option FaultAt
dropped_by_status (Building g) = None
dropped_by_status (Spoiled at) = None
dropped_by_status (Starved first) = Some (starved_at first)

-- the block, if one is kept, after a refused line
abbrev pub and_fault : Option OpenBlock → FaultAt → Option OpenBlock
and_fault None at = None
and_fault (Some block) at = Some (spoiled block at)

-- the block, if one is kept, after an order line
abbrev pub and_order : Option OpenBlock → ℕ → OrderLine → Option OpenBlock
and_order None line order = None
and_order (Some block) line order = Some (joined block line order)

-- the block that is kept after a line
abbrev pub kept_by : Option OpenBlock → ℕ → Parsed → Option OpenBlock
kept_by block n (parsed.Stops f) = None
kept_by block n (parsed.Refused opening.ReorderAfter f) = Some (open_at n (spoiled_by (fault_at n f)))
kept_by block n (parsed.Refused opening.ReorderEnd f) = None
kept_by block n (parsed.Refused opening.Neither f) = and_fault block (fault_at n f)
kept_by block n (parsed.Command c) = block
kept_by block n (parsed.BadCommand f) = block
kept_by block n (parsed.BlockStart target) = Some (begun_at n target)
kept_by block n parsed.BlockEnd = None
kept_by block n (parsed.OrderLine order) = and_order block n order
kept_by block n (parsed.Standalone a) = and_fault block (fault_at n fault.BlockOpen)

-- the block that is kept after a line
unfoldable pub kept_after : Option OpenBlock → ParsedLine → Option OpenBlock
kept_after block line = kept_by block line.number line.parsed

-- the request of the block that is kept, if one is
abbrev pub kept_ended : Option OpenBlock → List RequestAt
kept_ended None = []
kept_ended (Some block) = kept_request block ∷ []

-- the request of the block that is kept, or of the line where none is
abbrev pub kept_ended_or : Option OpenBlock → RequestAt → RequestAt
kept_ended_or None own = own
kept_ended_or (Some block) own = kept_request block

-- the same of a refused line that ends the block
abbrev pub kept_spoiled_or : Option OpenBlock → FaultAt → RequestAt
kept_spoiled_or None at = refused_at at
kept_spoiled_or (Some block) at = kept_request (spoiled block at)

-- the request of a command, which is refused where a block is kept
abbrev pub outside_kept : Option OpenBlock → RequestAt → RequestAt
outside_kept None own = own
outside_kept (Some block) own = refused_at (fault_at own.line fault.BlockOpen)

-- the requests of a line, if it has any, where no block is kept
abbrev pub own_unless_kept : Option OpenBlock → List RequestAt → List RequestAt
own_unless_kept None own = own
own_unless_kept (Some block) own = []

-- the requests that a line completes, by the block that is kept before it
abbrev pub kept_requests_by : Option OpenBlock → ℕ → Parsed → List RequestAt
kept_requests_by block n (parsed.Stops f) = []
kept_requests_by block n (parsed.Refused opening.ReorderAfter f) = kept_ended block
kept_requests_by block n (parsed.Refused opening.ReorderEnd f) = kept_spoiled_or block (fault_at n f) ∷ []
kept_requests_by block n (parsed.Refused opening.Neither f) = own_unless_kept block (asked_at n (kind.Refused f) ∷ [])
kept_requests_by block n (parsed.Command c) = outside_kept block (asked_at n (kind.Command c)) ∷ []
kept_requests_by block n (parsed.BadCommand f) = outside_kept block (asked_at n (kind.Refused f)) ∷ []
kept_requests_by block n (parsed.BlockStart target) = kept_ended block
kept_requests_by block n parsed.BlockEnd = kept_ended_or block (asked_at n (kind.Refused fault.NoBlock)) ∷ []
kept_requests_by block n (parsed.OrderLine order) = own_unless_kept block (asked_at n (kind.Statement (statement.Reweight order)) ∷ [])
kept_requests_by block n (parsed.Standalone a) = own_unless_kept block (standalone_requests n a)

-- the requests that a line completes
unfoldable pub kept_requests_at : Option OpenBlock → ParsedLine → List RequestAt
kept_requests_at block line = kept_requests_by block line.number line.parsed

-- the fault with which the text ends, if it has one: that of the block that is kept, or of a line that is continued
abbrev pub kept_end_faults : Option OpenBlock → (continued : Option ℕ) → List FaultAt
kept_end_faults None continued = dangling continued
kept_end_faults (Some block) continued = kept_left_open block ∷ []

-- the fault of a block that is dropped, if one is kept and has one
abbrev pub kept_dropped_faults : Option OpenBlock → List FaultAt
kept_dropped_faults None = []
kept_dropped_faults (Some block) = option_to_list (dropped_by_status block.status)

-- the last faults, at a line after which no other comes, by the block that is kept
abbrev pub kept_last_faults : Option OpenBlock → ℕ → LexFault → List FaultAt
kept_last_faults block n lex.DanglingEscape = kept_end_faults block (Some n)
kept_last_faults block n f = kept_dropped_faults block ++ fault_at n (fault.Lex f) ∷ []

-- the last requests, at a line after which no other comes, or else those that it completes and those that come later
abbrev pub kept_last_or : Option LexFault → Option OpenBlock → ℕ → List RequestAt → List RequestAt
kept_last_or None block n more = more
kept_last_or (Some f) block n more = refusals (kept_last_faults block n f)

-- the requests of lines, by the block that is kept before them
unfoldable pub kept_requests : (ends : Bool) → Option OpenBlock → List ParsedLine → List RequestAt
kept_requests ends block [] = if ends then refusals (kept_end_faults block None) else []
kept_requests ends block (line ∷ lines) =
    kept_last_or (stop_of line.parsed) block line.number (kept_requests_at block line ++ kept_requests ends (kept_after block line) lines)

-- what is kept of a block without lack of memory, by its first line that spoils it
abbrev pub status_unless : Option FaultAt → Id → List OrderLine → BlockStatus
status_unless None target orders = Building (record { target = target; lines = orders })
status_unless (Some at) target orders = Spoiled at

-- what is kept of a block without lack of memory
abbrev pub status_of : ℕ → Result Id RequestFault → List ParsedLine → BlockStatus
status_of line (Ok target) lines = status_unless (first_spoiler [] lines) target (orders_in lines)
status_of line (Err f) lines = Spoiled (fault_at line f)

-- what is kept, by the line of the block that memory was refused for, if there is one
abbrev pub starved_or : Option ℕ → BlockStatus → BlockStatus
starved_or (Some line) status = Starved line
starved_or None status = status

-- what is kept of a block
unfoldable pub kept : BlockLines → OpenBlock
kept block = open_at block.line (starved_or (lack_in block) (status_of block.line block.target block.lines))
