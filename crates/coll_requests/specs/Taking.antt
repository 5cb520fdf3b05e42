-- What a line that was parsed, or one more physical line of a session, makes of the block that is kept.
use Rattle.std.specs.Prelude.{◌≡◌, ℕ, Bool, true, false, List, [], Option, Some, None, option_to_list, Result, Ok, Err}
use Rattle.coll_lex.specs.LogicalLines.{LexerState, served, state_by}
use Rattle.coll_lex.specs.declared.faults.LexFault.{LexFault}
use Rattle.coll_requests.specs.Parsing.{parsed_at, no_memory}
use Rattle.coll_requests.specs.Requests.{stop_of, refusals}
use Rattle.coll_requests.specs.OpenBlocks.{kept_requests_at, kept_after, kept_last_faults}
use Rattle.coll_requests.specs.declared.parsing.Parsing.{Parsing}
use Rattle.coll_requests.specs.declared.open_blocks.OpenBlock.{OpenBlock}
use Rattle.coll_requests.specs.declared.session_lines.Parsed.{Parsed}
use Rattle.coll_requests.specs.declared.session_lines.Parsed.TheVariants as parsed
use Rattle.coll_requests.specs.declared.session_lines.ParsedLine.{ParsedLine}
use Rattle.coll_requests.specs.declared.requests.RequestAt.{RequestAt}

-- the line that was parsed, or the same refused since memory was refused to it
abbrev pub line_if : (starved : Bool) → Parsing → ParsedLine
line_if true h = record { number = h.line.number; parsed = no_memory h.opening }
line_if false h = h.line

-- an order line, the only one that needs room in a block
abbrev pub IsOrder : Parsed → Type 0
IsOrder (parsed.OrderLine order) = Unit {0}
IsOrder _ = ⊥

-- a line that was parsed was taken: the block that is kept after it, and the request that it completes; memory was refused to an
-- order line alone
pub record TakesParsing (starved : Bool) (block : Option OpenBlock) (h : Parsing) (block_after : Option OpenBlock)
    (request : Option RequestAt) : Type 0 where
  pub kept : block_after ≡ kept_after block (line_if starved h)
  pub completes : option_to_list request ≡ kept_requests_at block (line_if starved h)
  pub order : starved ≡ true → IsOrder h.line.parsed

-- the fault at which the session ends, if what was parsed has one
abbrev pub stop_at : Option ParsedLine → Option LexFault
stop_at None = None
stop_at (Some line) = stop_of line.parsed

-- the requests that a line completes, or the last ones
abbrev pub requests_or_last : Option OpenBlock → ParsedLine → Option LexFault → List RequestAt
requests_or_last block line None = kept_requests_at block line
requests_or_last block line (Some f) = refusals (kept_last_faults block line.number f)

-- the requests that a physical line completes, by the block that is kept before it
unfoldable pub line_requests : Option OpenBlock → Option ParsedLine → List RequestAt
line_requests block None = []
line_requests block (Some line) = requests_or_last block line (stop_of line.parsed)

-- the block that is kept after a physical line
unfoldable pub line_block : Option OpenBlock → Option ParsedLine → Option OpenBlock
line_block block None = block
line_block block (Some line) = kept_after block line

-- what is answered to a physical line of which this was parsed: the request that it completes; or the fault at which the session
-- ends, and then the block that was kept still is
abbrev pub Answers : Option ParsedLine → (block block_after : Option OpenBlock) → Result (Option RequestAt) LexFault → Type 0
Answers parsed block block_after (Ok request) = (stop_at parsed ≡ None) × (block_after ≡ line_block block parsed)
    × (option_to_list request ≡ line_requests block parsed)
Answers parsed block block_after (Err f) = (stop_at parsed ≡ Some f) × (block_after ≡ block)

-- a physical line of a session was taken, where memory was refused to it or not
pub record TakesPhysical (starved : Bool) (old new : LexerState) (line : List ℕ) (block block_after : Option OpenBlock)
    (answer : Result (Option RequestAt) LexFault) : Type 0 where
  pub stands : new ≡ state_by old (served starved old line)
  pub answers : Answers (parsed_at starved old line) block block_after answer
