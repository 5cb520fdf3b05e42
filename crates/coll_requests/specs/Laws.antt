-- What follows from the definitions of requests: the requests of a block, above the recursion (the project's own).
use Rattle.std.specs.Prelude.{◌≡◌, ◌≤◌, length, ℕ, Bool, true, false, List, [], ◌∷◌, ◌++◌, None, Some, Result, Ok, Err}
use Rattle.std.specs.List.{list_all}
use Rattle.coll_lex.specs.declared.faults.LexFault.{LexFault}
use Rattle.coll_syntax.specs.declared.identifiers.Id.{Id}
use Rattle.coll_requests.specs.Limits.{most_block_lines}
use Rattle.coll_requests.specs.Requests.{BlockLines, asked_at, fault_at, refused_at, starved_at, refusals, orders_in, commands_refused_in}
use Rattle.coll_requests.specs.Requests.{lack_in, spoils, first_spoiler, block_request, block_left_open, last_faults, requests}
use Rattle.coll_syntax.specs.declared.statements.Statement.TheVariants as statement
use Rattle.coll_requests.specs.declared.request_faults.RequestFault.{RequestFault}
use Rattle.coll_requests.specs.declared.requests.Request.TheVariants as kind
use Rattle.coll_requests.specs.declared.requests.FaultAt.{FaultAt}
use Rattle.coll_requests.specs.declared.session_lines.Opening.TheVariants as opening
use Rattle.coll_requests.specs.declared.session_lines.Parsed.{Parsed}
use Rattle.coll_requests.specs.declared.session_lines.Parsed.TheVariants as parsed
use Rattle.coll_requests.specs.declared.session_lines.ParsedLine.{ParsedLine}

-- a line that ends no block and no text, so that a block that is open stays so: a command, an order line, a line that no
-- block takes, or a refused line that begins with neither `reorder-after` nor `reorder-end`
abbrev pub stays : Parsed → Bool
stays (parsed.Stops f) = false
stays (parsed.Refused opening.ReorderAfter f) = false
stays (parsed.Refused opening.ReorderEnd f) = false
stays (parsed.Refused opening.Neither f) = true
stays (parsed.Command c) = true
stays (parsed.BadCommand f) = true
stays (parsed.BlockStart target) = false
stays parsed.BlockEnd = false
stays (parsed.OrderLine order) = true
stays (parsed.Standalone a) = true

-- some lines none of which ends a block or the text
abbrev pub AllStay : List ParsedLine → Type 0
AllStay lines = list_all (λ (line : ParsedLine). stays line.parsed) lines ≡ true

-- an accepted `reorder-after`, or a refused line that begins with that text
abbrev pub opens : Parsed → Bool
opens (parsed.Stops f) = false
opens (parsed.Refused opening.ReorderAfter f) = true
opens (parsed.Refused opening.ReorderEnd f) = false
opens (parsed.Refused opening.Neither f) = false
opens (parsed.Command c) = false
opens (parsed.BadCommand f) = false
opens (parsed.BlockStart target) = true
opens parsed.BlockEnd = false
opens (parsed.OrderLine order) = false
opens (parsed.Standalone a) = false

-- the line, by its number, that opens a block: an accepted `reorder-after` with its target, or a refused line that begins
-- with that text with its fault
abbrev pub opener : ℕ → Result Id RequestFault → ParsedLine
opener n (Ok target) = record { number = n; parsed = parsed.BlockStart target }
opener n (Err f) = record { number = n; parsed = parsed.Refused opening.ReorderAfter f }

-- a block of these lines
abbrev pub block_with : ℕ → Result Id RequestFault → List ParsedLine → BlockLines
block_with n target lines = record { line = n; target = target; lines = lines }

-- a line that is an accepted `reorder-end`
abbrev pub ender : ℕ → ParsedLine
ender m = record { number = m; parsed = parsed.BlockEnd }

-- a refused line that begins with `reorder-end`
abbrev pub refused_ender : ℕ → RequestFault → ParsedLine
refused_ender m f = record { number = m; parsed = parsed.Refused opening.ReorderEnd f }

-- a line after which no other comes
abbrev pub stopper : ℕ → LexFault → ParsedLine
stopper m f = record { number = m; parsed = parsed.Stops f }

-- a block up to its `reorder-end`: the refusals of the commands in it, in order, and one request
abbrev pub BlockEnds : Type 0
BlockEnds = (ends : Bool) (n m : ℕ) (target : Result Id RequestFault) (body later : List ParsedLine) → AllStay body
    → requests ends None (opener n target ∷ (body ++ ender m ∷ later))
    ≡ commands_refused_in body ++ block_request (block_with n target body) ∷ requests ends None later

-- the same up to a refused line that begins with `reorder-end`, which is one of the block's lines
abbrev pub BlockEndsRefused : Type 0
BlockEndsRefused = (ends : Bool) (n m : ℕ) (target : Result Id RequestFault) (f : RequestFault) (body later : List ParsedLine)
    → AllStay body
    → requests ends None (opener n target ∷ (body ++ refused_ender m f ∷ later))
    ≡ commands_refused_in body ++ block_request (block_with n target (body ++ refused_ender m f ∷ [])) ∷ requests ends None later

-- the same up to a line that opens the next block, to which that line belongs
abbrev pub BlockEndsAtNext : Type 0
BlockEndsAtNext = (ends : Bool) (n : ℕ) (target : Result Id RequestFault) (body : List ParsedLine) (next : ParsedLine)
    (later : List ParsedLine) → AllStay body → opens next.parsed ≡ true
    → requests ends None (opener n target ∷ (body ++ next ∷ later))
    ≡ commands_refused_in body ++ block_request (block_with n target body) ∷ requests ends None (next ∷ later)

-- a block that the end of the text leaves open
abbrev pub BlockLeftOpen : Type 0
BlockLeftOpen = (n : ℕ) (target : Result Id RequestFault) (body : List ParsedLine) → AllStay body
    → requests true None (opener n target ∷ body) ≡ commands_refused_in body ++ refused_at (block_left_open (block_with n target body)) ∷ []

-- a block that is open at a line after which no other comes
abbrev pub BlockStopped : Type 0
BlockStopped = (ends : Bool) (n m : ℕ) (target : Result Id RequestFault) (f : LexFault) (body later : List ParsedLine) → AllStay body
    → requests ends None (opener n target ∷ (body ++ stopper m f ∷ later))
    ≡ commands_refused_in body ++ refusals (last_faults (Some (block_with n target body)) m f)

-- a line that isn't refused, and that a block takes
abbrev pub is_taken : Parsed → Bool
is_taken (parsed.Stops f) = true
is_taken (parsed.Refused o f) = false
is_taken (parsed.Command c) = true
is_taken (parsed.BadCommand f) = true
is_taken (parsed.BlockStart target) = true
is_taken parsed.BlockEnd = true
is_taken (parsed.OrderLine order) = true
is_taken (parsed.Standalone a) = false

-- the request of a block with a target, only lines that it takes and no order line too many: the statement of its target and its
-- order lines, at the number of its first line
abbrev pub BlockStates : Type 0
BlockStates = (n : ℕ) (target : Id) (body : List ParsedLine) → list_all (λ (line : ParsedLine). is_taken line.parsed) body ≡ true
    → length (orders_in body) ≤ most_block_lines
    → block_request (block_with n (Ok target) body) ≡ asked_at n (kind.Statement (statement.Block target (orders_in body)))

-- the request of a block in which a line was refused for lack of memory: the refusal for it, at the number of the first such line
abbrev pub BlockStarves : Type 0
BlockStarves = (block : BlockLines) (line : ℕ) → lack_in block ≡ Some line → block_request block ≡ refused_at (starved_at line)

-- the request of a block without lack of memory whose first line was refused: that refusal
abbrev pub BlockBegunRefused : Type 0
BlockBegunRefused = (n : ℕ) (f : RequestFault) (body : List ParsedLine) → lack_in (block_with n (Err f) body) ≡ None
    → block_request (block_with n (Err f) body) ≡ refused_at (fault_at n f)

-- the request of a block without lack of memory that a line spoils: the refusal with the fault of the first such line, which has
-- only lines before it that don't spoil it
abbrev pub BlockSpoiled : Type 0
BlockSpoiled = (n : ℕ) (target : Id) (before later : List ParsedLine) (line : ParsedLine) (at : FaultAt)
    → lack_in (block_with n (Ok target) (before ++ line ∷ later)) ≡ None
    → first_spoiler [] before ≡ None → spoils before line ≡ Some at → block_request (block_with n (Ok target) (before ++ line ∷ later))
    ≡ refused_at at
