-- What is kept of a block stands for the block: one more line, its request, and what the end of the text makes of it. So the
-- requests of lines by what is kept are those of the definition.
use Rattle.std.proofs.Common.{◌≡◌, ℕ, Bool, true, false, List, [], ◌∷◌, ◌++◌, map, length, Option, Some, None, Result, Ok, Err, refl, sym, ap, ◌∙◌, append-nil, append_assoc}
use Rattle.std.specs.Prelude.{nat_le, if◌then◌else◌, option_map, option_to_list}
use Rattle.std.proofs.lemmas.Grind.{flat_map-append}
use Rattle.coll_lex.specs.declared.faults.LexFault.{LexFault}
use Rattle.coll_lex.specs.declared.faults.LexFault.TheVariants as lex
use Rattle.coll_syntax.specs.declared.identifiers.Id.{Id}
use Rattle.coll_syntax.specs.declared.syntax_faults.SyntaxFault.TheVariants as syntax
use Rattle.coll_syntax.specs.declared.statements.OrderLine.{OrderLine}
use Rattle.coll_requests.specs.RequestFaults.{is_lack_of_memory}
use Rattle.coll_requests.specs.Requests.{BlockLines, fault_at, order_by, orders_in, or_else, lack_by, first_lack, spoils, first_spoiler, with_line, target_lack}
use Rattle.coll_requests.specs.Requests.{lack_in, stated_unless, request_of, starved_at, unless_starved, block_request, requests_at, block_after, not_ended}
use Rattle.coll_requests.specs.Requests.{block_left_open, end_faults, dropped_faults, last_faults, refusals, stop_of, last_or, requests}
use Rattle.coll_requests.specs.Limits.{most_block_lines}
use Rattle.coll_requests.specs.OpenBlocks.{after_fault, after_order, spoiled_by, spoiled, joined, request_by_status, kept_request, left_open_by_status, kept_left_open, dropped_by_status, kept_after}
use Rattle.coll_requests.specs.OpenBlocks.{kept_requests_at, kept_end_faults, kept_dropped_faults, kept_last_faults, kept_last_or, kept_requests, status_unless, status_of, starved_or, open_at}
use Rattle.coll_requests.specs.OpenBlocks.{kept}
use Rattle.coll_requests.specs.declared.request_faults.RequestFault.{RequestFault}
use Rattle.coll_requests.specs.declared.request_faults.RequestFault.TheVariants as fault
use Rattle.coll_requests.specs.declared.session_lines.Opening.TheVariants as opening
use Rattle.coll_requests.specs.declared.session_lines.Parsed.{Parsed}
use Rattle.coll_requests.specs.declared.session_lines.Parsed.TheVariants as parsed
use Rattle.coll_requests.specs.declared.session_lines.ParsedLine.{ParsedLine}
use Rattle.coll_requests.specs.declared.requests.RequestAt.{RequestAt}
use Rattle.coll_requests.specs.declared.requests.FaultAt.{FaultAt}
use Rattle.coll_requests.specs.declared.open_blocks.BlockStatus.{BlockStatus}
use Rattle.coll_requests.specs.declared.open_blocks.BlockStatus.TheVariants.{Building, Spoiled, Starved}
use Rattle.coll_requests.specs.declared.open_blocks.OpenBlock.{OpenBlock}

pub or_else-none : {A : Type 0} (a : Option A) → or_else a None ≡ a
or_else-none (Some x) = refl
or_else-none None = refl

or_else-assoc : {A : Type 0} (a b c : Option A) → or_else a (or_else b c) ≡ or_else (or_else a b) c
or_else-assoc (Some x) b c = refl
or_else-assoc None b c = refl

pub first_lack-push : (lines : List ParsedLine) (line : ParsedLine) → first_lack (lines ++ line ∷ []) ≡ or_else (first_lack lines) (lack_by line.number line.parsed)
unfolding first_lack
first_lack-push [] line = or_else-none (lack_by line.number line.parsed)
first_lack-push (first ∷ lines) line =
    ap (or_else (lack_by first.number first.parsed)) (first_lack-push lines line) ∙ or_else-assoc (lack_by first.number first.parsed) (first_lack lines) (lack_by line.number line.parsed)

pub first_spoiler-push : (before lines : List ParsedLine) (line : ParsedLine) → first_spoiler before (lines ++ line ∷ []) ≡ or_else (first_spoiler before lines) (spoils (before ++ lines) line)
unfolding first_spoiler
first_spoiler-push before [] line = or_else-none (spoils before line) ∙ ap (λ (ls : List ParsedLine). spoils ls line) (sym (append-nil before))
first_spoiler-push before (first ∷ lines) line =
    ap (or_else (spoils before first)) (first_spoiler-push (before ++ first ∷ []) lines line)
    ∙ ap (λ (ls : List ParsedLine). or_else (spoils before first) (or_else (first_spoiler (before ++ first ∷ []) lines) (spoils ls line))) (append_assoc before (first ∷ []) lines)
    ∙ or_else-assoc (spoils before first) (first_spoiler (before ++ first ∷ []) lines) (spoils (before ++ first ∷ lines) line)

abbrev order_of : ParsedLine → List OrderLine
order_of line = order_by line.parsed

pub orders_in-push : (lines : List ParsedLine) (line : ParsedLine) → orders_in (lines ++ line ∷ []) ≡ orders_in lines ++ order_by line.parsed
orders_in-push lines line = flat_map-append order_of lines (line ∷ []) ∙ ap (λ (os : List OrderLine). orders_in lines ++ os) (append-nil (order_by line.parsed))

lack_in-push : (block : BlockLines) (line : ParsedLine) → lack_in (with_line block line) ≡ or_else (lack_in block) (lack_by line.number line.parsed)
lack_in-push block line =
    ap (or_else (target_lack block.line block.target)) (first_lack-push block.lines line)
    ∙ or_else-assoc (target_lack block.line block.target) (first_lack block.lines) (lack_by line.number line.parsed)

-- what is kept, by the three things that decide it
abbrev pub status_by : ℕ → Result Id RequestFault → Option FaultAt → List OrderLine → BlockStatus
status_by line (Ok target) spoiler orders = status_unless spoiler target orders
status_by line (Err f) spoiler orders = Spoiled (fault_at line f)

status_of_is : (line : ℕ) (target : Result Id RequestFault) (lines : List ParsedLine) → status_of line target lines ≡ status_by line target (first_spoiler [] lines) (orders_in lines)
status_of_is line (Ok target) lines = refl
status_of_is line (Err f) lines = refl

abbrev pub kept_status_by : Option ℕ → ℕ → Result Id RequestFault → Option FaultAt → List OrderLine → BlockStatus
kept_status_by lack line target spoiler orders = starved_or lack (status_by line target spoiler orders)

pub kept_status_is : (block : BlockLines) → starved_or (lack_in block) (status_of block.line block.target block.lines)
    ≡ kept_status_by (lack_in block) block.line block.target (first_spoiler [] block.lines) (orders_in block.lines)
kept_status_is block = ap (starved_or (lack_in block)) (status_of_is block.line block.target block.lines)

-- what is kept of a block with one more line
status-push : (block : BlockLines) (line : ParsedLine) → starved_or (lack_in (with_line block line)) (status_of block.line block.target (block.lines ++ line ∷ []))
    ≡ kept_status_by (or_else (lack_in block) (lack_by line.number line.parsed)) block.line block.target (or_else (first_spoiler [] block.lines) (spoils block.lines line))
    (orders_in block.lines ++ order_by line.parsed)
status-push block line =
    kept_status_is (with_line block line)
    ∙ ap (λ (w : Option ℕ). kept_status_by w block.line block.target (first_spoiler [] (block.lines ++ line ∷ [])) (orders_in (block.lines ++ line ∷ []))) (lack_in-push block line)
    ∙ ap (λ (s : Option FaultAt). kept_status_by (or_else (lack_in block) (lack_by line.number line.parsed)) block.line block.target s (orders_in (block.lines ++ line ∷ [])))
    (first_spoiler-push [] block.lines line)
    ∙ ap (kept_status_by (or_else (lack_in block) (lack_by line.number line.parsed)) block.line block.target (or_else (first_spoiler [] block.lines) (spoils block.lines line)))
    (orders_in-push block.lines line)

-- a refused line, by whether memory was refused to it
abbrev after_fault_by : Bool → BlockStatus → FaultAt → BlockStatus
after_fault_by lack (Building g) at = if lack then Starved at.line else Spoiled at
after_fault_by lack (Spoiled first) at = if lack then Starved at.line else Spoiled first
after_fault_by lack (Starved line) at = Starved line

after_fault_is : (s : BlockStatus) (at : FaultAt) → after_fault_by (is_lack_of_memory at.fault) s at ≡ after_fault s at
after_fault_is (Building g) at = refl
after_fault_is (Spoiled first) at = refl
after_fault_is (Starved line) at = refl

fault_cases : (b : Bool) (lack : Option ℕ) (line : ℕ) (target : Result Id RequestFault) (spoiler : Option FaultAt) (orders : List OrderLine) (at : FaultAt)
    → kept_status_by (or_else lack (if b then Some at.line else None)) line target (or_else spoiler (Some at)) (orders ++ []) ≡ after_fault_by b (kept_status_by lack line target spoiler orders) at
fault_cases b (Some w) line target spoiler orders at = refl
fault_cases true None line (Ok target) None orders at = refl
fault_cases true None line (Ok target) (Some s) orders at = refl
fault_cases true None line (Err f) spoiler orders at = refl
fault_cases false None line (Ok target) None orders at = refl
fault_cases false None line (Ok target) (Some s) orders at = refl
fault_cases false None line (Err f) spoiler orders at = refl

-- what is kept after a refused line
kept_with_fault : (block : BlockLines) (line : ParsedLine) (at : FaultAt) → lack_by line.number line.parsed ≡ (if is_lack_of_memory at.fault then Some at.line else None)
    → spoils block.lines line ≡ Some at → order_by line.parsed ≡ []
    → kept (with_line block line) ≡ spoiled (kept block) at
unfolding kept
kept_with_fault block line at lack spoiler none =
    ap (open_at block.line)
    (status-push block line
    ∙ ap (λ (w : Option ℕ). kept_status_by (or_else (lack_in block) w) block.line block.target (or_else (first_spoiler [] block.lines) (spoils block.lines line))
    (orders_in block.lines ++ order_by line.parsed)) lack
    ∙ ap (λ (s : Option FaultAt). kept_status_by (or_else (lack_in block) (if is_lack_of_memory at.fault then Some at.line else None)) block.line block.target
    (or_else (first_spoiler [] block.lines) s)
    (orders_in block.lines ++ order_by line.parsed)) spoiler
    ∙ ap (λ (os : List OrderLine). kept_status_by (or_else (lack_in block) (if is_lack_of_memory at.fault then Some at.line else None)) block.line block.target
    (or_else (first_spoiler [] block.lines) (Some at)) (orders_in block.lines ++ os)) none
    ∙ fault_cases (is_lack_of_memory at.fault) (lack_in block) block.line block.target (first_spoiler [] block.lines) (orders_in block.lines) at
    ∙ ap (λ (s : BlockStatus). after_fault_by (is_lack_of_memory at.fault) s at) (sym (kept_status_is block))
    ∙ after_fault_is (starved_or (lack_in block) (status_of block.line block.target block.lines)) at)

order_chosen : (b : Bool) (target : Id) (orders : List OrderLine) (order : OrderLine) (at : FaultAt)
    → status_unless (if b then Some at else None) target (orders ++ order ∷ []) ≡ (if b then Spoiled at else Building (record { target = target; lines = orders ++ order ∷ [] }))
order_chosen true target orders order at = refl
order_chosen false target orders order at = refl

order_cases : (lack : Option ℕ) (line : ℕ) (target : Result Id RequestFault) (spoiler : Option FaultAt) (orders : List OrderLine) (n : ℕ) (order : OrderLine)
    → kept_status_by (or_else lack None) line target (or_else spoiler (if nat_le most_block_lines (length orders) then Some (fault_at n (fault.Syntax syntax.BlockTooLong)) else None))
    (orders ++ order ∷ [])
    ≡ after_order (kept_status_by lack line target spoiler orders) n order
order_cases (Some w) line target spoiler orders n order = refl
order_cases None line (Ok target) None orders n order = order_chosen (nat_le most_block_lines (length orders)) target orders order (fault_at n (fault.Syntax syntax.BlockTooLong))
order_cases None line (Ok target) (Some s) orders n order = refl
order_cases None line (Err f) spoiler orders n order = refl

-- what is kept after an order line
kept_with_order : (block : BlockLines) (n : ℕ) (order : OrderLine) → kept (with_line block (record { number = n; parsed = parsed.OrderLine order })) ≡ joined (kept block) n order
unfolding kept
kept_with_order block n order =
    ap (open_at block.line)
    (status-push block (record { number = n; parsed = parsed.OrderLine order })
    ∙ order_cases (lack_in block) block.line block.target (first_spoiler [] block.lines) (orders_in block.lines) n order
    ∙ ap (λ (s : BlockStatus). after_order s n order) (sym (kept_status_is block)))

command_cases : (lack : Option ℕ) (line : ℕ) (target : Result Id RequestFault) (spoiler : Option FaultAt) (orders : List OrderLine)
    → kept_status_by (or_else lack None) line target (or_else spoiler None) (orders ++ []) ≡ kept_status_by lack line target spoiler orders
command_cases lack line target spoiler orders =
    ap (λ (w : Option ℕ). kept_status_by w line target (or_else spoiler None) (orders ++ [])) (or_else-none lack)
    ∙ ap (λ (s : Option FaultAt). kept_status_by lack line target s (orders ++ [])) (or_else-none spoiler)
    ∙ ap (kept_status_by lack line target spoiler) (append-nil orders)

-- what is kept after a command
kept_with_command : (block : BlockLines) (line : ParsedLine) → lack_by line.number line.parsed ≡ None → spoils block.lines line ≡ None → order_by line.parsed ≡ []
    → kept (with_line block line) ≡ kept block
unfolding kept
kept_with_command block line lack spoiler none =
    ap (open_at block.line)
    (status-push block line
    ∙ ap (λ (w : Option ℕ). kept_status_by (or_else (lack_in block) w) block.line block.target (or_else (first_spoiler [] block.lines) (spoils block.lines line))
    (orders_in block.lines ++ order_by line.parsed)) lack
    ∙ ap (λ (s : Option FaultAt). kept_status_by (or_else (lack_in block) None) block.line block.target (or_else (first_spoiler [] block.lines) s)
    (orders_in block.lines ++ order_by line.parsed)) spoiler
    ∙ ap (λ (os : List OrderLine). kept_status_by (or_else (lack_in block) None) block.line block.target (or_else (first_spoiler [] block.lines) None) (orders_in block.lines ++ os)) none
    ∙ command_cases (lack_in block) block.line block.target (first_spoiler [] block.lines) (orders_in block.lines)
    ∙ sym (kept_status_is block))

begun_cases : (b : Bool) (n : ℕ) (f : RequestFault) → open_at n (starved_or (or_else (if b then Some n else None) None) (Spoiled (fault_at n f)))
    ≡ open_at n (if b then Starved n else Spoiled (fault_at n f))
begun_cases true n f = refl
begun_cases false n f = refl

-- what is kept of a block that has just begun
opened_target : (n : ℕ) (target : Id) → kept (record { line = n; target = Ok target; lines = [] }) ≡ open_at n (Building (record { target = target; lines = [] }))
unfolding kept first_lack first_spoiler
opened_target n target = refl

opened_fault : (n : ℕ) (f : RequestFault) → kept (record { line = n; target = Err f; lines = [] }) ≡ open_at n (spoiled_by (fault_at n f))
unfolding kept first_lack
opened_fault n f = begun_cases (is_lack_of_memory f) n f

-- the block that is kept after a line is what is kept of the block after it
pub kept_step : (block : Option BlockLines) (line : ParsedLine) → kept_after (option_map kept block) line ≡ option_map kept (block_after block line)
unfolding kept_after block_after kept first_lack first_spoiler
kept_step block line = by_parsed block line.number line.parsed
  where
    by_parsed : (block : Option BlockLines) (n : ℕ) (h : Parsed) → kept_after (option_map kept block) (record { number = n; parsed = h })
        ≡ option_map kept (block_after block (record { number = n; parsed = h }))
    by_parsed block n (parsed.Stops f) = refl
    by_parsed block n (parsed.Refused opening.ReorderAfter f) = ap Some (sym (opened_fault n f))
    by_parsed block n (parsed.Refused opening.ReorderEnd f) = refl
    by_parsed None n (parsed.Refused opening.Neither f) = refl
    by_parsed (Some block) n (parsed.Refused opening.Neither f) = ap Some (sym (kept_with_fault block (record { number = n; parsed = parsed.Refused opening.Neither f }) (fault_at n f) refl refl refl))
    by_parsed None n (parsed.Command c) = refl
    by_parsed (Some block) n (parsed.Command c) = ap Some (sym (kept_with_command block (record { number = n; parsed = parsed.Command c }) refl refl refl))
    by_parsed None n (parsed.BadCommand f) = refl
    by_parsed (Some block) n (parsed.BadCommand f) = ap Some (sym (kept_with_command block (record { number = n; parsed = parsed.BadCommand f }) refl refl refl))
    by_parsed block n (parsed.BlockStart target) = ap Some (sym (opened_target n target))
    by_parsed block n parsed.BlockEnd = refl
    by_parsed None n (parsed.OrderLine order) = refl
    by_parsed (Some block) n (parsed.OrderLine order) = ap Some (sym (kept_with_order block n order))
    by_parsed None n (parsed.Standalone a) = refl
    by_parsed (Some block) n (parsed.Standalone a) = ap Some (sym (kept_with_fault block (record { number = n; parsed = parsed.Standalone a }) (fault_at n fault.BlockOpen) refl refl refl))

request_cases : (lack : Option ℕ) (line : ℕ) (target : Result Id RequestFault) (lines : List ParsedLine) → request_by_status line (starved_or lack (status_of line target lines))
    ≡ unless_starved lack (request_of line target lines)
request_cases (Some w) line target lines = refl
request_cases None line (Ok target) lines = stated (first_spoiler [] lines)
  where
    stated : (spoiler : Option FaultAt) → request_by_status line (status_unless spoiler target (orders_in lines)) ≡ stated_unless spoiler line target (orders_in lines)
    stated None = refl
    stated (Some at) = refl
request_cases None line (Err f) lines = refl

-- the request of a block is that of what is kept of it
pub request_kept : (block : BlockLines) → kept_request (kept block) ≡ block_request block
unfolding kept block_request
request_kept block = request_cases (lack_in block) block.line block.target block.lines

-- the requests that a line completes, by what is kept, are those of the definition
pub requests_step : (block : Option BlockLines) (line : ParsedLine) → kept_requests_at (option_map kept block) line ≡ requests_at block line
unfolding kept_requests_at requests_at
requests_step block line = by_parsed block line.number line.parsed
  where
    one : (a b : RequestAt) → a ≡ b → a ∷ [] ≡ b ∷ []
    one a b e = ap (λ (u : RequestAt). u ∷ []) e

    by_parsed : (block : Option BlockLines) (n : ℕ) (h : Parsed) → kept_requests_at (option_map kept block) (record { number = n; parsed = h }) ≡ requests_at block (record { number = n; parsed = h })
    by_parsed block n (parsed.Stops f) = refl
    by_parsed None n (parsed.Refused opening.ReorderAfter f) = refl
    by_parsed (Some block) n (parsed.Refused opening.ReorderAfter f) = one (kept_request (kept block)) (block_request block) (request_kept block)
    by_parsed None n (parsed.Refused opening.ReorderEnd f) = refl
    by_parsed (Some block) n (parsed.Refused opening.ReorderEnd f) =
        let line : ParsedLine = record { number = n; parsed = parsed.Refused opening.ReorderEnd f } in
        one (kept_request (spoiled (kept block) (fault_at n f))) (block_request (with_line block line)) (ap kept_request (sym (kept_with_fault block line (fault_at n f) refl refl refl))
        ∙ request_kept (with_line block line))
    by_parsed None n (parsed.Refused opening.Neither f) = refl
    by_parsed (Some block) n (parsed.Refused opening.Neither f) = refl
    by_parsed None n (parsed.Command c) = refl
    by_parsed (Some block) n (parsed.Command c) = refl
    by_parsed None n (parsed.BadCommand f) = refl
    by_parsed (Some block) n (parsed.BadCommand f) = refl
    by_parsed None n (parsed.BlockStart target) = refl
    by_parsed (Some block) n (parsed.BlockStart target) = one (kept_request (kept block)) (block_request block) (request_kept block)
    by_parsed None n parsed.BlockEnd = refl
    by_parsed (Some block) n parsed.BlockEnd = one (kept_request (kept block)) (block_request block) (request_kept block)
    by_parsed None n (parsed.OrderLine order) = refl
    by_parsed (Some block) n (parsed.OrderLine order) = refl
    by_parsed None n (parsed.Standalone a) = refl
    by_parsed (Some block) n (parsed.Standalone a) = refl

left_open_cases : (lack : Option ℕ) (line : ℕ) (target : Result Id RequestFault) (spoiler : Option FaultAt) (orders : List OrderLine)
    → left_open_by_status line (kept_status_by lack line target spoiler orders) ≡ not_ended line lack
left_open_cases (Some w) line target spoiler orders = refl
left_open_cases None line (Ok target) None orders = refl
left_open_cases None line (Ok target) (Some at) orders = refl
left_open_cases None line (Err f) spoiler orders = refl

left_open_kept : (block : BlockLines) → kept_left_open (kept block) ≡ block_left_open block
unfolding kept block_left_open
left_open_kept block =
    ap (left_open_by_status block.line) (kept_status_is block) ∙ left_open_cases (lack_in block) block.line block.target (first_spoiler [] block.lines) (orders_in block.lines)

dropped_cases : (lack : Option ℕ) (line : ℕ) (target : Result Id RequestFault) (spoiler : Option FaultAt) (orders : List OrderLine)
    → option_to_list (dropped_by_status (kept_status_by lack line target spoiler orders)) ≡ map starved_at (option_to_list lack)
dropped_cases (Some w) line target spoiler orders = refl
dropped_cases None line (Ok target) None orders = refl
dropped_cases None line (Ok target) (Some at) orders = refl
dropped_cases None line (Err f) spoiler orders = refl

dropped_kept : (block : Option BlockLines) → kept_dropped_faults (option_map kept block) ≡ dropped_faults block
unfolding kept dropped_faults
dropped_kept None = refl
dropped_kept (Some block) =
    ap (λ (s : BlockStatus). option_to_list (dropped_by_status s)) (kept_status_is block) ∙ dropped_cases (lack_in block) block.line block.target (first_spoiler [] block.lines) (orders_in block.lines)

end_kept : (block : Option BlockLines) (continued : Option ℕ) → kept_end_faults (option_map kept block) continued ≡ end_faults block continued
end_kept None continued = refl
end_kept (Some block) continued = ap (λ (at : FaultAt). at ∷ []) (left_open_kept block)

last_kept : (block : Option BlockLines) (n : ℕ) (f : LexFault) → kept_last_faults (option_map kept block) n f ≡ last_faults block n f
last_kept block n f = by_fault f
  where
    dropped : (f : LexFault) → kept_dropped_faults (option_map kept block) ++ fault_at n (fault.Lex f) ∷ [] ≡ dropped_faults block ++ fault_at n (fault.Lex f) ∷ []
    dropped f = ap (λ (fs : List FaultAt). fs ++ fault_at n (fault.Lex f) ∷ []) (dropped_kept block)

    by_fault : (f : LexFault) → kept_last_faults (option_map kept block) n f ≡ last_faults block n f
    by_fault lex.DanglingEscape = end_kept block (Some n)
    by_fault lex.LineTooLong = dropped lex.LineTooLong
    by_fault lex.TooManyLines = dropped lex.TooManyLines
    by_fault lex.NotUtf8 = dropped lex.NotUtf8
    by_fault lex.OpenSymbol = dropped lex.OpenSymbol
    by_fault lex.EmptySymbol = dropped lex.EmptySymbol
    by_fault lex.BadName = dropped lex.BadName
    by_fault lex.BadCodePoint = dropped lex.BadCodePoint
    by_fault lex.OpenString = dropped lex.OpenString
    by_fault lex.CharacterConstant = dropped lex.CharacterConstant
    by_fault lex.BadCharDirective = dropped lex.BadCharDirective
    by_fault lex.OutOfMemory = dropped lex.OutOfMemory

last_or_kept : (stop : Option LexFault) (block : Option BlockLines) (n : ℕ) (kept_more more : List RequestAt) → kept_more ≡ more → kept_last_or stop (option_map kept block) n kept_more
    ≡ last_or stop block n more
last_or_kept None block n kept_more more e = e
last_or_kept (Some f) block n kept_more more e = ap refusals (last_kept block n f)

-- the requests of lines by what is kept are the requests of the definition
pub requests_kept : (ends : Bool) (block : Option BlockLines) (lines : List ParsedLine) → kept_requests ends (option_map kept block) lines ≡ requests ends block lines
unfolding kept_requests requests
requests_kept true block [] = ap refusals (end_kept block None)
requests_kept false block [] = refl
requests_kept ends block (line ∷ lines) =
    last_or_kept (stop_of line.parsed) block line.number _ _
    (ap (λ (us : List RequestAt). us ++ kept_requests ends (kept_after (option_map kept block) line) lines) (requests_step block line)
    ∙ ap (λ (b : Option OpenBlock). requests_at block line ++ kept_requests ends b lines) (kept_step block line)
    ∙ ap (λ (us : List RequestAt). requests_at block line ++ us) (requests_kept ends (block_after block line) lines))
