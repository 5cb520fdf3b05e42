-- The requests of a block, above the recursion: a block takes its lines one after another, and the line that ends it makes
-- one request of them.
use Rattle.std.proofs.Common.{◌≡◌, ℕ, Bool, true, List, [], ◌∷◌, ◌++◌, Some, None, Result, Ok, Err, refl, sym, ap, ◌∙◌, append-nil, append_assoc}
use Rattle.std.specs.List.{list_all}
use Rattle.std.proofs.lemmas.Bool.{and_parts}
use Rattle.std.proofs.lemmas.Grind.{flat_map-append}
use Rattle.coll_lex.specs.declared.faults.LexFault.{LexFault}
use Rattle.coll_syntax.specs.declared.identifiers.Id.{Id}
use Rattle.coll_requests.specs.Requests.{BlockLines, with_line, command_refused_by, commands_refused_in, block_request}
use Rattle.coll_requests.specs.Requests.{block_left_open, last_faults, refusals, refused_at, requests_at, block_after, requests}
use Rattle.coll_requests.specs.Laws.{stays, AllStay, opens, opener, block_with, ender, refused_ender, stopper, BlockEnds, BlockEndsRefused, BlockEndsAtNext, BlockLeftOpen, BlockStopped}
use Rattle.coll_requests.specs.declared.request_faults.RequestFault.{RequestFault}
use Rattle.coll_requests.specs.declared.session_lines.Opening.TheVariants as opening
use Rattle.coll_requests.specs.declared.session_lines.Parsed.{Parsed}
use Rattle.coll_requests.specs.declared.session_lines.Parsed.TheVariants as parsed
use Rattle.coll_requests.specs.declared.session_lines.ParsedLine.{ParsedLine}
use Rattle.coll_requests.specs.declared.requests.RequestAt.{RequestAt}

abbrev Requests : Type 0
Requests = List RequestAt

-- a block with further lines
abbrev with_lines : BlockLines → List ParsedLine → BlockLines
with_lines block lines = record { line = block.line; target = block.target; lines = block.lines ++ lines }

-- a line that stays in the block gives its refusal, if it is a command, and is one of the block's lines
stays_one : (ends : Bool) (block : BlockLines) (line : ParsedLine) (later : List ParsedLine) → stays line.parsed ≡ true
    → requests ends (Some block) (line ∷ later) ≡ commands_refused_in (line ∷ []) ++ requests ends (Some (with_line block line)) later
unfolding requests requests_at block_after
stays_one ends block line later stay = by_parsed line.number line.parsed stay
  where
    by_parsed : (n : ℕ) (h : Parsed) → stays h ≡ true
        → requests ends (Some block) (record { number = n; parsed = h } ∷ later) ≡ commands_refused_in (record { number = n; parsed = h } ∷ [])
        ++ requests ends (Some (with_line block (record { number = n; parsed = h }))) later
    by_parsed n (parsed.Stops f) no_stay = absurd cc
    by_parsed n (parsed.Refused opening.ReorderAfter f) no_stay = absurd cc
    by_parsed n (parsed.Refused opening.ReorderEnd f) no_stay = absurd cc
    by_parsed n (parsed.Refused opening.Neither f) stay = refl
    by_parsed n (parsed.Command c) stay = refl
    by_parsed n (parsed.BadCommand f) stay = refl
    by_parsed n (parsed.BlockStart target) no_stay = absurd cc
    by_parsed n parsed.BlockEnd no_stay = absurd cc
    by_parsed n (parsed.OrderLine order) stay = refl
    by_parsed n (parsed.Standalone a) stay = refl

commands-cons : (line : ParsedLine) (body : List ParsedLine) → commands_refused_in (line ∷ body) ≡ commands_refused_in (line ∷ []) ++ commands_refused_in body
commands-cons line body = flat_map-append (λ (l : ParsedLine). command_refused_by l.number l.parsed) (line ∷ []) body

abbrev all_stay : List ParsedLine → Bool
all_stay lines = list_all (λ (line : ParsedLine). stays line.parsed) lines

-- lines that stay in the block give the refusals of the commands among them, and are lines of the block
stay_all : (ends : Bool) (block : BlockLines) (body later : List ParsedLine) → AllStay body → requests ends (Some block) (body ++ later)
    ≡ commands_refused_in body ++ requests ends (Some (with_lines block body)) later
stay_all ends block [] later all = ap (λ (ls : List ParsedLine). requests ends (Some (record { line = block.line; target = block.target; lines = ls })) later) (sym (append-nil block.lines))
stay_all ends block (line ∷ body) later all =
    let first : stays line.parsed ≡ true = (and_parts (stays line.parsed) (all_stay body) all).0 in
    let others : AllStay body = (and_parts (stays line.parsed) (all_stay body) all).1 in
    stays_one ends block line (body ++ later) first
    ∙ ap (λ (us : Requests). commands_refused_in (line ∷ []) ++ us) (stay_all ends (with_line block line) body later others)
    ∙ sym (append_assoc (commands_refused_in (line ∷ [])) (commands_refused_in body) (requests ends (Some (with_lines (with_line block line) body)) later))
    ∙ ap (λ (us : Requests). us ++ requests ends (Some (with_lines (with_line block line) body)) later) (sym (commands-cons line body))
    ∙ ap (λ (ls : List ParsedLine). commands_refused_in (line ∷ body) ++ requests ends (Some (record { line = block.line; target = block.target; lines = ls })) later)
    (append_assoc block.lines (line ∷ []) body)

-- the line that opens a block completes nothing
opened_first : (ends : Bool) (n : ℕ) (target : Result Id RequestFault) (later : List ParsedLine) → requests ends None (opener n target ∷ later) ≡ requests ends (Some (block_with n target [])) later
unfolding requests requests_at block_after
opened_first ends n (Ok target) later = refl
opened_first ends n (Err f) later = refl

-- the lines from the first of a block up to some moment
block_to : (ends : Bool) (n : ℕ) (target : Result Id RequestFault) (body later : List ParsedLine) → AllStay body
    → requests ends None (opener n target ∷ (body ++ later)) ≡ commands_refused_in body ++ requests ends (Some (block_with n target body)) later
block_to ends n target body later all = opened_first ends n target (body ++ later) ∙ stay_all ends (block_with n target []) body later all

ended_by : (ends : Bool) (block : BlockLines) (m : ℕ) (later : List ParsedLine) → requests ends (Some block) (ender m ∷ later) ≡ block_request block ∷ requests ends None later
unfolding requests requests_at block_after
ended_by ends block m later = refl

refused_by : (ends : Bool) (block : BlockLines) (m : ℕ) (f : RequestFault) (later : List ParsedLine) → requests ends (Some block) (refused_ender m f ∷ later)
    ≡ block_request (with_line block (refused_ender m f)) ∷ requests ends None later
unfolding requests requests_at block_after
refused_by ends block m f later = refl

next_by : (ends : Bool) (block : BlockLines) (next : ParsedLine) (later : List ParsedLine) → opens next.parsed ≡ true → requests ends (Some block) (next ∷ later)
    ≡ block_request block ∷ requests ends None (next ∷ later)
unfolding requests requests_at block_after
next_by ends block next later begins = by_parsed next.number next.parsed begins
  where
    by_parsed : (n : ℕ) (h : Parsed) → opens h ≡ true → requests ends (Some block) (record { number = n; parsed = h } ∷ later)
        ≡ block_request block ∷ requests ends None (record { number = n; parsed = h } ∷ later)
    by_parsed n (parsed.Stops f) none = absurd cc
    by_parsed n (parsed.Refused opening.ReorderAfter f) begins = refl
    by_parsed n (parsed.Refused opening.ReorderEnd f) none = absurd cc
    by_parsed n (parsed.Refused opening.Neither f) none = absurd cc
    by_parsed n (parsed.Command c) none = absurd cc
    by_parsed n (parsed.BadCommand f) none = absurd cc
    by_parsed n (parsed.BlockStart target) begins = refl
    by_parsed n parsed.BlockEnd none = absurd cc
    by_parsed n (parsed.OrderLine order) none = absurd cc
    by_parsed n (parsed.Standalone a) none = absurd cc

end_by : (block : BlockLines) → requests true (Some block) [] ≡ refused_at (block_left_open block) ∷ []
unfolding requests
end_by block = refl

stop_by : (ends : Bool) (block : BlockLines) (m : ℕ) (f : LexFault) (later : List ParsedLine) → requests ends (Some block) (stopper m f ∷ later) ≡ refusals (last_faults (Some block) m f)
unfolding requests
stop_by ends block m f later = refl

pub ends_so : BlockEnds
ends_so ends n m target body later all = block_to ends n target body (ender m ∷ later) all ∙ ap (λ (us : Requests). commands_refused_in body ++ us) (ended_by ends (block_with n target body) m later)

pub ends_refused : BlockEndsRefused
ends_refused ends n m target f body later all =
    block_to ends n target body (refused_ender m f ∷ later) all ∙ ap (λ (us : Requests). commands_refused_in body ++ us) (refused_by ends (block_with n target body) m f later)

pub ends_at_next : BlockEndsAtNext
ends_at_next ends n target body next later all begins =
    block_to ends n target body (next ∷ later) all ∙ ap (λ (us : Requests). commands_refused_in body ++ us) (next_by ends (block_with n target body) next later begins)

pub left_open_so : BlockLeftOpen
left_open_so n target body all =
    ap (λ (ls : List ParsedLine). requests true None (opener n target ∷ ls)) (sym (append-nil body))
    ∙ block_to true n target body [] all ∙ ap (λ (us : Requests). commands_refused_in body ++ us) (end_by (block_with n target body))

pub stopped_so : BlockStopped
stopped_so ends n m target f body later all =
    block_to ends n target body (stopper m f ∷ later) all ∙ ap (λ (us : Requests). commands_refused_in body ++ us) (stop_by ends (block_with n target body) m f later)
