-- A line that was parsed is taken as it is, or, where memory is refused to an order line, as a refused one.
use Rattle.std.proofs.Common.{◌≡◌, ℕ, Bool, true, false, Option}
use Rattle.std.proofs.lemmas.Bool.{false≢true}
use Rattle.std.specs.Prelude.{option_to_list}
use Rattle.coll_syntax.specs.declared.statements.OrderLine.{OrderLine}
use Rattle.coll_requests.specs.Parsing.{no_memory}
use Rattle.coll_requests.specs.OpenBlocks.{kept_by, kept_after, kept_requests_by, kept_requests_at}
use Rattle.coll_requests.specs.Taking.{TakesParsing}
use Rattle.coll_requests.specs.declared.open_blocks.OpenBlock.{OpenBlock}
use Rattle.coll_requests.specs.declared.session_lines.Opening.{Opening}
use Rattle.coll_requests.specs.declared.session_lines.Parsed.{Parsed}
use Rattle.coll_requests.specs.declared.session_lines.Parsed.TheVariants as parsed
use Rattle.coll_requests.specs.declared.requests.RequestAt.{RequestAt}

-- a line to which no memory was refused
pub taken_so : (block after : Option OpenBlock) (request : Option RequestAt) (n : ℕ) (h : Parsed) (opening : Opening) → after ≡ kept_by block n h → option_to_list request ≡ kept_requests_by block n h
    → (starved : Bool) × TakesParsing starved block (record { line = record { number = n; parsed = h }; opening = opening }) after request
unfolding kept_after kept_requests_at
taken_so block after request n h opening kept completes = (false, record { kept = kept; completes = completes; order = λ e. absurd (false≢true e) })

-- an order line to which memory was refused
pub taken_starved : (block after : Option OpenBlock) (request : Option RequestAt) (n : ℕ) (order : OrderLine) (opening : Opening) → after ≡ kept_by block n (no_memory opening)
    → option_to_list request ≡ kept_requests_by block n (no_memory opening)
    → (starved : Bool) × TakesParsing starved block (record { line = record { number = n; parsed = parsed.OrderLine order }; opening = opening }) after request
unfolding kept_after kept_requests_at
taken_starved block after request n order opening kept completes = (true, record { kept = kept; completes = completes; order = λ e. tt })
