-- What is kept of a block stands for the block, as long as no line has spoiled it: the fault of a line, and the request that comes
-- before it.
use Rattle.std.proofs.Common.{◌≡◌, ℕ, Bool, List, [], ◌∷◌, length, Option, Some, None, Result, Ok, Err, refl, ap, ◌∙◌, subst}
use Rattle.std.specs.Prelude.{nat_le, if◌then◌else◌, option_map}
use Rattle.coll_syntax.specs.declared.identifiers.Id.{Id}
use Rattle.coll_syntax.specs.declared.syntax_faults.SyntaxFault.TheVariants as syntax
use Rattle.coll_syntax.specs.declared.statements.OrderLine.{OrderLine}
use Rattle.coll_requests.specs.Limits.{most_block_lines}
use Rattle.coll_requests.specs.Requests.{BlockLines, fault_at, orders_in, first_spoiler, lack_in}
use Rattle.coll_requests.specs.OpenBlocks.{is_full, kept}
use Rattle.coll_requests.specs.DeltaFiles.{fault_under, ended_before}
use Rattle.coll_requests.specs.DeltaReading.{Unspoiled, IsUnspoiled, kept_fault_under, kept_ended_before}
use Rattle.coll_requests.specs.declared.session_lines.Opening.TheVariants as opening
use Rattle.coll_requests.specs.declared.session_lines.Parsed.{Parsed}
use Rattle.coll_requests.specs.declared.session_lines.Parsed.TheVariants as parsed
use Rattle.coll_requests.specs.declared.session_lines.ParsedLine.{ParsedLine}
use Rattle.coll_requests.specs.declared.request_faults.RequestFault.{RequestFault}
use Rattle.coll_requests.specs.declared.request_faults.RequestFault.TheVariants as fault
use Rattle.coll_requests.specs.declared.requests.FaultAt.{FaultAt}
use Rattle.coll_requests.specs.declared.requests.RequestAt.{RequestAt}
use Rattle.coll_requests.proofs.BlockLemmas.{kept_status_by, kept_status_is, request_kept}

full_by : (lack : Option ℕ) (line : ℕ) (target : Result Id RequestFault) (spoiler : Option FaultAt) (orders : List OrderLine) → Unspoiled (kept_status_by lack line target spoiler orders)
    → is_full (kept_status_by lack line target spoiler orders) ≡ nat_le most_block_lines (length orders)
full_by (Some w) line target spoiler orders sound = absurd sound
full_by None line (Ok target) None orders sound = refl
full_by None line (Ok target) (Some at) orders sound = absurd sound
full_by None line (Err f) spoiler orders sound = absurd sound

-- a block that isn't spoiled has all lines that it may have where it has so many order lines
full_kept : (block : BlockLines) → Unspoiled (kept block).status → is_full (kept block).status ≡ nat_le most_block_lines (length (orders_in block.lines))
unfolding kept
full_kept block sound =
    ap is_full (kept_status_is block) ∙ full_by (lack_in block) block.line block.target (first_spoiler [] block.lines) (orders_in block.lines) (subst Unspoiled (kept_status_is block) sound)

-- the fault of a line by what is kept is that of the definition
pub fault_step : (block : Option BlockLines) (line : ParsedLine) → IsUnspoiled (option_map kept block) → kept_fault_under (option_map kept block) line ≡ fault_under block line
fault_step block line sound = by_parsed block line.number line.parsed sound
  where
    by_parsed : (block : Option BlockLines) (n : ℕ) (h : Parsed) → IsUnspoiled (option_map kept block) → kept_fault_under (option_map kept block) (record { number = n; parsed = h })
        ≡ fault_under block (record { number = n; parsed = h })
    by_parsed None n h sound = refl
    by_parsed (Some block) n (parsed.Stops f) sound = refl
    by_parsed (Some block) n (parsed.Refused o f) sound = refl
    by_parsed (Some block) n (parsed.Command c) sound = refl
    by_parsed (Some block) n (parsed.BadCommand f) sound = refl
    by_parsed (Some block) n (parsed.BlockStart target) sound = refl
    by_parsed (Some block) n parsed.BlockEnd sound = refl
    by_parsed (Some block) n (parsed.OrderLine order) sound = ap (λ (full : Bool). if full then Some (fault_at n (fault.Syntax syntax.BlockTooLong)) else None) (full_kept block sound)
    by_parsed (Some block) n (parsed.Standalone a) sound = refl

-- the request of the block that a line at fault ends, by what is kept
pub ended_step : (block : Option BlockLines) (h : Parsed) → kept_ended_before (option_map kept block) h ≡ ended_before block h
ended_step block (parsed.Stops f) = refl
ended_step None (parsed.Refused opening.ReorderAfter f) = refl
ended_step (Some block) (parsed.Refused opening.ReorderAfter f) = ap (λ (u : RequestAt). u ∷ []) (request_kept block)
ended_step block (parsed.Refused opening.ReorderEnd f) = refl
ended_step block (parsed.Refused opening.Neither f) = refl
ended_step block (parsed.Command c) = refl
ended_step block (parsed.BadCommand f) = refl
ended_step block (parsed.BlockStart target) = refl
ended_step block parsed.BlockEnd = refl
ended_step block (parsed.OrderLine order) = refl
ended_step block (parsed.Standalone a) = refl
