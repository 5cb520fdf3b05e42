-- The line joins the block, or is a refused one; where no block is open it is a statement.
use Rattle.std.proofs.Common.{Some, None, [], ◌∷◌, refl, ap, ◌∙◌}
use Rattle.coll_requests.specs.Parsing.{no_memory}
use Rattle.coll_requests.specs.OpenBlocks.{kept_by, kept_requests_by}
use Rattle.coll_requests.proofs.TakingLemmas.{taken_so, taken_starved}
use Rattle.coll_requests.specs.declared.open_blocks.OpenBlock.{OpenBlock}
use Rattle.coll_requests.specs.declared.session_lines.Parsed.TheVariants as parsed
use Rattle.coll_requests.specs.declared.requests.RequestAt.{RequestAt}
use Rattle.coll_requests.proofs.open_blocks.take_order.Goals as goal

pub returns-in_default-clause-taken : goal.returns-in_default-clause-taken
returns-in_default-clause-taken c =
    rw c.in_default.is
    (taken_so None None (Some c.stated.result) c.args.number (parsed.OrderLine c.args.order) c.args.opening refl (ap (λ (request : RequestAt). request ∷ []) c.stated.ensures.request))

pub returns-in-Ok-clause-taken : goal.returns-in-Ok-clause-taken
returns-in-Ok-clause-taken c =
    rw c.in-Some.is (taken_so (Some c.in-Some.open) (Some c.join.new.self) None c.args.number (parsed.OrderLine c.args.order) c.args.opening (ap Some c.in-Ok.ensures.ok) refl)

pub returns-in-Err-clause-taken : goal.returns-in-Err-clause-taken
returns-in-Err-clause-taken c =
    rw c.in-Some.is
    (taken_starved (Some c.in-Some.open) c.take_starved.new.block c.take_starved.result c.args.number c.args.order c.args.opening
    (c.take_starved.ensures.block ∙ ap (λ (b : OpenBlock). kept_by (Some b) c.args.number (no_memory c.args.opening)) c.in-Err.ensures.err)
    (c.take_starved.ensures.request ∙ ap (λ (b : OpenBlock). kept_requests_by (Some b) c.args.number (no_memory c.args.opening)) c.in-Err.ensures.err))
