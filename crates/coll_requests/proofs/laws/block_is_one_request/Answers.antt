use Rattle.coll_requests.proofs.BlockLaws.{ends_so, ends_refused, ends_at_next}
use Rattle.coll_requests.proofs.laws.block_is_one_request.Goals as goal

pub returns : goal.returns
returns g = record { ended = ends_so; ended_refused = ends_refused; ended_at_next = ends_at_next }
