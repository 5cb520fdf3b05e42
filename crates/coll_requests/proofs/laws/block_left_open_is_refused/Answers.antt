use Rattle.coll_requests.proofs.BlockLaws.{left_open_so, stopped_so}
use Rattle.coll_requests.proofs.laws.block_left_open_is_refused.Goals as goal

pub returns : goal.returns
returns g = record { left_open = left_open_so; stopped = stopped_so }
