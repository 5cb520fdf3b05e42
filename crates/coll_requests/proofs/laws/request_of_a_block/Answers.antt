use Rattle.coll_requests.proofs.BlockRequests.{block_states, block_starves, block_begun_refused, block_spoiled}
use Rattle.coll_requests.proofs.laws.request_of_a_block.Goals as goal

pub returns : goal.returns
returns g = record { states = block_states; starves = block_starves; begun_refused = block_begun_refused; spoiled = block_spoiled }
