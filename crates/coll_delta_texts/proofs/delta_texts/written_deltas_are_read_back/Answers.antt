-- The answers for the goals of `written_deltas_are_read_back`.
use Rattle.coll_delta_texts.proofs.ReadFiles as read
use Rattle.coll_delta_texts.proofs.delta_texts.written_deltas_are_read_back.Goals as goal

pub returns : goal.returns
returns c = read.written_deltas_are_read_back
