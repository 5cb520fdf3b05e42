use Rattle.collbench.proofs.WrittenDeltaLemmas as lemmas
use Rattle.collbench.proofs.laws.written_deltas_are_accepted.Goals as goal

pub returns : goal.returns
returns c = lemmas.written_deltas_are_accepted c.written_deltas_are_read_back.ensures
