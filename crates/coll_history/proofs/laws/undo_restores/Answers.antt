-- The law, by the two lists of a history.
use Rattle.coll_history.proofs.LawLemmas.{undo_restores}
use Rattle.coll_history.proofs.laws.undo_restores.Goals as goal

pub returns : goal.returns
returns g = undo_restores
