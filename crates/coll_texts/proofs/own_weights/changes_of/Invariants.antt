-- The entries met so far have their changes.
use Rattle.coll_texts.proofs.OwnChanges.{IsGathered}
use Rattle.coll_texts.proofs.own_weights.changes_of.Given as goal

abbrev pub invariant-loop-item : goal.invariant-loop-item
invariant-loop-item l = IsGathered l.body.layout l.changes.items l.item-iterator
