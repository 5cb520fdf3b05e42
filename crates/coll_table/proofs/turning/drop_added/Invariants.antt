use Rattle.coll_table.proofs.RecordForgets.{AreDropped}
use Rattle.coll_table.proofs.turning.drop_added.Given as goal

abbrev pub invariant-loop-item : goal.invariant-loop-item
invariant-loop-item l = AreDropped l.initial.body.layout l.items l.initial.body.steps l.item-index l.body.layout l.body.steps
