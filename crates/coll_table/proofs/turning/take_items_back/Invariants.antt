use Rattle.coll_table.proofs.TurningSteps.{AreBack}
use Rattle.coll_table.proofs.turning.take_items_back.Given as goal

abbrev pub invariant-loop-at : goal.invariant-loop-at
invariant-loop-at l = AreBack l.initial.body.layout l.initial.items l.initial.body.steps l.at l.body.layout l.items l.count l.body.steps
