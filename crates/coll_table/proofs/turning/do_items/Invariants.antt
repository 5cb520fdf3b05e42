use Rattle.coll_table.proofs.TurningSteps.{AreOn}
use Rattle.coll_table.proofs.turning.do_items.Given as goal

abbrev pub invariant-loop-item : goal.invariant-loop-item
invariant-loop-item l = AreOn l.initial.body.layout l.initial.items l.initial.body.steps l.item-index l.body.layout l.items l.count l.body.steps
