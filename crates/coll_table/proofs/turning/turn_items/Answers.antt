-- Undone items say where their nodes stand.
use Rattle.std.proofs.Common.{◌∙◌}
use Rattle.coll_table.proofs.TurningSteps.{undone_goes, undone_turned}
use Rattle.coll_table.proofs.turning.turn_items.Goals as goal

pub do_items-requires-clause-goes : goal.do_items-requires-clause-goes
do_items-requires-clause-goes c = undone_goes c.args.undone c.args.body.now.layout c.args.items.now c.if-undone.true c.requires.goes

pub returns-then-undone-clause-items : goal.returns-then-undone-clause-items
returns-then-undone-clause-items c = c.do_items.ensures.items ∙ undone_turned c.args.undone c.args.body.now.layout c.args.items.now c.if-undone.true c.requires.goes
