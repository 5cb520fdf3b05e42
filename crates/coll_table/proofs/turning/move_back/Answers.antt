-- A node that an item in force names stands in a ring.
use Rattle.coll_table.proofs.TurningSteps.{names_linked}
use Rattle.coll_table.proofs.turning.move_back.Goals as goal

pub relink-requires-clause-linked : goal.relink-requires-clause-linked
relink-requires-clause-linked c = names_linked c.args.gets c.args.had c.args.body.now.layout c.args.node c.requires.goes

pub take_out-requires-clause-linked : goal.take_out-requires-clause-linked
take_out-requires-clause-linked c = names_linked c.args.gets c.args.had c.args.body.now.layout c.args.node c.requires.goes
