use Rattle.coll_explanations.proofs.DecidingLevels.{levels_decide, orders_of_levels}
use Rattle.coll_explanations.proofs.explaining.told_levels_decide.Goals as goal

pub returns-clause-levels : goal.returns-clause-levels
returns-clause-levels c = levels_decide

pub returns-clause-order : goal.returns-clause-order
returns-clause-order c = orders_of_levels
