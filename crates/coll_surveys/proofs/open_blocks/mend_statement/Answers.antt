-- Nothing is left of a statement that is no block.
use Rattle.coll_surveys.proofs.MendingLemmas.{no_block}
use Rattle.coll_surveys.proofs.open_blocks.mend_statement.Goals as goal

pub returns-in_default : goal.returns-in_default
returns-in_default c = no_block c.args.statement.now c.args.found.now c.in_default.not-Block
