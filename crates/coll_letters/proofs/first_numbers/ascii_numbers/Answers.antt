-- At first there is none.
use Rattle.coll_nodes.specs.TableLayout.{collation}
use Rattle.coll_letters.proofs.NumberLemmas.{no_number_yet}
use Rattle.coll_letters.proofs.first_numbers.ascii_numbers.Goals as goal

pub loop-kept-init : goal.loop-kept-init
loop-kept-init c = no_number_yet (collation c.args._table.now) c.in_ok-ascii.ascii.items c.in_ok-ascii.ensures
