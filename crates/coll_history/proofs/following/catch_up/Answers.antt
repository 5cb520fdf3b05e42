-- The last record of either list fits.
use Rattle.coll_history.specs.Kept.{uncounted}
use Rattle.coll_history.proofs.LoweredHistories.{last_fits, next_fits}
use Rattle.coll_history.proofs.following.catch_up.Goals as goal

pub follow_last-requires-clause-fits : goal.follow_last-requires-clause-fits
follow_last-requires-clause-fits c = last_fits (uncounted c.args.table.now) c.args.remaining.now c.requires.leads

pub follow_last-requires-in-BeforeUndo-clause-fits : goal.follow_last-requires-in-BeforeUndo-clause-fits
follow_last-requires-in-BeforeUndo-clause-fits c = next_fits (uncounted c.args.table.now) c.args.undone.now c.requires.leads_on
