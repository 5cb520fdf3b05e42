-- The places are those of the table before the last record was turned.
use Rattle.coll_history.proofs.FollowedPlaces.{places_counted}
use Rattle.coll_history.proofs.HistorySteps.{fits_counted}
use Rattle.coll_history.proofs.following.follow_last.Goals as goal

pub follow-requires-clause-fits : goal.follow-requires-clause-fits
follow-requires-clause-fits c = fits_counted c.args.table.now c.in-Some.last.now (c.requires.fits _ c.in-Some.last.now c.in-Some.ensures.cases.0)

pub follow-requires-clause-numbers : goal.follow-requires-clause-numbers
follow-requires-clause-numbers c = places_counted c.args.numbers.now c.args.table.now c.in-Some.last.now (c.requires.places _ c.in-Some.last.now c.in-Some.ensures.cases.0)
