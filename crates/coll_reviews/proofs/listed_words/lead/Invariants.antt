-- Those so far are led.
use Rattle.coll_reviews.proofs.ListedLemmas.{LedSoFar}
use Rattle.coll_reviews.proofs.listed_words.lead.Given as goal

abbrev pub invariant-loop-listed : goal.invariant-loop-listed
invariant-loop-listed l = LedSoFar l.initial.list l.list l.listed-index l.leader
