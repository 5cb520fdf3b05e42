-- Those so far and those to come are all.
use Rattle.coll_reviews.proofs.ListedLemmas.{CountedSoFar}
use Rattle.coll_reviews.proofs.review_lines.new_pairs.Given as goal

abbrev pub invariant-loop-place : goal.invariant-loop-place
invariant-loop-place l = CountedSoFar l.list l.place l.count
