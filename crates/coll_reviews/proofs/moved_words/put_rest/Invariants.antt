-- What was put, and what is left, is the whole.
use Rattle.std.proofs.Common.{◌≡◌, ◌++◌, reverse}
use Rattle.coll_reviews.proofs.moved_words.put_rest.Given as goal

abbrev pub invariant-moved : goal.invariant-moved
invariant-moved l = l.list.items ++ reverse l.moved.items ≡ l.initial.list.items ++ reverse l.initial.moved.items

abbrev pub decreases-moved : goal.decreases-moved
decreases-moved l = goal.left-moved l
