-- What was put, and what is left, is the whole.
use Rattle.std.proofs.Common.{vec_len}
use Rattle.coll_reviews.proofs.OrderedWords.{PutsDownTo}
use Rattle.coll_reviews.proofs.moved_words.put_last.Given as goal

abbrev pub invariant-kept : goal.invariant-kept
invariant-kept l = PutsDownTo l.left l.initial.list.items l.initial.kept.items l.list.items l.kept.items

abbrev pub decreases-kept : goal.decreases-kept
decreases-kept l = vec_len l.kept
