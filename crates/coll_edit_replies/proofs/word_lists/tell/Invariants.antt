-- The words so far were told.
use Rattle.coll_edit_replies.proofs.ToldLemmas.{ToldSoFar}
use Rattle.coll_edit_replies.proofs.word_lists.tell.Given as goal

abbrev pub invariant-loop-place : goal.invariant-loop-place
invariant-loop-place l = ToldSoFar l.initial.list l.list l.place l.before
