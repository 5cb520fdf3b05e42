-- What is written and what is left are the whole.
use Rattle.std.proofs.Common.{◌≡◌, length}
use Rattle.coll_edit_replies.proofs.ToldLemmas.{WrittenSoFar}
use Rattle.coll_edit_replies.proofs.word_lists.write_marked_words.Given as goal

abbrev pub decreases-loop-listed : goal.decreases-loop-listed
decreases-loop-listed g l = length l.left

abbrev pub invariant-loop-listed : goal.invariant-loop-listed
invariant-loop-listed g l =
    record {
      sent : WrittenSoFar l.list l.left l.before (g.W.Sink.taken l.initial.out) (g.W.Sink.taken l.out);
      count : g.W.Sink.failed l.out ≡ g.W.Sink.failed l.initial.out;
    }
