-- What is written and what is left are the whole.
use Rattle.std.proofs.Common.{◌≡◌, drop}
use Rattle.coll_texts.proofs.PrintedParts.{HasWritten}
use Rattle.coll_word_lists.proofs.SortCases.{line_of}
use Rattle.coll_word_lists.proofs.words.write_words.Given as goal

abbrev pub invariant-loop-word : goal.invariant-loop-word
invariant-loop-word g l =
    record {
      sent : HasWritten line_of l.words (drop l.word-index l.words) (g.W.Sink.taken l.initial.out) (g.W.Sink.taken l.out);
      count : g.W.Sink.failed l.out ≡ g.W.Sink.failed l.initial.out;
    }
