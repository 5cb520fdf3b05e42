-- What is written and what is left are the whole.
use Rattle.std.proofs.Common.{◌≡◌, drop, length}
use Rattle.std.specs.Prelude.{chars}
use Rattle.coll_reviews.specs.ReviewLines.{quoted_char}
use Rattle.coll_texts.proofs.PrintedParts.{HasWritten}
use Rattle.coll_reviews.proofs.review_lines.write_quoted.Given as goal

abbrev pub invariant-loop-c : goal.invariant-loop-c
invariant-loop-c g l =
    record {
      sent : HasWritten quoted_char (chars l.text) (drop (length l.yielded) (chars l.text)) (g.W.Sink.taken l.initial.out) (g.W.Sink.taken l.out);
      count : g.W.Sink.failed l.out ≡ g.W.Sink.failed l.initial.out;
    }
