-- What is written and what is left are the first of all.
use Rattle.std.proofs.Common.{◌≡◌, ◌-◌, ◌<◌, drop, take}
use Rattle.coll_texts.proofs.PrintedParts.{HasWritten}
use Rattle.coll_reviews.specs.ListedWords.{newly_beside}
use Rattle.coll_reviews.specs.ReviewLines.{joined_line, most_told}
use Rattle.coll_reviews.proofs.review_lines.write_joined.Given as goal

abbrev pub invariant-loop-place : goal.invariant-loop-place
invariant-loop-place g l =
    record {
      above : 0 < l.place;
      sent : HasWritten joined_line (take most_told (newly_beside l.list)) (take l.left (newly_beside (drop (l.place - 1) l.list))) (g.W.Sink.taken l.initial.out) (g.W.Sink.taken l.out);
      count : g.W.Sink.failed l.out ≡ g.W.Sink.failed l.initial.out;
    }
