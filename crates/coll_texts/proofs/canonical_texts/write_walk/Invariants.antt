-- What is written and what is left are the whole.
use Rattle.std.proofs.Common.{◌≡◌}
use Rattle.coll_texts.specs.PrintedParts.{visited_bytes}
use Rattle.coll_texts.proofs.PrintedParts.{HasWritten}
use Rattle.coll_texts.proofs.canonical_texts.write_walk.Given as goal

abbrev pub invariant-walk : goal.invariant-walk
invariant-walk g l =
    record {
      sent : HasWritten visited_bytes l.initial.left l.left (g.W.Sink.taken l.initial.out) (g.W.Sink.taken l.out);
      count : g.W.Sink.failed l.out ≡ g.W.Sink.failed l.initial.out;
    }
