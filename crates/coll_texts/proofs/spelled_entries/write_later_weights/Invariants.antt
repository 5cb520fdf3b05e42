-- What is written and what is left are the whole.
use Rattle.std.proofs.Common.{◌≡◌, drop}
use Rattle.coll_texts.specs.CanonicalText.{spelled_weight}
use Rattle.coll_texts.specs.PrintedParts.{behind_bytes}
use Rattle.coll_texts.proofs.PrintedParts.{HasWritten}
use Rattle.coll_texts.proofs.spelled_entries.write_later_weights.Given as goal

abbrev pub invariant-loop-weight : goal.invariant-loop-weight
invariant-loop-weight g l =
    record {
      sent : HasWritten (behind_bytes (spelled_weight l.owner)) l.weights (drop l.weight-index l.weights) (g.W.Sink.taken l.initial.out) (g.W.Sink.taken l.out);
      count : g.W.Sink.failed l.out ≡ g.W.Sink.failed l.initial.out;
    }
