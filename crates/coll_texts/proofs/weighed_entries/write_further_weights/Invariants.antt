-- What is written and what is left are the whole.
use Rattle.std.proofs.Common.{codes, ◌≡◌, drop}
use Rattle.coll_texts.specs.WeighedEntries.{marked_weight}
use Rattle.coll_texts.proofs.PrintedParts.{HasWritten}
use Rattle.coll_texts.proofs.weighed_entries.write_further_weights.Given as goal

abbrev pub invariant-loop-weight : goal.invariant-loop-weight
invariant-loop-weight g l =
    record {
      sent : HasWritten (marked_weight (codes ";") l.owner) l.weights (drop l.weight-index l.weights) (g.W.Sink.taken l.initial.out) (g.W.Sink.taken l.out);
      count : g.W.Sink.failed l.out ≡ g.W.Sink.failed l.initial.out;
    }
