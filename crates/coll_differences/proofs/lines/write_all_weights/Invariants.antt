-- What is written and what is left are the whole.
use Rattle.std.proofs.Common.{◌≡◌, drop}
use Rattle.coll_differences.specs.Lines.{lent_weights_told}
use Rattle.coll_texts.proofs.PrintedParts.{HasWritten}
use Rattle.coll_differences.proofs.lines.write_all_weights.Given as goal

abbrev pub invariant-loop-entry : goal.invariant-loop-entry
invariant-loop-entry g l =
    record {
      sent : HasWritten lent_weights_told l.entries (drop l.entry-index l.entries) (g.W.Sink.taken l.initial.out) (g.W.Sink.taken l.out);
      count : g.W.Sink.failed l.out ≡ g.W.Sink.failed l.initial.out;
    }
