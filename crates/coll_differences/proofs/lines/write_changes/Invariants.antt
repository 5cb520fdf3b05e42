-- What is written and what is left are the whole.
use Rattle.std.proofs.Common.{◌≡◌, drop}
use Rattle.coll_differences.specs.Lines.{change_told}
use Rattle.coll_texts.proofs.PrintedParts.{HasWritten}
use Rattle.coll_differences.proofs.lines.write_changes.Given as goal

abbrev pub invariant-loop-change : goal.invariant-loop-change
invariant-loop-change g l =
    record {
      sent : HasWritten change_told l.changes (drop l.change-index l.changes) (g.W.Sink.taken l.initial.out) (g.W.Sink.taken l.out);
      count : g.W.Sink.failed l.out ≡ g.W.Sink.failed l.initial.out;
    }
