-- What is written and what is left are the whole.
use Rattle.std.proofs.Common.{◌≡◌, map, drop, string_bytes}
use Rattle.coll_import.specs.ReportText.{dropped_line}
use Rattle.coll_texts.proofs.PrintedParts.{HasWritten}
use Rattle.coll_import.proofs.reports.write_losses.Given as goal

abbrev pub invariant-loop-loss : goal.invariant-loop-loss
invariant-loop-loss g l =
    record {
      sent : HasWritten (dropped_line (map string_bytes l.names)) l.losses (drop l.loss-index l.losses) (g.W.Sink.taken l.initial.out) (g.W.Sink.taken l.out);
      count : g.W.Sink.failed l.out ≡ g.W.Sink.failed l.initial.out;
    }
