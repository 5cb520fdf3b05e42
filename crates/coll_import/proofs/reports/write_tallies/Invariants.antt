-- What is written and what is left are the whole.
use Rattle.std.proofs.Common.{◌≡◌, map, drop, string_bytes}
use Rattle.coll_import.specs.ReportText.{told_of}
use Rattle.coll_texts.proofs.PrintedParts.{HasWritten}
use Rattle.coll_import.proofs.reports.write_tallies.Given as goal

abbrev pub invariant-loop-kind : goal.invariant-loop-kind
invariant-loop-kind g l =
    record {
      sent : HasWritten (told_of (map string_bytes l.names) l.report.tallies) l.kinds (drop l.kind-index l.kinds) (g.W.Sink.taken l.initial.out) (g.W.Sink.taken l.out);
      count : g.W.Sink.failed l.out ≡ g.W.Sink.failed l.initial.out;
    }
