-- What is written and what is left are the whole.
use Rattle.std.proofs.Common.{◌≡◌}
use Rattle.coll_texts.specs.ExportedParts.{noted_bytes}
use Rattle.coll_texts.proofs.PrintedParts.{HasWritten}
use Rattle.coll_texts.proofs.exported_texts.write_names.Given as goal

abbrev pub invariant-names : goal.invariant-names
invariant-names g l =
    record {
      sent : HasWritten noted_bytes l.initial.left l.left (g.W.Sink.taken l.initial.out) (g.W.Sink.taken l.out);
      count : g.W.Sink.failed l.out ≡ g.W.Sink.failed l.initial.out;
    }
