-- What is written and what is left are the whole.
use Rattle.std.proofs.Common.{◌≡◌}
use Rattle.coll_texts.specs.ExportedParts.{walked_bytes}
use Rattle.coll_texts.proofs.PrintedParts.{HasWritten}
use Rattle.coll_texts.proofs.exported_texts.write_sections.Given as goal

abbrev pub invariant-sections : goal.invariant-sections
invariant-sections g l =
    record {
      sent : HasWritten (walked_bytes l.rules) l.initial.left l.left (g.W.Sink.taken l.initial.out) (g.W.Sink.taken l.out);
      count : g.W.Sink.failed l.out ≡ g.W.Sink.failed l.initial.out;
    }
