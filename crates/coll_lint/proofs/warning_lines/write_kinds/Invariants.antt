-- What is written and what is left are the whole.
use Rattle.std.proofs.Common.{◌≡◌, drop}
use Rattle.coll_texts.proofs.PrintedParts.{HasWritten}
use Rattle.coll_lint.specs.WarningLines.{line_told}
use Rattle.coll_lint.proofs.warning_lines.write_kinds.Given as goal

abbrev pub invariant-loop-kind : goal.invariant-loop-kind
invariant-loop-kind g l =
    record {
      sent : HasWritten line_told l.kinds (drop l.kind-index l.kinds) (g.W.Sink.taken l.initial.out) (g.W.Sink.taken l.out);
      count : g.W.Sink.failed l.out ≡ g.W.Sink.failed l.initial.out;
    }
