-- What is written and what is left are the whole.
use Rattle.std.proofs.Common.{◌≡◌, drop}
use Rattle.coll_texts.proofs.PrintedParts.{HasWritten}
use Rattle.coll_lint.specs.WarningLines.{one_told}
use Rattle.coll_lint.proofs.warning_lines.write_firsts.Given as goal

abbrev pub invariant-loop-one : goal.invariant-loop-one
invariant-loop-one g l =
    record {
      sent : HasWritten (one_told l.warning) l.firsts (drop l.one-index l.firsts) (g.W.Sink.taken l.initial.out) (g.W.Sink.taken l.out);
      count : g.W.Sink.failed l.out ≡ g.W.Sink.failed l.initial.out;
    }
