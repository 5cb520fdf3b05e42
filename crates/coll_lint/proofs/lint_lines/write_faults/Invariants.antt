-- What is written and what is left are the whole.
use Rattle.std.proofs.Common.{◌≡◌, drop, map, string_bytes}
use Rattle.coll_texts.proofs.PrintedParts.{HasWritten}
use Rattle.coll_lint.specs.LintLines.{found_line}
use Rattle.coll_lint.proofs.lint_lines.write_faults.Given as goal

abbrev pub invariant-loop-found : goal.invariant-loop-found
invariant-loop-found g l =
    record {
      sent : HasWritten (found_line (map string_bytes l.names)) l.faults (drop l.found-index l.faults) (g.W.Sink.taken l.initial.out) (g.W.Sink.taken l.out);
      count : g.W.Sink.failed l.out ≡ g.W.Sink.failed l.initial.out;
    }
