-- What was read and written so far, and what was counted; each line is one of the most lines that a text may have.
use Rattle.std.proofs.Common.{◌≡◌, true, ℕ, ◌-◌, List, Some, None}
use Rattle.coll_devices.specs.LineReading.{unread}
use Rattle.coll_lex.specs.Limits.{most_lines}
use Rattle.coll_history.specs.Histories.{History}
use Rattle.coll_bench.specs.Serving.{IsAtStart}
use Rattle.coll_bench.specs.Underway.{Underway}
use Rattle.coll_bench.proofs.runs.serve_lines.Given as goal

abbrev pub decreases-lines : goal.decreases-lines
decreases-lines g l = most_lines - l.state.parser.count

abbrev pub invariant-lines : goal.invariant-lines
invariant-lines g l =
    record {
      going : l.reader.stop ≡ None;
      reads : g.R.Source.failed l.input ≡ g.R.Source.failed l.initial.input;
      writes : g.W.Sink.failed l.output ≡ g.W.Sink.failed l.initial.output;
      flushed : g.W.Sink.flushed l.initial.output ≡ true → g.W.Sink.flushed l.output ≡ true;
      underway : (start : History) (text before : List ℕ) → IsAtStart l.initial.state start → g.R.Source.left l.initial.input ≡ Some text → g.W.Sink.taken l.initial.output ≡ Some before
          → Underway start text before l.reader.ended (unread l.reader (g.R.Source.left l.input)) (g.W.Sink.taken l.output) l.state;
    }
