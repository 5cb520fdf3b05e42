-- While no line of `edit` was answered, what was read and written so far is that of a session; where one was, a request so far is left to
-- it; each line is one of the most lines that a text may have.
use Rattle.std.proofs.Common.{◌≡◌, false, ℕ, ◌-◌, List, Some, None}
use Rattle.coll_devices.specs.LineReading.{unread}
use Rattle.coll_lex.specs.Limits.{most_lines}
use Rattle.coll_bench.specs.Serving.{history_of, lexer_of}
use Rattle.coll_bench.specs.Underway.{Underway}
use Rattle.coll_edit.specs.EditRuns.{IsUnserved}
use Rattle.coll_edit.specs.Editing.{has_answered, run_of}
use Rattle.coll_edit.specs.Watching.{device_of}
use Rattle.coll_edit.proofs.AskedLemmas.{Asked}
use Rattle.coll_edit.proofs.runs.serve_lines.Given as goal

abbrev pub decreases-lines : goal.decreases-lines
decreases-lines g l = most_lines - (lexer_of (run_of l.editor)).count

abbrev pub invariant-lines : goal.invariant-lines
invariant-lines g l =
    record {
      going : l.reader.stop ≡ None;
      underway : (text before : List ℕ) → IsUnserved l.initial.editor → g.R.Source.left l.initial.input ≡ Some text
          → g.W.Sink.taken (device_of l.initial.output) ≡ Some before → has_answered l.editor ≡ false
          → Underway (history_of (run_of l.initial.editor)) text before l.reader.ended (unread l.reader (g.R.Source.left l.input)) (g.W.Sink.taken (device_of l.output)) (run_of l.editor);
      asked : (text : List ℕ) → IsUnserved l.initial.editor → g.R.Source.left l.initial.input ≡ Some text → Asked text (unread l.reader (g.R.Source.left l.input)) l.editor;
    }
