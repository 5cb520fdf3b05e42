-- What was written so far and the lines of the statements that are left are the lines of all that remain.
use Rattle.std.proofs.Common.{◌≡◌, ◌≤◌, ◌-◌, drop, length}
use Rattle.coll_texts.specs.StatementText.{statement_bytes}
use Rattle.coll_texts.proofs.PrintedParts.{HasWritten}
use Rattle.coll_edit_replies.proofs.statements.write_remaining.Given as goal

abbrev pub decreases-loop-number : goal.decreases-loop-number
decreases-loop-number g l = l.count - l.number

abbrev pub invariant-loop-number : goal.invariant-loop-number
invariant-loop-number g l =
    record {
      sent : HasWritten statement_bytes l.session.history.remaining (drop l.number l.session.history.remaining) (g.W.Sink.taken l.initial.out) (g.W.Sink.taken l.out);
      errors : g.W.Sink.failed l.out ≡ g.W.Sink.failed l.initial.out;
      within : l.number ≤ l.count;
      count : l.count ≡ length l.session.history.remaining;
    }
