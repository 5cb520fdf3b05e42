use Rattle.std.proofs.Common.{◌≡◌, ◌≤◌, ◌+◌, ◌-◌, ◌++◌, ℕ, List, drop, length}
use Rattle.std.specs.Io.KnownBytes.{Appends}
use Rattle.coll_bench.specs.Replies.{history_lines}
use Rattle.coll_bench.proofs.replies.history_reply.write_remaining.Given as goal

abbrev pub decreases-loop-number : goal.decreases-loop-number
decreases-loop-number g l = l.count - l.number

abbrev pub invariant-loop-number : goal.invariant-loop-number
invariant-loop-number g l =
    record {
      sent : (done : List ℕ) × (history_lines 1 l.session.history.remaining ≡ done ++ history_lines (l.number + 1) (drop l.number l.session.history.remaining))
          × Appends (g.W.Sink.taken l.initial.out) (g.W.Sink.taken l.out) done;
      errors : g.W.Sink.failed l.out ≡ g.W.Sink.failed l.initial.out;
      within : l.number ≤ l.count;
      count : l.count ≡ length l.session.history.remaining;
    }
