-- What is written and what is left are the whole.
use Rattle.std.proofs.Common.{◌≡◌, drop}
use Rattle.coll_texts.proofs.PrintedParts.{HasWritten}
use Rattle.coll_edit_replies.specs.Showing.{marked_bytes}
use Rattle.coll_edit_replies.proofs.showing.write_marked.Given as goal

abbrev pub invariant-loop-line : goal.invariant-loop-line
invariant-loop-line g l =
    record {
      sent : HasWritten marked_bytes l.lines (drop l.line-index l.lines) (g.W.Sink.taken l.initial.out) (g.W.Sink.taken l.out);
      count : g.W.Sink.failed l.out ≡ g.W.Sink.failed l.initial.out;
    }
