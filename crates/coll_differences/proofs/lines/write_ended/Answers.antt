-- The word and the point, and the line's end.
use Rattle.std.proofs.Common.{refl, rules}
use Rattle.coll_devices.proofs.WritingLemmas.{Sends-after}
use Rattle.coll_texts.proofs.PrintedParts.{stops_first}
use Rattle.coll_differences.specs.Lines.{worded, line_end}
use Rattle.coll_differences.specs.Orders.{mark_of}
use Rattle.coll_differences.proofs.lines.write_ended.Goals as goal

pub returns-in_err-write_worded : goal.returns-in_err-write_worded
returns-in_err-write_worded g c =
    let taken = g.W.Sink.taken in
    record {
      sent = stops_first (taken c.args.out.now) (taken c.write_worded.new.out) _ (worded c.args.word.now (mark_of c.args.point)) line_end c.from_residual.result refl c.from_residual.ensures.0
          c.in_err-write_worded.ensures.sent;
      errors = search rules;
    }

pub returns : goal.returns
returns g c =
    let taken = g.W.Sink.taken in
    record {
      sent = Sends-after (taken c.args.out.now) (taken c.write_worded.new.out) (taken c.write_bytes.new.out) (worded c.args.word.now (mark_of c.args.point)) line_end c.write_bytes.result
          c.in_ok-write_worded.ensures.sent c.write_bytes.ensures.sent;
      errors = search rules;
    }
