-- The word, and the point.
use Rattle.std.proofs.Common.{refl, rules}
use Rattle.coll_devices.proofs.WritingLemmas.{Sends-after}
use Rattle.coll_texts.proofs.PrintedParts.{stops_first}
use Rattle.coll_differences.specs.Lines.{mark_told}
use Rattle.coll_differences.specs.Orders.{mark_of}
use Rattle.coll_differences.proofs.lines.write_worded.Goals as goal

pub returns-in_err-write_bytes : goal.returns-in_err-write_bytes
returns-in_err-write_bytes g c =
    let taken = g.W.Sink.taken in
    record {
      sent = stops_first (taken c.args.out.now) (taken c.write_bytes.new.out) _ c.args.word.now (mark_told (mark_of c.args.point)) c.from_residual.result refl c.from_residual.ensures.0
          c.in_err-write_bytes.ensures.sent;
      errors = search rules;
    }

pub returns : goal.returns
returns g c =
    let taken = g.W.Sink.taken in
    record {
      sent = Sends-after (taken c.args.out.now) (taken c.write_bytes.new.out) (taken c.write_point.new.out) c.args.word.now (mark_told (mark_of c.args.point)) c.write_point.result
          c.in_ok-write_bytes.ensures.sent c.write_point.ensures.sent;
      errors = search rules;
    }
