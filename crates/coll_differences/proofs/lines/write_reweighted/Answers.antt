-- The word, and the entry.
use Rattle.std.proofs.Common.{codes, refl, rules}
use Rattle.coll_texts.specs.WeighedEntries.{weighed_line}
use Rattle.coll_devices.proofs.WritingLemmas.{Sends-after}
use Rattle.coll_texts.proofs.PrintedParts.{stops_first}
use Rattle.coll_differences.proofs.lines.write_reweighted.Goals as goal

pub returns-in_err-write_bytes : goal.returns-in_err-write_bytes
returns-in_err-write_bytes g c =
    let taken = g.W.Sink.taken in
    record {
      sent = stops_first (taken c.args.out.now) (taken c.write_bytes.new.out) _ (codes "weights ") (weighed_line c.args.entry.now) c.from_residual.result refl c.from_residual.ensures.0
          c.in_err-write_bytes.ensures.sent;
      errors = search rules;
    }

pub returns : goal.returns
returns g c =
    let taken = g.W.Sink.taken in
    record {
      sent = Sends-after (taken c.args.out.now) (taken c.write_bytes.new.out) (taken c.write_weighed.new.out) (codes "weights ") (weighed_line c.args.entry.now) c.write_weighed.result
          c.in_ok-write_bytes.ensures.sent c.write_weighed.ensures.sent;
      errors = search rules;
    }
