-- Both parts, one behind the other.
use Rattle.std.proofs.Common.{refl, rules}
use Rattle.coll_devices.proofs.WritingLemmas.{Sends-after}
use Rattle.coll_texts.proofs.PrintedParts.{stops_first}
use Rattle.coll_bench.specs.Replies.{history_line}
use Rattle.coll_reviews.specs.ReviewLines.{parted_line}
use Rattle.coll_reviews.proofs.review_lines.write_unmoved.Goals as goal

pub returns-in_err-write_history_line : goal.returns-in_err-write_history_line
returns-in_err-write_history_line g c =
    let taken = g.W.Sink.taken in
    record {
      sent = stops_first (taken c.args.out.now) (taken c.write_history_line.new.out) _ (history_line c.args.number c.args.statement.now)
          (parted_line 0) c.from_residual.result refl c.from_residual.ensures.0
          c.in_err-write_history_line.ensures.sent;
      errors = search rules;
    }

pub returns : goal.returns
returns g c =
    let taken = g.W.Sink.taken in
    record {
      sent = Sends-after (taken c.args.out.now) (taken c.write_history_line.new.out) (taken c.write_parted.new.out) (history_line c.args.number c.args.statement.now)
          (parted_line 0) c.write_parted.result
          c.in_ok-write_history_line.ensures.sent c.write_parted.ensures.sent;
      errors = search rules;
    }
