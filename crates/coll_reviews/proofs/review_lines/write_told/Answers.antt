-- Each part, one behind another.
use Rattle.std.proofs.Common.{◌++◌, length, take, refl, rules}
use Rattle.std.specs.List.{flat_map}
use Rattle.coll_devices.proofs.WritingLemmas.{Sends-after}
use Rattle.coll_texts.proofs.PrintedParts.{stops_first}
use Rattle.coll_bench.specs.Replies.{history_line}
use Rattle.coll_reviews.specs.ListedWords.{newly_beside}
use Rattle.coll_reviews.specs.ReviewLines.{joined_line, most_told, parted_line}
use Rattle.coll_reviews.proofs.review_lines.write_told.Goals as goal

pub returns-in_err-write_history_line : goal.returns-in_err-write_history_line
returns-in_err-write_history_line g c =
    let taken = g.W.Sink.taken in
    let pairs = newly_beside c.args.list.now in
    record {
      sent = stops_first (taken c.args.out.now) (taken c.write_history_line.new.out) _ (history_line c.args.number c.args.statement.now)
          (parted_line (length pairs) ++ flat_map joined_line (take most_told pairs)) c.from_residual.result refl c.from_residual.ensures.0 c.in_err-write_history_line.ensures.sent;
      errors = search rules;
    }

pub returns-in_err-write_parted : goal.returns-in_err-write_parted
returns-in_err-write_parted g c =
    let taken = g.W.Sink.taken in
    let pairs = newly_beside c.args.list.now in
    let part = rw c.new_pairs.ensures at c.in_err-write_parted.ensures.sent in
    record {
      sent = Sends-after (taken c.args.out.now) (taken c.write_history_line.new.out) (taken c.write_parted.new.out) (history_line c.args.number c.args.statement.now)
          (parted_line (length pairs) ++ flat_map joined_line (take most_told pairs)) c.from_residual-in_err-write_parted.result c.in_ok-write_history_line.ensures.sent
          (stops_first (taken c.write_history_line.new.out) (taken c.write_parted.new.out) _ (parted_line (length pairs)) (flat_map joined_line (take most_told pairs))
          c.from_residual-in_err-write_parted.result refl c.from_residual-in_err-write_parted.ensures.0 part);
      errors = search rules;
    }

pub returns : goal.returns
returns g c =
    let taken = g.W.Sink.taken in
    let pairs = newly_beside c.args.list.now in
    let part = rw c.new_pairs.ensures at c.in_ok-write_parted.ensures.sent in
    record {
      sent = Sends-after (taken c.args.out.now) (taken c.write_history_line.new.out) (taken c.write_joined.new.out) (history_line c.args.number c.args.statement.now)
          (parted_line (length pairs) ++ flat_map joined_line (take most_told pairs)) c.write_joined.result c.in_ok-write_history_line.ensures.sent
          (Sends-after (taken c.write_history_line.new.out) (taken c.write_parted.new.out) (taken c.write_joined.new.out) (parted_line (length pairs)) (flat_map joined_line (take most_told pairs))
          c.write_joined.result part c.write_joined.ensures.sent);
      errors = search rules;
    }
