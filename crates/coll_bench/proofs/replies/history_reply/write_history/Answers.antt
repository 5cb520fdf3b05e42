use Rattle.std.proofs.Common.{rules}
use Rattle.coll_bench.specs.Replies.{history_lines, history_listing, history_count}
use Rattle.coll_devices.proofs.WritingLemmas.{Sends-after}
use Rattle.coll_bench.proofs.ReplyLemmas.{stopped_at_first}
use Rattle.coll_bench.proofs.replies.history_reply.write_history.Goals as goal

pub returns-in_err-write_remaining : goal.returns-in_err-write_remaining
unfolding history_listing
returns-in_err-write_remaining g c =
    record {
      sent = let taken = g.W.Sink.taken in
          stopped_at_first (taken c.args.out.now) (taken c.write_remaining.new.out) (history_lines 1 c.args.session.now.history.remaining) (history_count c.args.session.now.history)
          c.from_residual.result c.from_residual.ensures.0 c.in_err-write_remaining.ensures.sent;
      errors = search rules;
    }

pub returns : goal.returns
unfolding history_listing
returns g c =
    record {
      sent = let taken = g.W.Sink.taken in
          Sends-after (taken c.args.out.now) (taken c.write_remaining.new.out) (taken c.write_count.new.out)
          (history_lines 1 c.args.session.now.history.remaining) (history_count c.args.session.now.history) c.write_count.result c.in_ok-write_remaining.ensures.sent c.write_count.ensures.sent;
      errors = search rules;
    }
