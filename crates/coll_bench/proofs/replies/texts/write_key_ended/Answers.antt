use Rattle.std.proofs.Common.{[], ◌∷◌, rules}
use Rattle.coll_key.specs.WrittenKey.{written_key}
use Rattle.coll_devices.proofs.WritingLemmas.{Sends-after}
use Rattle.coll_bench.proofs.ReplyLemmas.{stopped_at_first}
use Rattle.coll_bench.proofs.replies.texts.write_key_ended.Goals as goal

pub returns-in_err-write_key : goal.returns-in_err-write_key
returns-in_err-write_key g c =
    record {
      sent = let taken = g.W.Sink.taken in
          stopped_at_first (taken c.args.out.now) (taken c.write_key.new.out) (written_key c.args.rules.now c.args.key.now) (10 ∷ []) c.from_residual.result c.from_residual.ensures.0
          c.in_err-write_key.ensures.sent;
      errors = search rules;
    }

pub returns : goal.returns
returns g c =
    record {
      sent = let taken = g.W.Sink.taken in
          Sends-after (taken c.args.out.now) (taken c.write_key.new.out) (taken c.write_bytes.new.out) (written_key c.args.rules.now c.args.key.now) (10 ∷ []) c.write_bytes.result
          c.in_ok-write_key.ensures.sent c.write_bytes.ensures.sent;
      errors = search rules;
    }
