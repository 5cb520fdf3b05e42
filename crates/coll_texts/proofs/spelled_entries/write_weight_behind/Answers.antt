-- The semicolon, and the weight.
use Rattle.std.proofs.Common.{[], ◌∷◌, rules}
use Rattle.std.specs.Prelude.{encode_utf8_all}
use Rattle.coll_texts.specs.CanonicalText.{spelled_weight}
use Rattle.coll_texts.specs.PrintedParts.{behind_bytes}
use Rattle.coll_texts.proofs.PrintedParts.{stops_first, writes_rest, behind_parts}
use Rattle.coll_texts.proofs.spelled_entries.write_weight_behind.Goals as goal

pub returns-in_err-write_bytes : goal.returns-in_err-write_bytes
returns-in_err-write_bytes g c =
    let taken = g.W.Sink.taken in
    record {
      sent = stops_first (taken c.args.out.now) (taken c.write_bytes.new.out) (behind_bytes (spelled_weight c.args.owner.now) c.args.weight.now) (59 ∷ [])
          (encode_utf8_all (spelled_weight c.args.owner.now c.args.weight.now [])) c.from_residual.result (behind_parts (spelled_weight c.args.owner.now) c.args.weight.now) c.from_residual.ensures.0
          c.in_err-write_bytes.ensures.sent;
      errors = search rules;
    }

pub returns : goal.returns
returns g c =
    let taken = g.W.Sink.taken in
    record {
      sent = writes_rest (taken c.args.out.now) (taken c.write_bytes.new.out) (taken c.write_weight.new.out) (behind_bytes (spelled_weight c.args.owner.now) c.args.weight.now) (59 ∷ [])
          (encode_utf8_all (spelled_weight c.args.owner.now c.args.weight.now [])) c.write_weight.result (behind_parts (spelled_weight c.args.owner.now) c.args.weight.now)
          c.in_ok-write_bytes.ensures.sent c.write_weight.ensures.sent;
      errors = search rules;
    }
