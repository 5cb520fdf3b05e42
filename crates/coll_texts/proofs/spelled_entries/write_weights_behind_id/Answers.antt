-- The space, and the weights.
use Rattle.std.proofs.Common.{[], ◌∷◌, sym, ◌∙◌, rules}
use Rattle.std.specs.Prelude.{encode_utf8_all}
use Rattle.coll_texts.specs.CanonicalText.{spelled_weight, spelled_joined, weights_behind}
use Rattle.coll_texts.proofs.PrintedParts.{stops_first, writes_rest, other_weights}
use Rattle.coll_texts.proofs.spelled_entries.write_weights_behind_id.Goals as goal

pub returns-in_err-write_bytes : goal.returns-in_err-write_bytes
returns-in_err-write_bytes g c =
    let taken = g.W.Sink.taken in
    record {
      sent = stops_first (taken c.args.out.now) (taken c.write_bytes.new.out) (encode_utf8_all (weights_behind c.args.owner.now c.args.weights.now)) (32 ∷ [])
          (encode_utf8_all (spelled_joined (spelled_weight c.args.owner.now) c.args.weights.now [])) c.from_residual.result
          (other_weights c.args.owner.now c.args.weights.now (sym c.are_own.ensures ∙ c.if-are_own.false)) c.from_residual.ensures.0 c.in_err-write_bytes.ensures.sent;
      errors = search rules;
    }

pub returns : goal.returns
returns g c =
    let taken = g.W.Sink.taken in
    record {
      sent = writes_rest (taken c.args.out.now) (taken c.write_bytes.new.out) (taken c.write_weights.new.out) (encode_utf8_all (weights_behind c.args.owner.now c.args.weights.now)) (32 ∷ [])
          (encode_utf8_all (spelled_joined (spelled_weight c.args.owner.now) c.args.weights.now [])) c.write_weights.result
          (other_weights c.args.owner.now c.args.weights.now (sym c.are_own.ensures ∙ c.if-are_own.false)) c.in_ok-write_bytes.ensures.sent c.write_weights.ensures.sent;
      errors = search rules;
    }
