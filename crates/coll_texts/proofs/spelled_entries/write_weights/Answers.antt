-- The first weight, and the later ones.
use Rattle.std.proofs.Common.{[], ap, ◌∙◌, rules}
use Rattle.std.specs.Prelude.{encode_utf8_all}
use Rattle.std.specs.List.{flat_map}
use Rattle.coll_texts.specs.CanonicalText.{spelled_weight, spelled_joined}
use Rattle.coll_texts.specs.PrintedParts.{behind_bytes}
use Rattle.coll_texts.proofs.PrintedParts.{stops_first, writes_rest, joined_parts, weight_before}
use Rattle.coll_texts.proofs.spelled_entries.write_weights.Goals as goal

pub returns-in_err-write_weight : goal.returns-in_err-write_weight
returns-in_err-write_weight g c =
    let taken = g.W.Sink.taken in
    record {
      sent = stops_first (taken c.args.out.now) (taken c.write_weight.new.out) (encode_utf8_all (spelled_joined (spelled_weight c.args.owner.now) c.args.weights.now []))
          (encode_utf8_all (spelled_weight c.args.owner.now c.in-Some.first.now [])) (flat_map (behind_bytes (spelled_weight c.args.owner.now)) c.in-Some.later.now) c.from_residual.result
          (ap (λ ws. encode_utf8_all (spelled_joined (spelled_weight c.args.owner.now) ws [])) c.in-Some.ensures.cases.0
          ∙ joined_parts (spelled_weight c.args.owner.now) (weight_before c.args.owner.now) c.in-Some.first.now c.in-Some.later.now) c.from_residual.ensures.0 c.in_err-write_weight.ensures.sent;
      errors = search rules;
    }

pub returns : goal.returns
returns g c =
    let taken = g.W.Sink.taken in
    record {
      sent = writes_rest (taken c.args.out.now) (taken c.write_weight.new.out) (taken c.write_later_weights.new.out) (encode_utf8_all (spelled_joined
          (spelled_weight c.args.owner.now) c.args.weights.now []))
          (encode_utf8_all (spelled_weight c.args.owner.now c.in-Some.first.now [])) (flat_map (behind_bytes (spelled_weight c.args.owner.now)) c.in-Some.later.now) c.write_later_weights.result
          (ap (λ ws. encode_utf8_all (spelled_joined (spelled_weight c.args.owner.now) ws [])) c.in-Some.ensures.cases.0
          ∙ joined_parts (spelled_weight c.args.owner.now) (weight_before c.args.owner.now) c.in-Some.first.now c.in-Some.later.now) c.in_ok-write_weight.ensures.sent
          c.write_later_weights.ensures.sent;
      errors = search rules;
    }
