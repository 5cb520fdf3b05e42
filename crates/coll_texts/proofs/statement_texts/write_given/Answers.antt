-- The space, and the weights.
use Rattle.std.proofs.Common.{[], ◌∷◌, ap, ◌∙◌, rules}
use Rattle.std.specs.Prelude.{encode_utf8_all}
use Rattle.coll_texts.specs.CanonicalText.{spelled_joined}
use Rattle.coll_texts.specs.StatementText.{spelled_given, given_behind}
use Rattle.coll_texts.proofs.PrintedParts.{stops_first, writes_rest, given_parts}
use Rattle.coll_texts.proofs.statement_texts.write_given.Goals as goal

pub returns-in_err-write_bytes : goal.returns-in_err-write_bytes
returns-in_err-write_bytes g c =
    let given = c.in-Some.weights in
    record {
      sent = stops_first _ _ (encode_utf8_all (given_behind c.args.weights.now)) (32 ∷ []) (encode_utf8_all (spelled_joined spelled_given given [])) c.from_residual.result
          (ap (λ ws. encode_utf8_all (given_behind ws)) c.in-Some.is ∙ given_parts given) c.from_residual.ensures.0 c.in_err-write_bytes.ensures.sent;
      errors = search rules;
    }

pub returns : goal.returns
returns g c =
    let given = c.in-Some.weights in
    let rest = rw c.get.ensures at c.write_weights.ensures.sent in
    record {
      sent = writes_rest _ _ _ (encode_utf8_all (given_behind c.args.weights.now)) (32 ∷ []) (encode_utf8_all (spelled_joined spelled_given given [])) c.write_weights.result
          (ap (λ ws. encode_utf8_all (given_behind ws)) c.in-Some.is ∙ given_parts given) c.in_ok-write_bytes.ensures.sent rest;
      errors = search rules;
    }
