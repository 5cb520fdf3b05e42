-- The identifier, the weights behind it, and the line's end.
use Rattle.std.proofs.Common.{[], ◌∷◌, ◌++◌, refl, rules}
use Rattle.std.specs.Prelude.{encode_utf8_all}
use Rattle.coll_texts.specs.PrintedParts.{id_bytes}
use Rattle.coll_texts.specs.StatementText.{given_behind, order_bytes}
use Rattle.coll_texts.proofs.PrintedParts.{stops_first, writes_rest, entry_parts}
use Rattle.coll_texts.proofs.statement_texts.write_order_line.Goals as goal

pub returns-in_err-write_id : goal.returns-in_err-write_id
returns-in_err-write_id g c =
    let line = c.args.line.now in
    let weights = encode_utf8_all (given_behind line.weights) in
    record {
      sent = stops_first _ _ (order_bytes line) (id_bytes line.id) (weights ++ 10 ∷ []) c.from_residual.result (entry_parts line.id (given_behind line.weights)) c.from_residual.ensures.0
          c.in_err-write_id.ensures.sent;
      errors = search rules;
    }

pub returns-in_err-write_given : goal.returns-in_err-write_given
returns-in_err-write_given g c =
    let line = c.args.line.now in
    let weights = encode_utf8_all (given_behind line.weights) in
    let result = c.from_residual-in_err-write_given.result in
    record {
      sent = writes_rest _ _ _ (order_bytes line) (id_bytes line.id) (weights ++ 10 ∷ []) result (entry_parts line.id (given_behind line.weights)) c.in_ok-write_id.ensures.sent
          (stops_first _ _ (weights ++ 10 ∷ []) weights (10 ∷ []) result refl c.from_residual-in_err-write_given.ensures.0 c.in_err-write_given.ensures.sent);
      errors = search rules;
    }

pub returns : goal.returns
returns g c =
    let line = c.args.line.now in
    let weights = encode_utf8_all (given_behind line.weights) in
    record {
      sent = writes_rest _ _ _ (order_bytes line) (id_bytes line.id) (weights ++ 10 ∷ []) c.write_bytes.result (entry_parts line.id (given_behind line.weights)) c.in_ok-write_id.ensures.sent
          (writes_rest _ _ _ (weights ++ 10 ∷ []) weights (10 ∷ []) c.write_bytes.result refl c.in_ok-write_given.ensures.sent c.write_bytes.ensures.sent);
      errors = search rules;
    }
