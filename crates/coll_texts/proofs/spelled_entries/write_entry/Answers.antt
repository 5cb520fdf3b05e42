-- The identifier, the weights behind it, and the line's end.
use Rattle.std.proofs.Common.{[], ◌∷◌, ◌++◌, refl, rules}
use Rattle.std.specs.Prelude.{encode_utf8_all}
use Rattle.coll_texts.specs.CanonicalText.{entry_line, line_bytes, weights_behind}
use Rattle.coll_texts.specs.PrintedParts.{id_bytes}
use Rattle.coll_texts.proofs.PrintedParts.{stops_first, writes_rest, entry_parts}
use Rattle.coll_texts.proofs.spelled_entries.write_entry.Goals as goal

pub returns-in_err-write_id : goal.returns-in_err-write_id
returns-in_err-write_id g c =
    let entry = c.args.entry.now in
    let weights = encode_utf8_all (weights_behind entry.id entry.weights) in
    let part = rw c.id-id.ensures at c.in_err-write_id.ensures.sent in
    record {
      sent = stops_first _ _ (line_bytes (entry_line entry)) (id_bytes entry.id) (weights ++ 10 ∷ []) c.from_residual.result (entry_parts entry.id
          (weights_behind entry.id entry.weights)) c.from_residual.ensures.0 part;
      errors = search rules;
    }

pub returns-in_err-write_weights_behind_id : goal.returns-in_err-write_weights_behind_id
returns-in_err-write_weights_behind_id g c =
    let entry = c.args.entry.now in
    let weights = encode_utf8_all (weights_behind entry.id entry.weights) in
    let result = c.from_residual-in_err-write_weights_behind_id.result in
    let id = rw c.id-id.ensures at c.in_ok-write_id.ensures.sent in
    let part = rw (c.weights.ensures, c.id-id.ensures) at c.in_err-write_weights_behind_id.ensures.sent in
    record {
      sent = writes_rest _ _ _ (line_bytes (entry_line entry)) (id_bytes entry.id) (weights ++ 10 ∷ []) result (entry_parts entry.id (weights_behind entry.id entry.weights)) id
          (stops_first _ _ (weights ++ 10 ∷ []) weights (10 ∷ []) result refl c.from_residual-in_err-write_weights_behind_id.ensures.0 part);
      errors = search rules;
    }

pub returns : goal.returns
returns g c =
    let entry = c.args.entry.now in
    let weights = encode_utf8_all (weights_behind entry.id entry.weights) in
    let id = rw c.id-id.ensures at c.in_ok-write_id.ensures.sent in
    let part = rw (c.weights.ensures, c.id-id.ensures) at c.in_ok-write_weights_behind_id.ensures.sent in
    record {
      sent = writes_rest _ _ _ (line_bytes (entry_line entry)) (id_bytes entry.id) (weights ++ 10 ∷ []) c.write_bytes.result (entry_parts entry.id (weights_behind entry.id entry.weights)) id
          (writes_rest _ _ _ (weights ++ 10 ∷ []) weights (10 ∷ []) c.write_bytes.result refl part c.write_bytes.ensures.sent);
      errors = search rules;
    }
