-- The mark, the identifiers, and the mark.
use Rattle.std.proofs.Common.{[], ◌∷◌, ◌++◌, refl, rules}
use Rattle.std.specs.Prelude.{encode_utf8_all}
use Rattle.std.specs.List.{flat_map}
use Rattle.coll_texts.specs.CanonicalText.{spelled_string}
use Rattle.coll_texts.specs.PrintedParts.{id_bytes}
use Rattle.coll_texts.proofs.PrintedParts.{stops_first, writes_rest, string_parts}
use Rattle.coll_texts.proofs.spelled_entries.write_string.Goals as goal

pub returns-in_err-write_bytes : goal.returns-in_err-write_bytes
returns-in_err-write_bytes g c =
    let ids = flat_map id_bytes c.args.ids.now in
    record {
      sent = stops_first _ _ (encode_utf8_all (spelled_string c.args.ids.now [])) (34 ∷ []) (ids ++ 34 ∷ []) c.from_residual.result (string_parts c.args.ids.now []) c.from_residual.ensures.0
          c.in_err-write_bytes.ensures.sent;
      errors = search rules;
    }

pub returns-in_err-write_ids : goal.returns-in_err-write_ids
returns-in_err-write_ids g c =
    let ids = flat_map id_bytes c.args.ids.now in
    let result = c.from_residual-in_err-write_ids.result in
    record {
      sent = writes_rest _ _ _ (encode_utf8_all (spelled_string c.args.ids.now [])) (34 ∷ []) (ids ++ 34 ∷ []) result (string_parts c.args.ids.now []) c.in_ok-write_bytes.ensures.sent
          (stops_first _ _ (ids ++ 34 ∷ []) ids (34 ∷ []) result refl c.from_residual-in_err-write_ids.ensures.0 c.in_err-write_ids.ensures.sent);
      errors = search rules;
    }

pub returns : goal.returns
returns g c =
    let ids = flat_map id_bytes c.args.ids.now in
    record {
      sent = writes_rest _ _ _ (encode_utf8_all (spelled_string c.args.ids.now [])) (34 ∷ []) (ids ++ 34 ∷ []) c.write_bytes-2.result (string_parts c.args.ids.now []) c.in_ok-write_bytes.ensures.sent
          (writes_rest _ _ _ (ids ++ 34 ∷ []) ids (34 ∷ []) c.write_bytes-2.result refl c.in_ok-write_ids.ensures.sent c.write_bytes-2.ensures.sent);
      errors = search rules;
    }
