-- The word and the mark, the characters, and the mark and the line's end.
use Rattle.std.proofs.Common.{◌++◌, codes, refl, rules}
use Rattle.std.specs.Prelude.{chars}
use Rattle.std.specs.List.{flat_map}
use Rattle.coll_texts.proofs.PrintedParts.{stops_first, writes_rest}
use Rattle.coll_delta_texts.specs.DeltaText.{string_char_bytes, copy_bytes}
use Rattle.coll_delta_texts.proofs.TextParts.{copy_parts}
use Rattle.coll_delta_texts.proofs.delta_texts.write_copy.Goals as goal

pub returns-in_err-write_bytes : goal.returns-in_err-write_bytes
returns-in_err-write_bytes g c =
    let name = chars c.args.name.now in
    record {
      sent = stops_first _ _ (copy_bytes name) (codes "copy \"") (flat_map string_char_bytes name ++ codes "\"\n") c.from_residual.result (copy_parts name) c.from_residual.ensures.0
          c.in_err-write_bytes.ensures.sent;
      errors = search rules;
    }

pub returns-in_err-write_chars : goal.returns-in_err-write_chars
returns-in_err-write_chars g c =
    let name = chars c.args.name.now in
    let result = c.from_residual-in_err-write_chars.result in
    record {
      sent = writes_rest _ _ _ (copy_bytes name) (codes "copy \"") (flat_map string_char_bytes name ++ codes "\"\n") result (copy_parts name) c.in_ok-write_bytes.ensures.sent
          (stops_first _ _ (flat_map string_char_bytes name ++ codes "\"\n") (flat_map string_char_bytes name) (codes "\"\n") result refl c.from_residual-in_err-write_chars.ensures.0
          c.in_err-write_chars.ensures.sent);
      errors = search rules;
    }

pub returns : goal.returns
returns g c =
    let name = chars c.args.name.now in
    record {
      sent = writes_rest _ _ _ (copy_bytes name) (codes "copy \"") (flat_map string_char_bytes name ++ codes "\"\n") c.write_bytes-2.result (copy_parts name) c.in_ok-write_bytes.ensures.sent
          (writes_rest _ _ _ (flat_map string_char_bytes name ++ codes "\"\n") (flat_map string_char_bytes name) (codes "\"\n") c.write_bytes-2.result refl c.in_ok-write_chars.ensures.sent
          c.write_bytes-2.ensures.sent);
      errors = search rules;
    }
