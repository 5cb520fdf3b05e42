-- The rules, and the line's end.
use Rattle.std.proofs.Common.{[], ◌∷◌, refl, rules}
use Rattle.std.specs.Prelude.{encode_utf8_all}
use Rattle.coll_texts.specs.CanonicalText.{spelled_joined, spelled_rule}
use Rattle.coll_texts.specs.PrintedParts.{rules_bytes}
use Rattle.coll_texts.proofs.PrintedParts.{stops_first, writes_rest}
use Rattle.coll_texts.proofs.spelled_lines.write_rules_ended.Goals as goal

pub returns-in_err-write_rules : goal.returns-in_err-write_rules
returns-in_err-write_rules g c =
    let later = c.args.rules.now in
    record {
      sent = stops_first _ _ (rules_bytes later) (encode_utf8_all (spelled_joined spelled_rule later []))
          (10 ∷ []) c.from_residual.result refl c.from_residual.ensures.0 c.in_err-write_rules.ensures.sent;
      errors = search rules;
    }

pub returns : goal.returns
returns g c =
    let later = c.args.rules.now in
    record {
      sent = writes_rest _ _ _ (rules_bytes later) (encode_utf8_all (spelled_joined spelled_rule later []))
          (10 ∷ []) c.write_bytes.result refl c.in_ok-write_rules.ensures.sent c.write_bytes.ensures.sent;
      errors = search rules;
    }
