-- The semicolon, and the rule.
use Rattle.std.proofs.Common.{[], ◌∷◌, rules}
use Rattle.std.specs.Prelude.{encode_utf8_all}
use Rattle.coll_texts.specs.CanonicalText.{spelled_rule}
use Rattle.coll_texts.specs.PrintedParts.{behind_bytes}
use Rattle.coll_texts.proofs.PrintedParts.{stops_first, writes_rest, behind_parts}
use Rattle.coll_texts.proofs.spelled_lines.write_rule_behind.Goals as goal

pub returns-in_err-write_bytes : goal.returns-in_err-write_bytes
returns-in_err-write_bytes g c =
    let taken = g.W.Sink.taken in
    record {
      sent = stops_first (taken c.args.out.now) (taken c.write_bytes.new.out) (behind_bytes spelled_rule c.args.rule) (59 ∷ []) (encode_utf8_all (spelled_rule c.args.rule [])) c.from_residual.result
          (behind_parts spelled_rule c.args.rule) c.from_residual.ensures.0 c.in_err-write_bytes.ensures.sent;
      errors = search rules;
    }

pub returns : goal.returns
returns g c =
    let taken = g.W.Sink.taken in
    record {
      sent = writes_rest (taken c.args.out.now) (taken c.write_bytes.new.out) (taken c.write_rule.new.out) (behind_bytes spelled_rule c.args.rule) (59 ∷ []) (encode_utf8_all
          (spelled_rule c.args.rule []))
          c.write_rule.result (behind_parts spelled_rule c.args.rule) c.in_ok-write_bytes.ensures.sent c.write_rule.ensures.sent;
      errors = search rules;
    }
