-- The first rule, and the later ones.
use Rattle.std.proofs.Common.{[], ap, ◌∙◌, rules}
use Rattle.std.specs.Prelude.{encode_utf8_all}
use Rattle.std.specs.List.{flat_map}
use Rattle.coll_texts.specs.CanonicalText.{spelled_joined, spelled_rule}
use Rattle.coll_texts.specs.PrintedParts.{behind_bytes}
use Rattle.coll_texts.proofs.PrintedParts.{stops_first, writes_rest, joined_parts, rule_before}
use Rattle.coll_texts.proofs.spelled_lines.write_rules.Goals as goal

pub returns-in_err-write_rule : goal.returns-in_err-write_rule
returns-in_err-write_rule g c =
    let taken = g.W.Sink.taken in
    record {
      sent = stops_first (taken c.args.out.now) (taken c.write_rule.new.out) (encode_utf8_all (spelled_joined spelled_rule c.args.rules.now [])) (encode_utf8_all (spelled_rule c.in-Some.first.now []))
          (flat_map (behind_bytes spelled_rule) c.in-Some.later.now) c.from_residual.result (ap (λ rs. encode_utf8_all (spelled_joined spelled_rule rs [])) c.in-Some.ensures.cases.0
          ∙ joined_parts spelled_rule rule_before c.in-Some.first.now c.in-Some.later.now) c.from_residual.ensures.0 c.in_err-write_rule.ensures.sent;
      errors = search rules;
    }

pub returns : goal.returns
returns g c =
    let taken = g.W.Sink.taken in
    record {
      sent = writes_rest (taken c.args.out.now) (taken c.write_rule.new.out) (taken c.write_later_rules.new.out) (encode_utf8_all (spelled_joined spelled_rule c.args.rules.now []))
          (encode_utf8_all (spelled_rule c.in-Some.first.now [])) (flat_map (behind_bytes spelled_rule) c.in-Some.later.now) c.write_later_rules.result
          (ap (λ rs. encode_utf8_all (spelled_joined spelled_rule rs [])) c.in-Some.ensures.cases.0 ∙ joined_parts spelled_rule rule_before c.in-Some.first.now c.in-Some.later.now)
          c.in_ok-write_rule.ensures.sent c.write_later_rules.ensures.sent;
      errors = search rules;
    }
