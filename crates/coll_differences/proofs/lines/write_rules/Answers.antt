-- The word, the rules, and the line's end.
use Rattle.std.proofs.Common.{codes, ◌++◌, refl, ap, rules}
use Rattle.std.specs.List.{flat_map}
use Rattle.coll_differences.specs.Lines.{rules_told, rule_word, line_end}
use Rattle.coll_devices.proofs.WritingLemmas.{Sends-after}
use Rattle.coll_texts.proofs.PrintedParts.{stops_first, writes_rest}
use Rattle.coll_differences.proofs.lines.write_rules.Goals as goal

pub returns-in_err-write_bytes : goal.returns-in_err-write_bytes
returns-in_err-write_bytes g c =
    let taken = g.W.Sink.taken in
    record {
      sent = stops_first (taken c.args.out.now) (taken c.write_bytes.new.out) (rules_told c.args.told) (codes "rules") ((flat_map rule_word c.in-Some.rules.now) ++ line_end) c.from_residual.result
          (ap rules_told c.in-Some.is) c.from_residual.ensures.0 c.in_err-write_bytes.ensures.sent;
      errors = search rules;
    }

pub returns-in_err-write_rule_words : goal.returns-in_err-write_rule_words
returns-in_err-write_rule_words g c =
    let taken = g.W.Sink.taken in
    record {
      sent = writes_rest (taken c.args.out.now) (taken c.write_bytes.new.out) (taken c.write_rule_words.new.out) (rules_told c.args.told) (codes "rules")
          ((flat_map rule_word c.in-Some.rules.now) ++ line_end) c.from_residual-in_err-write_rule_words.result (ap rules_told c.in-Some.is) c.in_ok-write_bytes.ensures.sent
          (stops_first (taken c.write_bytes.new.out) (taken c.write_rule_words.new.out) _ (flat_map rule_word c.in-Some.rules.now) line_end c.from_residual-in_err-write_rule_words.result refl
          c.from_residual-in_err-write_rule_words.ensures.0 c.in_err-write_rule_words.ensures.sent);
      errors = search rules;
    }

pub returns : goal.returns
returns g c =
    let taken = g.W.Sink.taken in
    record {
      sent = writes_rest (taken c.args.out.now) (taken c.write_bytes.new.out) (taken c.write_bytes-2.new.out) (rules_told c.args.told) (codes "rules")
          ((flat_map rule_word c.in-Some.rules.now) ++ line_end)
          c.write_bytes-2.result (ap rules_told c.in-Some.is) c.in_ok-write_bytes.ensures.sent
          (Sends-after (taken c.write_bytes.new.out) (taken c.write_rule_words.new.out) (taken c.write_bytes-2.new.out) (flat_map rule_word c.in-Some.rules.now) line_end c.write_bytes-2.result
          c.in_ok-write_rule_words.ensures.sent
          c.write_bytes-2.ensures.sent);
      errors = search rules;
    }
