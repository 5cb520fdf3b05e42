-- The word, and the rules with the line's end.
use Rattle.std.proofs.Common.{codes, rules}
use Rattle.coll_texts.specs.CanonicalText.{rules_line, line_bytes}
use Rattle.coll_texts.specs.PrintedParts.{rules_bytes}
use Rattle.coll_texts.proofs.PrintedParts.{stops_first, writes_rest, rules_parts}
use Rattle.coll_texts.proofs.spelled_lines.write_rules_line.Goals as goal

pub returns-in_err-write_bytes : goal.returns-in_err-write_bytes
returns-in_err-write_bytes g c =
    let later = c.args.rules.now in
    record {
      sent = stops_first _ _ (line_bytes (rules_line later)) (codes "order_start ") (rules_bytes later) c.from_residual.result
          (rules_parts later) c.from_residual.ensures.0 c.in_err-write_bytes.ensures.sent;
      errors = search rules;
    }

pub returns : goal.returns
returns g c =
    let later = c.args.rules.now in
    record {
      sent = writes_rest _ _ _ (line_bytes (rules_line later)) (codes "order_start ") (rules_bytes later) c.write_rules_ended.result (rules_parts later) c.in_ok-write_bytes.ensures.sent
          c.write_rules_ended.ensures.sent;
      errors = search rules;
    }
