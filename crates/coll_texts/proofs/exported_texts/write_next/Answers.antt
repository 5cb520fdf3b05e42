-- What stands before the rules, and the rules.
use Rattle.std.proofs.Common.{refl, rules}
use Rattle.std.specs.Prelude.{chars}
use Rattle.coll_texts.specs.ExportedParts.{start_bytes, next_bytes}
use Rattle.coll_texts.specs.PrintedParts.{rules_bytes}
use Rattle.coll_texts.proofs.PrintedParts.{stops_first, writes_rest}
use Rattle.coll_texts.proofs.exported_texts.write_next.Goals as goal

pub returns-in_err-write_start : goal.returns-in_err-write_start
returns-in_err-write_start g c =
    let later = c.args.rules.now in
    let name = chars c.args.name.now in
    record {
      sent = stops_first _ _ (next_bytes later name) (start_bytes name) (rules_bytes later) c.from_residual.result refl c.from_residual.ensures.0 c.in_err-write_start.ensures.sent;
      errors = search rules;
    }

pub returns : goal.returns
returns g c =
    let later = c.args.rules.now in
    let name = chars c.args.name.now in
    record {
      sent = writes_rest _ _ _ (next_bytes later name) (start_bytes name) (rules_bytes later) c.write_rules_ended.result refl c.in_ok-write_start.ensures.sent c.write_rules_ended.ensures.sent;
      errors = search rules;
    }
