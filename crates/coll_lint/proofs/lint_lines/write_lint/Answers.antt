-- The second part stands behind the first, or a prefix of the first is written.
use Rattle.std.proofs.Common.{map, string_bytes, rules}
use Rattle.coll_devices.proofs.WritingLemmas.{AppendsPrefix-before, Sends-after}
use Rattle.coll_lint.specs.LintLines.{faults_text, lint_text}
use Rattle.coll_lint.specs.WarningLines.{warnings_text}
use Rattle.coll_lint.proofs.lint_lines.write_lint.Goals as goal

pub returns-in-Ok : goal.returns-in-Ok
unfolding lint_text
returns-in-Ok g c =
    record {
      sent = let taken = g.W.Sink.taken in
          Sends-after (taken c.args.out.now) (taken c.write_told_faults.new.out) (taken c.write_warnings.new.out)
          (faults_text (map string_bytes c.args.names.now) c.args.lint.now)
          (warnings_text (map string_bytes c.args.names.now) c.args.lint.now.warnings) c.write_warnings.result
          c.in-Ok.ensures.sent c.write_warnings.ensures.sent;
      errors = search rules;
    }

pub returns-in-Err : goal.returns-in-Err
unfolding lint_text
returns-in-Err g c =
    record {
      sent = let taken = g.W.Sink.taken in
          AppendsPrefix-before (taken c.args.out.now) (taken c.write_told_faults.new.out)
          (faults_text (map string_bytes c.args.names.now) c.args.lint.now)
          (warnings_text (map string_bytes c.args.names.now) c.args.lint.now.warnings) c.in-Err.ensures.sent;
      errors = search rules;
    }
