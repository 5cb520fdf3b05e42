-- The second part stands behind the first, or a prefix of the first is written.
use Rattle.std.proofs.Common.{map, string_bytes, rules}
use Rattle.coll_devices.proofs.WritingLemmas.{AppendsPrefix-before, Sends-after}
use Rattle.coll_lint.specs.LintLines.{fault_head, about_told}
use Rattle.coll_lint.proofs.lint_lines.write_found.Goals as goal

pub returns-in-Ok : goal.returns-in-Ok
returns-in-Ok g c =
    record {
      sent = let taken = g.W.Sink.taken in
          Sends-after (taken c.args.out.now) (taken c.write_head.new.out) (taken c.write_about.new.out)
          (fault_head (map string_bytes c.args.names.now) c.args.found.now)
          (about_told c.args.found.now.sentence.now c.args.found.now.about) c.write_about.result
          c.in-Ok.ensures.sent c.write_about.ensures.sent;
      errors = search rules;
    }

pub returns-in-Err : goal.returns-in-Err
returns-in-Err g c =
    record {
      sent = let taken = g.W.Sink.taken in
          AppendsPrefix-before (taken c.args.out.now) (taken c.write_head.new.out)
          (fault_head (map string_bytes c.args.names.now) c.args.found.now)
          (about_told c.args.found.now.sentence.now c.args.found.now.about) c.in-Err.ensures.sent;
      errors = search rules;
    }
