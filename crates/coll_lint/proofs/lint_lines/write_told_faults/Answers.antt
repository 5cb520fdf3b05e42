-- The second part stands behind the first, or a prefix of the first is written.
use Rattle.std.proofs.Common.{List, map, string_bytes, codes, subst, rules}
use Rattle.std.specs.Io.KnownBytes.{Appends}
use Rattle.std.specs.List.{flat_map}
use Rattle.coll_devices.specs.Devices.{AppendsPrefix}
use Rattle.coll_devices.proofs.WritingLemmas.{AppendsPrefix-before, Sends-after}
use Rattle.coll_lint.specs.LintLines.{found_line, more_line}
use Rattle.coll_findings.specs.declared.findings.FoundFault.{FoundFault}
use Rattle.coll_lint.proofs.lint_lines.write_told_faults.Goals as goal

pub returns-in-Ok : goal.returns-in-Ok
returns-in-Ok g c =
    record {
      sent = let taken = g.W.Sink.taken in
          Sends-after (taken c.args.out.now) (taken c.write_faults.new.out) (taken c.write_more.new.out)
          (flat_map (found_line (map string_bytes c.args.names.now)) c.args.lint.now.faults)
          (more_line (map string_bytes c.args.names.now) (codes ": more faults aren't told\n") c.args.lint.now.more_faults) c.write_more.result
          (subst (λ (told : List FoundFault). Appends (taken c.args.out.now) (taken c.write_faults.new.out) (flat_map (found_line (map string_bytes c.args.names.now)) told)) c.get.ensures c.in-Ok.ensures.sent)
          c.write_more.ensures.sent;
      errors = search rules;
    }

pub returns-in-Err : goal.returns-in-Err
returns-in-Err g c =
    record {
      sent = let taken = g.W.Sink.taken in
          AppendsPrefix-before (taken c.args.out.now) (taken c.write_faults.new.out)
          (flat_map (found_line (map string_bytes c.args.names.now)) c.args.lint.now.faults)
          (more_line (map string_bytes c.args.names.now) (codes ": more faults aren't told\n") c.args.lint.now.more_faults)
          (subst (λ (told : List FoundFault). AppendsPrefix (taken c.args.out.now) (taken c.write_faults.new.out) (flat_map (found_line (map string_bytes c.args.names.now)) told)) c.get.ensures c.in-Err.ensures.sent);
      errors = search rules;
    }
