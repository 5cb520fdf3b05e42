-- Each kind of change is one part.
use Rattle.std.proofs.Common.{◌+◌, map, drop, get_or, string_bytes, ◌∙◌, rules}
use Rattle.std.proofs.lemmas.List.{drop_more}
use Rattle.coll_source_lines.specs.declared.adjustments.Adjustment.TheVariants.{CopyInlined}
use Rattle.coll_import.specs.ReportText.{told_of}
use Rattle.coll_texts.proofs.PrintedParts.{written_prefix, written_more}
use Rattle.coll_import.proofs.reports.write_tallies.Goals as goal

pub returns-in-Err : goal.returns-in-Err
returns-in-Err g c =
    let taken = g.W.Sink.taken in
    let all = c.args.kinds.now in
    let i = c.loop-kind.kind-index in
    record {
      sent = written_prefix (told_of (map string_bytes c.args.names.now) c.args.report.now.tallies) all (drop i all) (drop (i + 1) all) (get_or all i CopyInlined) (taken c.args.out.now)
          (taken c.loop-kind.out)
          (taken c.write_if_made.new.out)
          (drop_more all i CopyInlined c.loop-kind-test.true) c.loop-kind.invariant.sent c.in-Err.ensures.sent;
      errors = search rules;
    }

pub loop-kind-preserved : goal.loop-kind-preserved
loop-kind-preserved g c =
    let taken = g.W.Sink.taken in
    let all = c.args.kinds.now in
    let i = c.loop-kind.kind-index in
    record {
      sent = written_more (told_of (map string_bytes c.args.names.now) c.args.report.now.tallies) all (drop i all) (drop (i + 1) all) (get_or all i CopyInlined) (taken c.args.out.now)
          (taken c.loop-kind.out)
          (taken c.write_if_made.new.out)
          (drop_more all i CopyInlined c.loop-kind-test.true) c.loop-kind.invariant.sent c.in_default.ensures.sent;
      count = c.in_default.ensures.errors ∙ c.loop-kind.invariant.count;
    }
