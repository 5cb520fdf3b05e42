-- The kinds of change that were made, and then what was lost.
use Rattle.std.proofs.Common.{map, string_bytes, refl, rules}
use Rattle.std.specs.List.{flat_map}
use Rattle.coll_source_lines.specs.Adjustments.{all_kinds}
use Rattle.coll_import.specs.ReportText.{told_of, dropped_line, report_text}
use Rattle.coll_texts.proofs.PrintedParts.{stops_first, writes_rest}
use Rattle.coll_import.proofs.reports.write_report.Goals as goal

pub returns-in_err-write_tallies : goal.returns-in_err-write_tallies
unfolding report_text
returns-in_err-write_tallies g c =
    let names = map string_bytes c.args.names.now in
    let report = c.args.report.now in
    let sent = rw (c.all_adjustments.ensures.listed) at c.in_err-write_tallies.ensures.sent in
    record {
      sent = stops_first _ _ (report_text names report) (flat_map (told_of names report.tallies) all_kinds) (flat_map (dropped_line names) report.losses) c.from_residual.result
          refl c.from_residual.ensures.0 sent;
      errors = search rules;
    }

pub returns : goal.returns
unfolding report_text
returns g c =
    let names = map string_bytes c.args.names.now in
    let report = c.args.report.now in
    let first = rw (c.all_adjustments.ensures.listed) at c.in_ok-write_tallies.ensures.sent in
    let last = rw (c.losses.ensures) at c.write_losses.ensures.sent in
    record {
      sent = writes_rest _ _ _ (report_text names report) (flat_map (told_of names report.tallies) all_kinds) (flat_map (dropped_line names) report.losses) c.write_losses.result
          refl first last;
      errors = search rules;
    }
