-- Each line is one part.
use Rattle.std.proofs.Common.{◌+◌, drop, ◌∙◌, rules}
use Rattle.coll_texts.proofs.PrintedParts.{left_begins, written_prefix, written_more}
use Rattle.coll_lint.specs.WarningLines.{line_told}
use Rattle.coll_lint.proofs.warning_lines.write_kinds.Goals as goal

pub returns-in-Err : goal.returns-in-Err
returns-in-Err g c =
    let taken = g.W.Sink.taken in
    let all = c.args.kinds.now in
    let i = c.loop-kind.kind-index in
    record {
      sent = written_prefix line_told all (drop i all) (drop (i + 1) all) c.kind-item.result (taken c.args.out.now) (taken c.loop-kind.out) (taken c.write_line.new.out)
          (left_begins all i c.kind-item.result c.loop-kind-test.true c.kind-item.is) c.loop-kind.invariant.sent c.in-Err.ensures.sent;
      errors = search rules;
    }

pub loop-kind-preserved : goal.loop-kind-preserved
loop-kind-preserved g c =
    let taken = g.W.Sink.taken in
    let all = c.args.kinds.now in
    let i = c.loop-kind.kind-index in
    record {
      sent = written_more line_told all (drop i all) (drop (i + 1) all) c.kind-item.result (taken c.args.out.now) (taken c.loop-kind.out) (taken c.write_line.new.out)
          (left_begins all i c.kind-item.result c.loop-kind-test.true c.kind-item.is) c.loop-kind.invariant.sent c.in_default.ensures.sent;
      count = c.in_default.ensures.errors ∙ c.loop-kind.invariant.count;
    }
