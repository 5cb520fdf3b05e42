-- Each of the first is one part, and the end of the line stands behind them.
use Rattle.std.proofs.lemmas.List.{drop_all}
use Rattle.std.proofs.Common.{◌+◌, arith, drop, length, ◌∙◌, rules}
use Rattle.std.specs.List.{flat_map}
use Rattle.coll_devices.proofs.WritingLemmas.{AppendsPrefix-before, Sends-after}
use Rattle.coll_texts.proofs.PrintedParts.{left_begins, written_all, written_prefix, written_more}
use Rattle.coll_lint.specs.WarningLines.{line_end, one_told}
use Rattle.coll_lint.proofs.warning_lines.write_firsts.Goals as goal

pub returns-in-Err : goal.returns-in-Err
returns-in-Err g c =
    let taken = g.W.Sink.taken in
    let all = c.args.firsts.now in
    let i = c.loop-one.one-index in
    record {
      sent = AppendsPrefix-before (taken c.args.out.now) (taken c.write_one.new.out) (flat_map (one_told c.args.warning) all) (line_end (length all) c.args.count)
          (written_prefix (one_told c.args.warning) all (drop i all) (drop (i + 1) all) c.one-item.result (taken c.args.out.now) (taken c.loop-one.out) (taken c.write_one.new.out)
          (left_begins all i c.one-item.result c.loop-one-test.true c.one-item.is) c.loop-one.invariant.sent c.in-Err.ensures.sent);
      errors = search rules;
    }

pub loop-one-preserved : goal.loop-one-preserved
loop-one-preserved g c =
    let taken = g.W.Sink.taken in
    let all = c.args.firsts.now in
    let i = c.loop-one.one-index in
    record {
      sent = written_more (one_told c.args.warning) all (drop i all) (drop (i + 1) all) c.one-item.result (taken c.args.out.now) (taken c.loop-one.out) (taken c.write_one.new.out)
          (left_begins all i c.one-item.result c.loop-one-test.true c.one-item.is) c.loop-one.invariant.sent c.in_default.ensures.sent;
      count = c.in_default.ensures.errors ∙ c.loop-one.invariant.count;
    }

pub returns : goal.returns
returns g c =
    let taken = g.W.Sink.taken in
    let all = c.args.firsts.now in
    let i = c.loop-one.one-index in
    record {
      sent = Sends-after (taken c.args.out.now) (taken c.loop-one.out) (taken c.write_bytes.new.out) (flat_map (one_told c.args.warning) all) (line_end (length all) c.args.count) c.write_bytes.result
          (written_all (one_told c.args.warning) all (drop i all) (taken c.args.out.now) (taken c.loop-one.out) (drop_all i all (omega (arith, c.loop-one-test.false))) c.loop-one.invariant.sent)
          (rw c.line_end.ensures at c.write_bytes.ensures.sent);
      errors = search rules;
    }
