-- Each line is one part.
use Rattle.std.proofs.lemmas.List.{drop_all}
use Rattle.std.proofs.Common.{◌+◌, arith, drop, ◌∙◌, map, string_bytes, rules}
use Rattle.coll_texts.proofs.PrintedParts.{left_begins, written_prefix, written_more, written_all}
use Rattle.coll_lint.specs.LintLines.{found_line}
use Rattle.coll_lint.proofs.lint_lines.write_faults.Goals as goal

pub returns-in-Err : goal.returns-in-Err
returns-in-Err g c =
    record {
      sent = let taken = g.W.Sink.taken in
          let xs = c.args.faults.now in
          written_prefix (found_line (map string_bytes c.args.names.now)) xs (drop c.loop-found.found-index xs) (drop (c.loop-found.found-index + 1) xs) c.found-item.result (taken c.args.out.now)
          (taken c.loop-found.out) (taken c.write_found.new.out)
          (left_begins xs c.loop-found.found-index c.found-item.result c.loop-found-test.true c.found-item.is) c.loop-found.invariant.sent c.in-Err.ensures.sent;
      errors = search rules;
    }

pub loop-found-preserved : goal.loop-found-preserved
loop-found-preserved g c =
    let taken = g.W.Sink.taken in
    let xs = c.args.faults.now in
    record {
      sent = written_more (found_line (map string_bytes c.args.names.now)) xs (drop c.loop-found.found-index xs) (drop (c.loop-found.found-index + 1) xs) c.found-item.result (taken c.args.out.now)
          (taken c.loop-found.out) (taken c.write_found.new.out)
          (left_begins xs c.loop-found.found-index c.found-item.result c.loop-found-test.true c.found-item.is) c.loop-found.invariant.sent c.in_default.ensures.sent;
      count = c.in_default.ensures.errors ∙ c.loop-found.invariant.count;
    }

pub returns : goal.returns
returns g c =
    record {
      sent = let taken = g.W.Sink.taken in
          let xs = c.args.faults.now in
          written_all (found_line (map string_bytes c.args.names.now)) xs (drop c.loop-found.found-index xs) (taken c.args.out.now) (taken c.loop-found.out)
          (drop_all c.loop-found.found-index xs (omega (arith, c.loop-found-test.false))) c.loop-found.invariant.sent;
      errors = search rules;
    }
