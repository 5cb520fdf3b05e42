-- A run goes on by a line, and ends in one of the ways in which a run can.
use Rattle.std.proofs.Common.{◌≡◌, refl, sym, ap, ◌∙◌, subst}
use Rattle.std.proofs.Common.{ℕ, List}
use Rattle.std.specs.Prelude.{◌==◌, if◌then◌else◌}
use Rattle.coll_devices.specs.Devices.{raised}
use Rattle.coll_devices.specs.PhysicalLines.{IsInLine}
use Rattle.coll_devices.specs.LineReading.{ReaderState, Cuts, unread}
use Rattle.coll_faults.specs.Faults.{fault_number}
use Rattle.coll_bench.proofs.ServingLemmas.{counts_after}
use Rattle.coll_bench.proofs.RunSteps.{underway_begun, underway_on, unread_begun, gives_line, gives_end, count_at_end, stops_now, reads_kept}
use Rattle.coll_bench.proofs.RunExits.{line_ended, cut_off_ended, text_ended}
use Rattle.coll_bench.proofs.runs.serve_lines.Goals as goal

pub lines-init : goal.lines-init
lines-init g c = record {
  going = ap (λ (r : ReaderState). r.stop) c.requires;
  reads = refl;
  writes = refl;
  flushed = λ all. all;
  underway = λ start text before begins left_is taken_is.
      underway_begun start text before c.args.reader.now.ended (unread c.args.reader.now (g.R.Source.left c.args.input.now)) (g.W.Sink.taken c.args.output.now) c.args.state.now begins
      (ap (λ (r : ReaderState). r.ended) c.requires) (unread_begun c.args.reader.now (g.R.Source.left c.args.input.now) text c.requires left_is) taken_is;
}

pub returns-in-Err-serve-clause-run : goal.returns-in-Err-serve-clause-run
returns-in-Err-serve-clause-run g c start begins text before left_is taken_is =
    let left = g.R.Source.left in
    let taken = g.W.Sink.taken in
    let line = gives_line c.lines.reader c.advance.new.self (left c.lines.input) (left c.advance.new.input) (g.R.Source.failed c.lines.input) (g.R.Source.failed c.advance.new.input)
    c.in-Ok-true.field-0 c.in-Ok-true.ensures c.in-Ok-true.field-0-test in
    line_ended start text before (left c.advance.new.input) c.lines.reader.ended c.advance.new.self.ended (unread c.lines.reader (left c.lines.input))
    (unread c.advance.new.self (left c.advance.new.input)) (taken c.lines.output) (taken c.serve.new.output)
    c.lines.state c.line.result.now c.in-Err-serve.ended (c.lines.invariant.underway start text before begins left_is taken_is) line.not_ended
    (subst (λ (l : List ℕ). Cuts c.advance.new.self.ended (unread c.lines.reader (left c.lines.input)) (unread c.advance.new.self (left c.advance.new.input)) l) (sym c.line.ensures) line.cut)
    (subst (λ (l : List ℕ). IsInLine l) (sym c.line.ensures) line.whole) c.in-Err-serve.ensures.served

pub lines-preserved : goal.lines-preserved
lines-preserved g c =
    let left = g.R.Source.left in
    let taken = g.W.Sink.taken in
    let line = gives_line c.lines.reader c.advance.new.self (left c.lines.input) (left c.advance.new.input) (g.R.Source.failed c.lines.input) (g.R.Source.failed c.advance.new.input)
    c.in-Ok-true.field-0 c.in-Ok-true.ensures c.in-Ok-true.field-0-test in
    record {
      going = line.stop;
      reads = line.count ∙ c.lines.invariant.reads;
      writes = c.in_default.ensures.errors ∙ c.lines.invariant.writes;
      flushed = λ all. c.in_default.ensures.flushed (c.lines.invariant.flushed all);
      underway = λ start text before begins left_is taken_is.
          underway_on start text before c.lines.reader.ended c.advance.new.self.ended (unread c.lines.reader (left c.lines.input)) (unread c.advance.new.self (left c.advance.new.input))
          (taken c.lines.output) (taken c.serve.new.output) c.lines.state c.serve.new.self c.line.result.now
          (c.lines.invariant.underway start text before begins left_is taken_is) line.not_ended
          (subst (λ (l : List ℕ). Cuts c.advance.new.self.ended (unread c.lines.reader (left c.lines.input)) (unread c.advance.new.self (left c.advance.new.input)) l) (sym c.line.ensures) line.cut)
          (subst (λ (l : List ℕ). IsInLine l) (sym c.line.ensures) line.whole) c.in_default.ensures.served;
    }

pub returns-in-Ok-false-clause-run : goal.returns-in-Ok-false-clause-run
returns-in-Ok-false-clause-run g c start begins text before left_is taken_is =
    let left = g.R.Source.left in
    let taken = g.W.Sink.taken in
    let end = gives_end c.lines.reader c.advance.new.self (left c.lines.input) (left c.advance.new.input) (g.R.Source.failed c.lines.input) (g.R.Source.failed c.advance.new.input)
    c.in-Ok-false.field-0 c.in-Ok-false.ensures c.in-Ok-false.field-0-test in
    text_ended start text before c.lines.reader c.advance.new.self (left c.lines.input) (left c.advance.new.input) (taken c.lines.output) (taken c.finish.new.output) (g.R.Source.failed c.lines.input)
    (g.R.Source.failed c.advance.new.input)
    c.lines.state c.finish.result (c.lines.invariant.underway start text before begins left_is taken_is) end c.finish.ensures.ended

pub returns-in-Ok-false-clause-reads : goal.returns-in-Ok-false-clause-reads
returns-in-Ok-false-clause-reads g c =
    let left = g.R.Source.left in
    let failed = g.R.Source.failed in
    let end = gives_end c.lines.reader c.advance.new.self (left c.lines.input) (left c.advance.new.input) (failed c.lines.input) (failed c.advance.new.input) c.in-Ok-false.field-0
    c.in-Ok-false.ensures c.in-Ok-false.field-0-test in
    reads_kept (failed c.args.input.now) (failed c.lines.input) (failed c.advance.new.input) c.finish.result c.lines.invariant.reads
    (count_at_end c.lines.reader c.advance.new.self (left c.lines.input) (left c.advance.new.input) (failed c.lines.input) (failed c.advance.new.input) end) c.finish.ensures.reads

pub returns-in-Err-clause-run : goal.returns-in-Err-clause-run
returns-in-Err-clause-run g c start begins text before left_is taken_is =
    let left = g.R.Source.left in
    let taken = g.W.Sink.taken in
    let failed = g.R.Source.failed in
    let stop = stops_now c.lines.reader c.advance.new.self (left c.lines.input) (left c.advance.new.input) (failed c.lines.input) (failed c.advance.new.input) c.in-Err.stop c.in-Err.ensures
    c.lines.invariant.going in
    cut_off_ended start text before c.lines.reader c.advance.new.self (left c.lines.input) (left c.advance.new.input) (taken c.lines.output) (taken c.cut_off.new.output) (failed c.lines.input)
    (failed c.advance.new.input)
    c.lines.state c.in-Err.stop c.cut_off.result stop (c.lines.invariant.underway start text before begins left_is taken_is) c.cut_off.ensures.ended

pub returns-in-Err-clause-reads : goal.returns-in-Err-clause-reads
returns-in-Err-clause-reads g c =
    let left = g.R.Source.left in
    let failed = g.R.Source.failed in
    let stop = stops_now c.lines.reader c.advance.new.self (left c.lines.input) (left c.advance.new.input) (failed c.lines.input) (failed c.advance.new.input) c.in-Err.stop c.in-Err.ensures
    c.lines.invariant.going in
    subst (λ (f : ℕ). failed c.advance.new.input ≡ (if fault_number c.cut_off.result.fault == 67 then raised f else f)) c.lines.invariant.reads
    (counts_after (failed c.lines.input) (failed c.advance.new.input) c.in-Err.stop c.cut_off.result stop.count c.cut_off.ensures.reads)
