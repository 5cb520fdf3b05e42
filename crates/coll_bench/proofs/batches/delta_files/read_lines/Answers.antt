-- Each way out of the reading is what the text says.
use Rattle.std.proofs.Common.{◌≡◌, List, ℕ, None, Ok, arith, refl, sym, subst, ◌∙◌, ap}
use Rattle.coll_devices.specs.LineReading.{ReaderState, no_line}
use Rattle.coll_table.proofs.TextLoading.{gives_line, gives_none}
use Rattle.coll_requests.specs.DeltaReading.{DeltaState}
use Rattle.coll_bench.specs.BatchReading.{FailsAs, IsFaultNumber, LeadsOver, line_taken}
use Rattle.coll_bench.specs.BatchRuns.{ending_of}
use Rattle.coll_bench.proofs.DeltaTexts.{Reached, begins, leads_on, by_all, goes_on, given_whole, refused, stopped, ends_file, ends_nothing, counts}
use Rattle.coll_bench.proofs.batches.delta_files.read_lines.Goals as goal

pub lines-init : goal.lines-init
lines-init g c =
    let left = g.R.Source.left in
    let table = g.T.TakesStatements.table c.args.taker.now in
    let reaches = g.T.TakesStatements.Reaches in
    record {
      reached = subst (λ (r : ReaderState). Reached c.args.input table reaches c.args.taker.now c.args.taker.now (left c.args.delta.now) r (left c.args.delta.now) table c.args.file)
          (sym c.requires.reader)
          (subst (λ (s : DeltaState). Reached c.args.input table reaches c.args.taker.now c.args.taker.now (left c.args.delta.now) no_line (left c.args.delta.now) table s) (sym c.requires.file)
          (begins c.args.input table reaches c.args.taker.now (left c.args.delta.now) (g.met.T.TakesStatements.stays c.args.taker.now)));
      going = ap (λ (s : DeltaState). s.ended) c.requires.file;
      errors = refl;
      goes_on = ap (λ (r : ReaderState). r.stop) c.requires.reader;
    }

pub returns-in-Err-take_line-clause-file : goal.returns-in-Err-take_line-clause-file
returns-in-Err-take_line-clause-file g c =
    let left = g.R.Source.left in
    let failed = g.R.Source.failed in
    let gives = gives_line c.lines.reader c.advance.new.self (left c.lines.delta) (left c.advance.new.input) (failed c.lines.delta) (failed c.advance.new.input) c.in-Ok-true.field-0
    c.in-Ok-true.field-0-test c.in-Ok-true.ensures in
    let fails = subst (λ (line : List ℕ). FailsAs (ending_of c.in-Err-take_line.ended) (line_taken c.args.input (g.T.TakesStatements.table c.lines.taker) c.lines.file line) c.in-Err-take_line.ended)
    c.line.ensures
    c.in-Err-take_line.ensures.err in
    refused c.args.input (g.T.TakesStatements.table c.args.taker.now) (left c.args.delta.now) c.lines.reader (left c.lines.delta) (g.T.TakesStatements.table c.lines.taker) c.lines.file
    c.lines.invariant.reached.way c.lines.invariant.going
    c.advance.new.self (left c.advance.new.input) (failed c.lines.delta) (failed c.advance.new.input) c.in-Err-take_line.ended gives fails
    (subst (λ (line : List ℕ). c.lines.file.fault ≡ None → IsFaultNumber c.lines.file line c.in-Err-take_line.ended.line) c.line.ensures c.in-Err-take_line.ensures.number)

pub returns-in-Err-clause-file : goal.returns-in-Err-clause-file
returns-in-Err-clause-file g c =
    let left = g.R.Source.left in
    let failed = g.R.Source.failed in
    rw (c.stop_fault.ensures, c.next_number-number.ensures) (stopped c.args.input (g.T.TakesStatements.table c.args.taker.now) (left c.args.delta.now) c.lines.reader (left c.lines.delta)
    (g.T.TakesStatements.table c.lines.taker)
    c.lines.file c.lines.invariant.reached.way c.lines.invariant.going
    c.advance.new.self (left c.advance.new.input) (failed c.lines.delta) (failed c.advance.new.input) c.in-Err.stop c.lines.invariant.goes_on c.in-Err.ensures)

pub returns-in-Ok-false-clause-file : goal.returns-in-Ok-false-clause-file
returns-in-Ok-false-clause-file g c =
    let left = g.R.Source.left in
    let failed = g.R.Source.failed in
    let none = gives_none c.lines.reader c.advance.new.self (left c.lines.delta) (left c.advance.new.input) (failed c.lines.delta) (failed c.advance.new.input) c.in-Ok-false.field-0
    c.in-Ok-false.field-0-test c.in-Ok-false.ensures in
    ends_file c.args.input (g.T.TakesStatements.table c.args.taker.now) (left c.args.delta.now) c.lines.reader (left c.lines.delta) (g.T.TakesStatements.table c.lines.taker) c.lines.file
    c.lines.invariant.reached.way c.lines.invariant.going
    c.advance.new.self (left c.advance.new.input) (failed c.lines.delta) (failed c.advance.new.input) none c.end_file.result c.end_file.ensures.ok c.end_file.ensures.err

pub returns-then-finished-clause-file : goal.returns-then-finished-clause-file
returns-then-finished-clause-file g c =
    let left = g.R.Source.left in
    let failed = g.R.Source.failed in
    let gives = gives_line c.lines.reader c.advance.new.self (left c.lines.delta) (left c.advance.new.input) (failed c.lines.delta) (failed c.advance.new.input) c.in-Ok-true.field-0
    c.in-Ok-true.field-0-test c.in-Ok-true.ensures in
    let taken : line_taken c.args.input (g.T.TakesStatements.table c.lines.taker) c.lines.file c.advance.new.self.line ≡ Ok (g.T.TakesStatements.table c.take_line.new.taker, c.take_line.new.file)
    = subst
    (λ (line : List ℕ). line_taken c.args.input (g.T.TakesStatements.table c.lines.taker) c.lines.file line ≡ Ok (g.T.TakesStatements.table c.take_line.new.taker, c.take_line.new.file))
    c.line.ensures c.in_default.ensures.ok in
    let way = goes_on c.args.input (g.T.TakesStatements.table c.args.taker.now) (left c.args.delta.now) c.lines.reader (left c.lines.delta) (g.T.TakesStatements.table c.lines.taker) c.lines.file
    c.lines.invariant.reached.way
    c.lines.invariant.going
    c.advance.new.self (left c.advance.new.input) (failed c.lines.delta) (failed c.advance.new.input) (g.T.TakesStatements.table c.take_line.new.taker) c.take_line.new.file taken gives in
    given_whole c.args.input (g.T.TakesStatements.table c.args.taker.now) (left c.args.delta.now) c.advance.new.self (left c.advance.new.input) (g.T.TakesStatements.table c.take_line.new.taker)
    c.take_line.new.file way
    (sym c.finished.ensures ∙ c.if-finished.true)

pub returns-then-finished-clause-reaches : goal.returns-then-finished-clause-reaches
returns-then-finished-clause-reaches g c =
    let left = g.R.Source.left in
    let failed = g.R.Source.failed in
    let table = g.T.TakesStatements.table in
    let gives = gives_line c.lines.reader c.advance.new.self (left c.lines.delta) (left c.advance.new.input) (failed c.lines.delta) (failed c.advance.new.input) c.in-Ok-true.field-0
    c.in-Ok-true.field-0-test c.in-Ok-true.ensures in
    let taken : line_taken c.args.input (table c.lines.taker) c.lines.file c.advance.new.self.line ≡ Ok (table c.take_line.new.taker, c.take_line.new.file) = subst
    (λ (line : List ℕ). line_taken c.args.input (table c.lines.taker) c.lines.file line ≡ Ok (table c.take_line.new.taker, c.take_line.new.file)) c.line.ensures c.in_default.ensures.ok in
    let over = subst (λ (line : List ℕ). LeadsOver g.T.TakesStatements.Reaches c.lines.taker c.take_line.new.taker c.lines.file line c.take_line.new.file) c.line.ensures
    c.in_default.ensures.reaches in
    let reached = leads_on c.args.input (table c.args.taker.now) g.T.TakesStatements.Reaches c.args.taker.now c.lines.taker (left c.args.delta.now) c.lines.reader (left c.lines.delta)
    (table c.lines.taker) c.lines.file c.lines.invariant.reached c.lines.invariant.going c.advance.new.self (left c.advance.new.input) (failed c.lines.delta) (failed c.advance.new.input)
    (table c.take_line.new.taker) c.take_line.new.file taken gives c.take_line.new.taker over in
    by_all c.args.input (table c.args.taker.now) g.T.TakesStatements.Reaches c.args.taker.now c.take_line.new.taker (left c.args.delta.now) c.advance.new.self (left c.advance.new.input)
    (table c.take_line.new.taker) c.take_line.new.file reached (sym c.finished.ensures ∙ c.if-finished.true)

pub returns-in-Ok-false-clause-reaches : goal.returns-in-Ok-false-clause-reaches
returns-in-Ok-false-clause-reaches g c =
    ends_nothing c.args.input (g.T.TakesStatements.table c.args.taker.now) (g.R.Source.left c.args.delta.now) c.lines.reader (g.R.Source.left c.lines.delta)
    (g.T.TakesStatements.table c.lines.taker) c.lines.file c.lines.invariant.reached.way c.lines.invariant.going c.advance.new.self (g.R.Source.left c.advance.new.input)
    (g.R.Source.failed c.lines.delta) (g.R.Source.failed c.advance.new.input) _ c.end_file.result c.end_file.ensures.ok

pub lines-smaller : goal.lines-smaller
lines-smaller g c =
    let left = g.R.Source.left in
    let failed = g.R.Source.failed in
    let taken : line_taken c.args.input (g.T.TakesStatements.table c.lines.taker) c.lines.file c.advance.new.self.line ≡ Ok (g.T.TakesStatements.table c.take_line.new.taker, c.take_line.new.file)
    = subst
    (λ (line : List ℕ). line_taken c.args.input (g.T.TakesStatements.table c.lines.taker) c.lines.file line ≡ Ok (g.T.TakesStatements.table c.take_line.new.taker, c.take_line.new.file))
    c.line.ensures c.in_default.ensures.ok in
    let one = counts c.args.input (g.T.TakesStatements.table c.args.taker.now) (left c.args.delta.now) c.lines.reader (left c.lines.delta) (g.T.TakesStatements.table c.lines.taker) c.lines.file
    c.lines.invariant.reached.way
    c.lines.invariant.going
    c.advance.new.self (left c.advance.new.input) (failed c.lines.delta) (failed c.advance.new.input) (g.T.TakesStatements.table c.take_line.new.taker) c.take_line.new.file taken
    (sym c.finished.ensures ∙ c.if-finished.false) in
    omega (arith, one.0, one.1)

pub lines-preserved : goal.lines-preserved
lines-preserved g c =
    let left = g.R.Source.left in
    let failed = g.R.Source.failed in
    let table = g.T.TakesStatements.table in
    let gives = gives_line c.lines.reader c.advance.new.self (left c.lines.delta) (left c.advance.new.input) (failed c.lines.delta) (failed c.advance.new.input) c.in-Ok-true.field-0
    c.in-Ok-true.field-0-test c.in-Ok-true.ensures in
    let taken : line_taken c.args.input (table c.lines.taker) c.lines.file c.advance.new.self.line ≡ Ok (table c.take_line.new.taker, c.take_line.new.file) = subst
    (λ (line : List ℕ). line_taken c.args.input (table c.lines.taker) c.lines.file line ≡ Ok (table c.take_line.new.taker, c.take_line.new.file)) c.line.ensures c.in_default.ensures.ok in
    let over = subst (λ (line : List ℕ). LeadsOver g.T.TakesStatements.Reaches c.lines.taker c.take_line.new.taker c.lines.file line c.take_line.new.file) c.line.ensures
    c.in_default.ensures.reaches in
    record {
      reached = leads_on c.args.input (table c.args.taker.now) g.T.TakesStatements.Reaches c.args.taker.now c.lines.taker (left c.args.delta.now) c.lines.reader (left c.lines.delta)
          (table c.lines.taker) c.lines.file c.lines.invariant.reached c.lines.invariant.going c.advance.new.self (left c.advance.new.input) (failed c.lines.delta) (failed c.advance.new.input)
          (table c.take_line.new.taker) c.take_line.new.file taken gives c.take_line.new.taker over;
      going = sym c.finished.ensures ∙ c.if-finished.false;
      errors = gives.count ∙ c.lines.invariant.errors;
      goes_on = gives.stop;
    }
