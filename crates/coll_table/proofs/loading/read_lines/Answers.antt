-- One line more, or what ends the reading.
use Rattle.std.proofs.Common.{◌≡◌, Ok, Err, refl, sym, ap, subst, ◌∙◌, arith}
use Rattle.std.proofs.lemmas.Result.{err_from_is_err_and}
use Rattle.coll_devices.specs.LineReading.{ReaderState}
use Rattle.coll_texts.specs.Loading.{LoaderState, loaded_line}
use Rattle.coll_table.specs.Loads.{stop_fault, counted_by}
use Rattle.coll_table.proofs.TextLoading.{sets_out, gives_line, gives_none, goes_on, refused, stopped, counts, all_read, ended_reads, counts_none, counts_end, counts_stop}
use Rattle.coll_table.proofs.loading.read_lines.Goals as goal

pub lines-init : goal.lines-init
lines-init g c =
    let left = g.R.Source.left c.args.input.now in
    record {
      way = rw (c.requires.loader, c.requires.reader) (sets_out left);
      going = ap (λ (s : LoaderState). s.ended) c.requires.loader;
      errors = refl;
      goes_on = ap (λ (r : ReaderState). r.stop) c.requires.reader;
    }

pub returns-in_err-line-in-Ok-true-clause-fault : goal.returns-in_err-line-in-Ok-true-clause-fault
returns-in_err-line-in-Ok-true-clause-fault g c =
    let left = g.R.Source.left in
    let failed = g.R.Source.failed in
    let gives = gives_line c.lines.reader c.advance.new.self (left c.lines.input) (left c.advance.new.input) (failed c.lines.input) (failed c.advance.new.input) c.in-Ok-true.field-0
    c.in-Ok-true.field-0-test c.in-Ok-true.ensures in
    let p = err_from_is_err_and c.from_residual.result c.from_residual.ensures.1 in
    let fault = c.in_err-line-in-Ok-true.field-0.0 in
    rw (p.1, p.2) (refused (left c.args.input.now) c.lines.reader (left c.lines.input) c.lines.loader c.lines.invariant.way c.lines.invariant.going c.advance.new.self (left c.advance.new.input)
    (failed c.lines.input) (failed c.advance.new.input) fault gives c.in_err-line-in-Ok-true.ensures.cause c.in_err-line-in-Ok-true.ensures.starved_at
    (λ memory. subst (λ line. loaded_line c.lines.loader line ≡ Err fault) c.line.ensures (c.in_err-line-in-Ok-true.ensures.err memory)))

pub returns-in_err-line-in-Ok-true-clause-errors : goal.returns-in_err-line-in-Ok-true-clause-errors
returns-in_err-line-in-Ok-true-clause-errors g c =
    let left = g.R.Source.left in
    let failed = g.R.Source.failed in
    let gives = gives_line c.lines.reader c.advance.new.self (left c.lines.input) (left c.advance.new.input) (failed c.lines.input) (failed c.advance.new.input) c.in-Ok-true.field-0
    c.in-Ok-true.field-0-test c.in-Ok-true.ensures in
    let p = err_from_is_err_and c.from_residual.result c.from_residual.ensures.1 in
    let fault = c.in_err-line-in-Ok-true.field-0.0 in
    rw (p.1, p.2) (counts_none (failed c.args.input.now) (failed c.advance.new.input) (Err fault) (gives.count ∙ c.lines.invariant.errors) c.in_err-line-in-Ok-true.ensures.cause)

pub returns-in-Ok-false-clause-read : goal.returns-in-Ok-false-clause-read
returns-in-Ok-false-clause-read g c =
    let left = g.R.Source.left in
    let failed = g.R.Source.failed in
    let none = gives_none c.lines.reader c.advance.new.self (left c.lines.input) (left c.advance.new.input) (failed c.lines.input) (failed c.advance.new.input) c.in-Ok-false.field-0
    c.in-Ok-false.field-0-test c.in-Ok-false.ensures in
    all_read (left c.args.input.now) c.lines.reader (left c.lines.input) c.lines.loader c.lines.invariant.way c.lines.invariant.going c.advance.new.self (left c.advance.new.input)
    (failed c.lines.input) (failed c.advance.new.input) none

pub returns-in-Ok-false-clause-faultless : goal.returns-in-Ok-false-clause-faultless
returns-in-Ok-false-clause-faultless g c = c.lines.invariant.way.stands.faultless

pub returns-in-Ok-false-clause-errors : goal.returns-in-Ok-false-clause-errors
returns-in-Ok-false-clause-errors g c =
    let left = g.R.Source.left in
    let failed = g.R.Source.failed in
    let none = gives_none c.lines.reader c.advance.new.self (left c.lines.input) (left c.advance.new.input) (failed c.lines.input) (failed c.advance.new.input) c.in-Ok-false.field-0
    c.in-Ok-false.field-0-test c.in-Ok-false.ensures in
    counts_end c.lines.reader c.advance.new.self (left c.lines.input) (left c.advance.new.input) (failed c.lines.input) (failed c.advance.new.input) none ∙ c.lines.invariant.errors

pub returns-in-Err-clause-fault : goal.returns-in-Err-clause-fault
returns-in-Err-clause-fault g c =
    let left = g.R.Source.left in
    let failed = g.R.Source.failed in
    rw (c.stop_fault.ensures, c.next_number.ensures) (stopped (left c.args.input.now) c.lines.reader (left c.lines.input) c.lines.loader c.lines.invariant.way c.lines.invariant.going
    c.advance.new.self (left c.advance.new.input) (failed c.lines.input) (failed c.advance.new.input) c.in-Err.stop c.lines.invariant.goes_on c.in-Err.ensures)

pub returns-in-Err-clause-errors : goal.returns-in-Err-clause-errors
returns-in-Err-clause-errors g c =
    let left = g.R.Source.left in
    let failed = g.R.Source.failed in
    rw c.stop_fault.ensures (counts_stop c.lines.reader c.advance.new.self (left c.lines.input) (left c.advance.new.input) (failed c.lines.input) (failed c.advance.new.input) c.next_number.result
    c.in-Err.stop c.lines.invariant.goes_on c.in-Err.ensures ∙ ap (counted_by (stop_fault c.next_number.result c.in-Err.stop).cause) c.lines.invariant.errors)

pub returns-then-finished-clause-read : goal.returns-then-finished-clause-read
returns-then-finished-clause-read g c =
    let left = g.R.Source.left in
    let failed = g.R.Source.failed in
    let gives = gives_line c.lines.reader c.advance.new.self (left c.lines.input) (left c.advance.new.input) (failed c.lines.input) (failed c.advance.new.input) c.in-Ok-true.field-0
    c.in-Ok-true.field-0-test c.in-Ok-true.ensures in
    let taken : loaded_line c.lines.loader c.advance.new.self.line ≡ Ok c.line-in-Ok-true.new.self =
    subst (λ line. loaded_line c.lines.loader line ≡ Ok c.line-in-Ok-true.new.self) c.line.ensures c.in_ok-line-in-Ok-true.ensures.ok in
    let way = goes_on (left c.args.input.now) c.lines.reader (left c.lines.input) c.lines.loader c.lines.invariant.way c.lines.invariant.going c.advance.new.self (left c.advance.new.input)
    (failed c.lines.input) (failed c.advance.new.input) c.line-in-Ok-true.new.self gives taken in
    ended_reads (left c.args.input.now) c.advance.new.self (left c.advance.new.input) c.line-in-Ok-true.new.self way (sym c.finished.ensures ∙ c.if-finished.true)

pub returns-then-finished-clause-faultless : goal.returns-then-finished-clause-faultless
returns-then-finished-clause-faultless g c =
    let left = g.R.Source.left in
    let failed = g.R.Source.failed in
    let gives = gives_line c.lines.reader c.advance.new.self (left c.lines.input) (left c.advance.new.input) (failed c.lines.input) (failed c.advance.new.input) c.in-Ok-true.field-0
    c.in-Ok-true.field-0-test c.in-Ok-true.ensures in
    let taken : loaded_line c.lines.loader c.advance.new.self.line ≡ Ok c.line-in-Ok-true.new.self =
    subst (λ line. loaded_line c.lines.loader line ≡ Ok c.line-in-Ok-true.new.self) c.line.ensures c.in_ok-line-in-Ok-true.ensures.ok in
    (goes_on (left c.args.input.now) c.lines.reader (left c.lines.input) c.lines.loader c.lines.invariant.way c.lines.invariant.going c.advance.new.self (left c.advance.new.input)
    (failed c.lines.input) (failed c.advance.new.input) c.line-in-Ok-true.new.self gives taken).stands.faultless

pub returns-then-finished-clause-errors : goal.returns-then-finished-clause-errors
returns-then-finished-clause-errors g c =
    let left = g.R.Source.left in
    let failed = g.R.Source.failed in
    let gives = gives_line c.lines.reader c.advance.new.self (left c.lines.input) (left c.advance.new.input) (failed c.lines.input) (failed c.advance.new.input) c.in-Ok-true.field-0
    c.in-Ok-true.field-0-test c.in-Ok-true.ensures in
    gives.count ∙ c.lines.invariant.errors

pub lines-smaller : goal.lines-smaller
lines-smaller g c =
    let left = g.R.Source.left in
    let failed = g.R.Source.failed in
    let taken : loaded_line c.lines.loader c.advance.new.self.line ≡ Ok c.line-in-Ok-true.new.self =
    subst (λ line. loaded_line c.lines.loader line ≡ Ok c.line-in-Ok-true.new.self) c.line.ensures c.in_ok-line-in-Ok-true.ensures.ok in
    let one = counts (left c.args.input.now) c.lines.reader (left c.lines.input) c.lines.loader c.lines.invariant.way c.lines.invariant.going c.advance.new.self (left c.advance.new.input)
    (failed c.lines.input) (failed c.advance.new.input) c.advance.new.self.line c.line-in-Ok-true.new.self taken (sym c.finished.ensures ∙ c.if-finished.false) in
    omega (arith, one.0, one.1)

pub lines-preserved : goal.lines-preserved
lines-preserved g c =
    let left = g.R.Source.left in
    let failed = g.R.Source.failed in
    let gives = gives_line c.lines.reader c.advance.new.self (left c.lines.input) (left c.advance.new.input) (failed c.lines.input) (failed c.advance.new.input) c.in-Ok-true.field-0
    c.in-Ok-true.field-0-test c.in-Ok-true.ensures in
    let taken : loaded_line c.lines.loader c.advance.new.self.line ≡ Ok c.line-in-Ok-true.new.self =
    subst (λ line. loaded_line c.lines.loader line ≡ Ok c.line-in-Ok-true.new.self) c.line.ensures c.in_ok-line-in-Ok-true.ensures.ok in
    record {
      way = goes_on (left c.args.input.now) c.lines.reader (left c.lines.input) c.lines.loader c.lines.invariant.way c.lines.invariant.going c.advance.new.self (left c.advance.new.input)
          (failed c.lines.input) (failed c.advance.new.input) c.line-in-Ok-true.new.self gives taken;
      going = sym c.finished.ensures ∙ c.if-finished.false;
      errors = gives.count ∙ c.lines.invariant.errors;
      goes_on = gives.stop;
    }
