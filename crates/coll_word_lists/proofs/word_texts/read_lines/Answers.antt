-- Each way out of the reading is what the text says.
use Rattle.std.proofs.Common.{ℕ, ◌+◌, List, length, refl, sym, subst, ap, ◌∙◌, arith}
use Rattle.coll_devices.specs.LineReading.{ReaderState, no_line}
use Rattle.coll_table.proofs.TextLoading.{gives_line, gives_none}
use Rattle.coll_word_lists.proofs.TextWords.{OnWay, all_read, sets_out}
use Rattle.coll_word_lists.proofs.WordTextLemmas.{text_longer, text_on, text_refused, text_stopped}
use Rattle.coll_word_lists.proofs.word_texts.read_lines.Goals as goal

pub lines-init : goal.lines-init
lines-init g c =
    let left = g.R.Source.left c.args.input.now in
    record {
      way = subst (λ (r : ReaderState). OnWay left r left (g.L.TakesTexts.texts c.args.texts.now)) (sym c.requires.reader)
          (subst (λ (texts : List (List ℕ)). OnWay left no_line left texts) (sym c.requires.none) (sets_out left));
      few = omega (arith, ap length c.requires.none);
      errors = refl;
      goes_on = ap (λ (r : ReaderState). r.stop) c.requires.reader;
    }

pub returns-in-Err-take_line-clause-fault : goal.returns-in-Err-take_line-clause-fault
returns-in-Err-take_line-clause-fault g c =
    let left = g.R.Source.left in
    let failed = g.R.Source.failed in
    let gives = gives_line c.lines.reader c.advance.new.self (left c.lines.input) (left c.advance.new.input) (failed c.lines.input) (failed c.advance.new.input) c.in-Ok-true.field-0
    c.in-Ok-true.field-0-test c.in-Ok-true.ensures in
    text_refused (g.L.TakesTexts.texts c.lines.texts) (left c.args.input.now) c.lines.reader c.advance.new.self (left c.lines.input) (left c.advance.new.input) (failed c.lines.input)
    (failed c.advance.new.input) c.lines.invariant.way c.line.result.now c.in-Err-take_line.ended gives c.line.ensures c.in-Err-take_line.ensures.err c.in-Err-take_line.ensures.number

pub returns-in-Ok-false-clause-texts : goal.returns-in-Ok-false-clause-texts
returns-in-Ok-false-clause-texts g c =
    let left = g.R.Source.left in
    let failed = g.R.Source.failed in
    let none = gives_none c.lines.reader c.advance.new.self (left c.lines.input) (left c.advance.new.input) (failed c.lines.input) (failed c.advance.new.input) c.in-Ok-false.field-0
    c.in-Ok-false.field-0-test c.in-Ok-false.ensures in
    all_read (left c.args.input.now) c.lines.reader (left c.lines.input) (g.L.TakesTexts.texts c.lines.texts) c.lines.invariant.way c.advance.new.self (left c.advance.new.input) (failed c.lines.input)
    (failed c.advance.new.input) none

pub returns-in-Err-clause-fault : goal.returns-in-Err-clause-fault
returns-in-Err-clause-fault g c =
    let left = g.R.Source.left in
    let failed = g.R.Source.failed in
    rw c.stop_fault.ensures
    (text_stopped (g.L.TakesTexts.texts c.lines.texts) (left c.args.input.now) c.lines.reader c.advance.new.self (left c.lines.input) (left c.advance.new.input) (failed c.lines.input)
    (failed c.advance.new.input) c.lines.invariant.way c.next_number.result c.in-Err.stop
    (c.next_number.ensures ∙ ap (λ (n : ℕ). n + 1) c.count.ensures) c.lines.invariant.goes_on c.in-Err.ensures)

pub lines-preserved : goal.lines-preserved
lines-preserved g c =
    let left = g.R.Source.left in
    let failed = g.R.Source.failed in
    let gives = gives_line c.lines.reader c.advance.new.self (left c.lines.input) (left c.advance.new.input) (failed c.lines.input) (failed c.advance.new.input) c.in-Ok-true.field-0
    c.in-Ok-true.field-0-test c.in-Ok-true.ensures in
    record {
      way = text_on (g.L.TakesTexts.texts c.lines.texts) (g.L.TakesTexts.texts c.take_line.new.texts) c.line.result.now c.in_default.ensures.ok (left c.args.input.now) c.lines.reader c.advance.new.self (left c.lines.input)
          (left c.advance.new.input) (failed c.lines.input) (failed c.advance.new.input) c.lines.invariant.way gives c.line.ensures;
      few = c.in_default.ensures.room;
      errors = gives.count ∙ c.lines.invariant.errors;
      goes_on = gives.stop;
    }

pub lines-smaller : goal.lines-smaller
lines-smaller g c =
    let longer = text_longer (g.L.TakesTexts.texts c.lines.texts) (g.L.TakesTexts.texts c.take_line.new.texts) c.line.result.now c.in_default.ensures.ok in
    omega (arith, longer, c.in_default.ensures.room)
