-- Each way out of the reading is what the text says.
use Rattle.std.proofs.Common.{◌≡◌, ◌+◌, ℕ, List, length, refl, sym, subst, ap, ◌∙◌, arith}
use Rattle.std.proofs.lemmas.List.Elements.{All-nil}
use Rattle.coll_devices.specs.LineReading.{ReaderState, no_line}
use Rattle.coll_nodes.specs.TableLayout.{collation}
use Rattle.coll_table.proofs.TextLoading.{gives_line, gives_none}
use Rattle.coll_word_lists.specs.KeyedWords.{KeyedWord, AreKeyedBy, texts_of}
use Rattle.coll_word_lists.specs.WordReading.{word_key}
use Rattle.coll_word_lists.proofs.TextWords.{OnWay, sets_out, keyed_more, one_longer, word_on, word_refused, word_stopped, words_read}
use Rattle.coll_word_lists.proofs.reading.read_lines.Goals as goal

pub lines-init : goal.lines-init
lines-init g c =
    let left = g.R.Source.left c.args.input.now in
    let keys = word_key (collation c.args.table.now) in
    record {
      way = subst (λ (r : ReaderState). OnWay left r left (texts_of c.args.words.now.items)) (sym c.requires.reader)
          (subst (λ (words : List KeyedWord). OnWay left no_line left (texts_of words)) (sym c.requires.none) (sets_out left));
      keyed = subst (AreKeyedBy keys) (sym c.requires.none) (All-nil (λ (word : KeyedWord). word.key ≡ keys word.text));
      few = omega (arith, ap length c.requires.none);
      errors = refl;
      goes_on = ap (λ (r : ReaderState). r.stop) c.requires.reader;
    }

pub returns-in-Err-take_line-clause-fault : goal.returns-in-Err-take_line-clause-fault
returns-in-Err-take_line-clause-fault g c =
    let left = g.R.Source.left in
    let failed = g.R.Source.failed in
    let gives = gives_line c.lines.reader c.advance.new.self (left c.lines.input) (left c.advance.new.input) (failed c.lines.input) (failed c.advance.new.input) c.in-Ok-true.field-0
    c.in-Ok-true.field-0-test c.in-Ok-true.ensures in
    word_refused (word_key (collation c.args.table.now)) c.lines.words.items (left c.args.input.now) c.lines.reader c.advance.new.self (left c.lines.input) (left c.advance.new.input) (failed c.lines.input)
    (failed c.advance.new.input) c.lines.invariant.way c.line.result.now c.in-Err-take_line.ended gives c.line.ensures c.in-Err-take_line.ensures.err c.in-Err-take_line.ensures.number

pub returns-in-Ok-false-clause-words : goal.returns-in-Ok-false-clause-words
returns-in-Ok-false-clause-words g c =
    let left = g.R.Source.left in
    let failed = g.R.Source.failed in
    let none = gives_none c.lines.reader c.advance.new.self (left c.lines.input) (left c.advance.new.input) (failed c.lines.input) (failed c.advance.new.input) c.in-Ok-false.field-0
    c.in-Ok-false.field-0-test c.in-Ok-false.ensures in
    words_read (word_key (collation c.args.table.now)) c.lines.words.items (left c.args.input.now) c.lines.reader c.advance.new.self (left c.lines.input) (left c.advance.new.input) (failed c.lines.input)
    (failed c.advance.new.input) c.lines.invariant.way none

pub returns-in-Err-clause-fault : goal.returns-in-Err-clause-fault
returns-in-Err-clause-fault g c =
    let left = g.R.Source.left in
    let failed = g.R.Source.failed in
    rw c.stop_fault.ensures
    (word_stopped (word_key (collation c.args.table.now)) c.lines.words.items (left c.args.input.now) c.lines.reader c.advance.new.self (left c.lines.input) (left c.advance.new.input) (failed c.lines.input)
    (failed c.advance.new.input) c.lines.invariant.way c.next_number.result c.in-Err.stop
    (c.next_number.ensures ∙ ap (λ (n : ℕ). n + 1) (c.len.ensures ∙ c.lines.words.ok.0)) c.lines.invariant.goes_on c.in-Err.ensures)

pub lines-preserved : goal.lines-preserved
lines-preserved g c =
    let left = g.R.Source.left in
    let failed = g.R.Source.failed in
    let gives = gives_line c.lines.reader c.advance.new.self (left c.lines.input) (left c.advance.new.input) (failed c.lines.input) (failed c.advance.new.input) c.in-Ok-true.field-0
    c.in-Ok-true.field-0-test c.in-Ok-true.ensures in
    let takes = c.in_default.ensures.ok in
    record {
      way = word_on (word_key (collation c.args.table.now)) c.lines.words.items c.take_line.new.words.items c.line.result.now takes (left c.args.input.now) c.lines.reader c.advance.new.self (left c.lines.input)
          (left c.advance.new.input) (failed c.lines.input) (failed c.advance.new.input) c.lines.invariant.way gives c.line.ensures;
      keyed = keyed_more (word_key (collation c.args.table.now)) c.lines.words.items c.take_line.new.words.items c.line.result.now takes c.lines.invariant.keyed;
      few = c.in_default.ensures.room;
      errors = gives.count ∙ c.lines.invariant.errors;
      goes_on = gives.stop;
    }

pub lines-smaller : goal.lines-smaller
lines-smaller g c =
    let longer = one_longer (word_key (collation c.args.table.now)) c.lines.words.items c.take_line.new.words.items c.line.result.now c.in_default.ensures.ok in
    omega (arith, longer, c.in_default.ensures.room)
