use Rattle.std.proofs.Common.{◌<◌, ◌∙◌, sym, arith}
use Rattle.std.proofs.lemmas.Result.{err_from_is_err_and}
use Rattle.coll_lex.proofs.RunLemmas.{symbol_taken, symbol_at_fault, symbol_starved, symbol_shortens, plain_is_graphic, given_state, run_part, run_more, word_starved}
use Rattle.coll_lex.proofs.GatherLemmas.{where_refused}
use Rattle.coll_lex.proofs.scanning.Scan.take_part_outside.Goals as goal

pub take_symbol-requires : goal.take_symbol-requires
take_symbol-requires c = record { some = c.in-Some.ensures.some; graphic = plain_is_graphic c.args.special.escape c.in-Some.name.now c.in-Some.ensures.plain }

pub returns-in_err-take_symbol-clause-err : goal.returns-in_err-take_symbol-clause-err
returns-in_err-take_symbol-clause-err c =
    let p = err_from_is_err_and c.from_residual.result c.from_residual.ensures.1 in
    rw (p.1, p.2)
    (λ no. symbol_at_fault c.args.special c.args.self.now c.args.text.now c.in-Some.name.now c.in-Some.rest.now c.in_err-take_symbol.field-0.0 c.requires.outside c.requires.unescaped c.in-Some.ensures
    (c.in_err-take_symbol.ensures.err no))

pub returns-in_err-take_symbol-clause-memory : goal.returns-in_err-take_symbol-clause-memory
returns-in_err-take_symbol-clause-memory c =
    where_refused _ _ (symbol_starved c.args.special c.args.self.now c.args.text.now c.in-Some.name.now c.in-Some.rest.now c.requires.outside c.requires.unescaped c.in-Some.ensures)

pub take_separator-requires : goal.take_separator-requires
take_separator-requires c =
    let state = given_state c.args.self.now c.take_symbol.new.self _ c.in_ok-take_symbol.ensures.ok in
    let begins = rw c.as_bytes.ensures.value at c.if-not-begins_with_separator.ensures in
    record { separator = sym begins; outside = state.0 ∙ c.requires.outside; unescaped = state.1 ∙ c.requires.unescaped; no_word = state.2 }

pub returns-then-not-begins_with_separator-clause-ok : goal.returns-then-not-begins_with_separator-clause-ok
returns-then-not-begins_with_separator-clause-ok c =
    run_part c.args.special c.args.self.now c.take_symbol.new.self c.args.text.now c.in-Some.rest.now
    (symbol_taken c.args.special c.args.self.now c.take_symbol.new.self c.args.text.now c.in-Some.name.now c.in-Some.rest.now c.requires.outside c.requires.unescaped c.in-Some.ensures
    c.in_ok-take_symbol.ensures.ok)

pub returns-then-not-begins_with_separator-clause-shorter : goal.returns-then-not-begins_with_separator-clause-shorter
returns-then-not-begins_with_separator-clause-shorter c = symbol_shortens c.args.special.escape c.args.text.now c.in-Some.name.now c.in-Some.rest.now c.in-Some.ensures

pub returns-in_err-rest-clause-memory : goal.returns-in_err-rest-clause-memory
returns-in_err-rest-clause-memory c =
    where_refused _ _ (symbol_starved c.args.special c.args.self.now c.args.text.now c.in-Some.name.now c.in-Some.rest.now c.requires.outside c.requires.unescaped c.in-Some.ensures)

pub returns-in-Some-clause-ok : goal.returns-in-Some-clause-ok
returns-in-Some-clause-ok c =
    run_part c.args.special c.args.self.now c.take_separator.new.self c.args.text.now c.in_ok-rest.rest.now
    (run_more c.args.special c.args.self.now c.take_symbol.new.self c.take_separator.new.self c.args.text.now c.in-Some.rest.now c.in_ok-rest.rest.now
    (symbol_taken c.args.special c.args.self.now c.take_symbol.new.self c.args.text.now c.in-Some.name.now c.in-Some.rest.now c.requires.outside c.requires.unescaped c.in-Some.ensures
    c.in_ok-take_symbol.ensures.ok) c.in_ok-rest.ensures.ok)

pub returns-in-Some-clause-shorter : goal.returns-in-Some-clause-shorter
returns-in-Some-clause-shorter c =
    let shorter = symbol_shortens c.args.special.escape c.args.text.now c.in-Some.name.now c.in-Some.rest.now c.in-Some.ensures in
    omega (arith, shorter, c.in_ok-rest.ensures.shorter)

pub returns-clause-memory : goal.returns-clause-memory
returns-clause-memory c =
    let plain = rw c.as_bytes-2.ensures.value at c.word_length-length.ensures.plain in
    let some : 0 < c.word_length-length.result = omega arith in
    where_refused _ _ (word_starved c.args.special c.args.self.now c.args.text.now c.word_length-length.result c.requires.outside c.requires.unescaped plain some c.requires.some)
