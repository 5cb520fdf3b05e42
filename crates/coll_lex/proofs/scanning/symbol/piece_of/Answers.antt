use Rattle.std.proofs.Common.{chars, sym, ◌∙◌}
use Rattle.coll_lex.proofs.TextLemmas.{none_chars}
use Rattle.coll_lex.proofs.SymbolLemmas.{symbol_of_code, symbol_of_name, symbol_of_nothing, character_refused, character_given, name_refused, name_given}
use Rattle.coll_lex.proofs.scanning.symbol.piece_of.Goals as goal

pub returns-then-is_empty-clause-err : goal.returns-then-is_empty-clause-err
returns-then-is_empty-clause-err c = λ no.
    symbol_of_nothing (chars c.args.name.now) (sym (none_chars c.args.name.now c.utf8.name) ∙ sym c.if-is_empty.ensures)

pub returns-in_default-from_u32-clause-err : goal.returns-in_default-from_u32-clause-err
returns-in_default-from_u32-clause-err c = λ no.
    symbol_of_code (chars c.args.name.now) c.in-Some.number c.in-Some.ensures ∙ sym (character_refused c.in-Some.number c.in_default-from_u32.ensures.value)

pub returns-in-Some-clause-ok : goal.returns-in-Some-clause-ok
returns-in-Some-clause-ok c =
    symbol_of_code (chars c.args.name.now) c.in-Some.number c.in-Some.ensures ∙ sym (character_given c.in-Some.number c.in-Some-from_u32.c c.in-Some-from_u32.ensures.value)

pub returns-then-not-has_name_chars-clause-err : goal.returns-then-not-has_name_chars-clause-err
returns-then-not-has_name_chars-clause-err c = λ no.
    let some = sym (none_chars c.args.name.now c.utf8.name) ∙ sym c.if-is_empty.ensures in
    symbol_of_name (chars c.args.name.now) some c.in_default.ensures ∙ sym (name_refused (chars c.args.name.now) (sym c.if-not-has_name_chars.ensures))

pub returns-clause-ok : goal.returns-clause-ok
returns-clause-ok c =
    let some = sym (none_chars c.args.name.now c.utf8.name) ∙ sym c.if-is_empty.ensures in
    rw c.in_ok-name.ensures (symbol_of_name (chars c.args.name.now) some c.in_default.ensures ∙ sym (name_given (chars c.args.name.now) (sym c.if-not-has_name_chars.ensures)))
