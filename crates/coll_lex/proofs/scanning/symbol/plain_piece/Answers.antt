use Rattle.std.proofs.Common.{chars, sym, ◌∙◌}
use Rattle.coll_lex.proofs.SymbolLemmas.{symbol_of_code, symbol_of_name, character_refused, character_given, name_refused, name_given}
use Rattle.coll_lex.proofs.RunLemmas.{graphic_some, graphic_is_name, graphic_too_long}
use Rattle.coll_lex.proofs.scanning.symbol.plain_piece.Goals as goal

pub returns-in_default-from_u32-clause-err : goal.returns-in_default-from_u32-clause-err
returns-in_default-from_u32-clause-err c = λ no.
    symbol_of_code (chars c.args.name.now) c.in-Some.number c.in-Some.ensures ∙ sym (character_refused c.in-Some.number c.in_default-from_u32.ensures.value)

pub returns-in-Some-clause-ok : goal.returns-in-Some-clause-ok
returns-in-Some-clause-ok c =
    symbol_of_code (chars c.args.name.now) c.in-Some.number c.in-Some.ensures ∙ sym (character_given c.in-Some.number c.in-Some-from_u32.c c.in-Some-from_u32.ensures.value)

pub returns-then-name-gt-MOST_NAME_CHARS-clause-err : goal.returns-then-name-gt-MOST_NAME_CHARS-clause-err
returns-then-name-gt-MOST_NAME_CHARS-clause-err c = λ no.
    let some = graphic_some c.args.name.now c.requires.graphic c.requires.some in
    symbol_of_name (chars c.args.name.now) some c.in_default.ensures ∙ sym (name_refused (chars c.args.name.now) (graphic_too_long c.args.name.now c.requires.graphic c.if-name-gt-MOST_NAME_CHARS.true))

pub returns-clause-ok : goal.returns-clause-ok
returns-clause-ok c =
    let some = graphic_some c.args.name.now c.requires.graphic c.requires.some in
    rw c.in_ok-name.ensures (symbol_of_name (chars c.args.name.now) some c.in_default.ensures ∙ sym (name_given (chars c.args.name.now) (graphic_is_name c.args.name.now c.requires.graphic c.if-name-gt-MOST_NAME_CHARS.false)))
