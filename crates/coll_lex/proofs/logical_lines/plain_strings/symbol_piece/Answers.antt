use Rattle.std.proofs.Common.{chars, sym, ◌∙◌}
use Rattle.coll_lex.proofs.RunLemmas.{graphic_is_name, graphic_some}
use Rattle.coll_lex.proofs.SymbolLemmas.{character_given, name_given, symbol_of_code, symbol_of_name}
use Rattle.coll_lex.proofs.logical_lines.plain_strings.symbol_piece.Goals as goal

pub returns-in-Some : goal.returns-in-Some
returns-in-Some c = symbol_of_code (chars c.args.name.now) c.in-Some.number c.in-Some.ensures ∙ sym (character_given c.in-Some.number c.in_ok-c.c c.in_ok-c.ensures.value)

pub returns : goal.returns
returns c =
    let bytes = c.args.name.now in
    symbol_of_name (chars bytes) (graphic_some bytes c.requires.graphic c.requires.some) c.in_default.ensures
    ∙ sym (name_given (chars bytes) (graphic_is_name bytes c.requires.graphic c.if-name-gt-MOST_NAME_CHARS.false))
