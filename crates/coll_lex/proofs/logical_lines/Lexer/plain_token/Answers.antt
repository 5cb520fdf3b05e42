use Rattle.std.proofs.Common.{sym}
use Rattle.coll_lex.specs.PlainTexts.{token_in}
use Rattle.coll_lex.specs.PlainStrings.{piece_in}
use Rattle.coll_lex.proofs.PlainTextLemmas.{next_semicolon, next_symbol, next_word}
use Rattle.coll_lex.proofs.RunLemmas.{plain_is_graphic, separator_cut}
use Rattle.coll_lex.proofs.logical_lines.Lexer.plain_token.Goals as goal

pub symbol_piece-requires-clause-graphic : goal.symbol_piece-requires-clause-graphic
symbol_piece-requires-clause-graphic c = plain_is_graphic c.self.inside.special.escape c.in-Some.name.now c.in-Some.ensures.plain

pub returns-in-Some : goal.returns-in-Some
returns-in-Some c =
    rw (← c.self.view_is)
    (next_symbol c.self.inside.special c.self.inside.alloc c.args.text.now c.in-Some.name.now c.in-Some.rest.now (piece_in c.in_ok-piece.piece) (token_in c.token_of.result) c.in-Some.ensures c.in_ok-piece.ensures c.token_of.ensures)

pub returns-then-not-begins_with_separator : goal.returns-then-not-begins_with_separator
returns-then-not-begins_with_separator c =
    rw (← c.self.view_is) (next_word c.self.inside.special c.self.inside.alloc c.args.text.now c.in_ok-word.word.now c.in_ok-word.rest.now c.in_ok-word.ensures)

pub range_from-requires : goal.range_from-requires
range_from-requires c =
    let begins = rw c.as_bytes.ensures.value at c.if-not-begins_with_separator.ensures in
    λ _. separator_cut c.self.inside.special c.args.text.now c.utf8.text (sym begins)

pub returns : goal.returns
returns c =
    let begins = rw c.as_bytes.ensures.value at c.if-not-begins_with_separator.ensures in
    let is = rw c.as_bytes-2.ensures.value at c.if-as_bytes-ne59.false in
    rw (← c.self.view_is) (next_semicolon c.self.inside.special c.self.inside.alloc c.args.text.now c.range_from.result.now (sym begins) is c.range_from.ensures.value)
