use Rattle.coll_lex.specs.PlainStrings.{piece_in}
use Rattle.coll_lex.proofs.PlainStringLemmas.{next_piece}
use Rattle.coll_lex.proofs.RunLemmas.{plain_is_graphic}
use Rattle.coll_lex.proofs.logical_lines.Lexer.plain_piece.Goals as goal

pub symbol_piece-requires-clause-graphic : goal.symbol_piece-requires-clause-graphic
symbol_piece-requires-clause-graphic c = plain_is_graphic c.self.inside.special.escape c.in_ok-name.name.now c.in_ok-name.ensures.plain

pub returns : goal.returns
returns c =
    rw (← c.self.view_is)
    (next_piece c.self.inside.special c.self.inside.alloc c.args.text.now c.in_ok-name.name.now c.in_ok-name.rest.now (piece_in c.in_ok-piece.piece) c.in_ok-name.ensures c.in_ok-piece.ensures)
