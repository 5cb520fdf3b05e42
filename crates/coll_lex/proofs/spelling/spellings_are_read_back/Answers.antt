use Rattle.coll_lex.specs.declared.tokens.Piece.TheVariants as piece
use Rattle.coll_lex.proofs.ReadingBackLemmas.{reading-spelled_symbol, quoted-spelled_symbol, reading-spelled_code, quoted-spelled_code}
use Rattle.coll_lex.proofs.spelling.spellings_are_read_back.Goals as goal

pub returns : goal.returns
returns c =
    record {
      names = λ comment name rest is. reading-spelled_symbol comment name rest (piece.Name name) is;
      names_in_strings = λ name rest is. quoted-spelled_symbol name rest (piece.Name name) is;
      codes = reading-spelled_code;
      codes_in_strings = quoted-spelled_code;
    }
