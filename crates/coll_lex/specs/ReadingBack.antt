-- That the spellings are read back, whatever follows them, under the escape character `/`.
--
-- They are under each comment character, so under `%` too: a symbol is taken off before a comment is looked for.
use Rattle.std.specs.Prelude.{◌≡◌, ℕ, zero, true, false, List, Ok}
use lib.Utf8.{scalar}
use Rattle.coll_lex.specs.declared.tokens.Token.TheVariants as token
use Rattle.coll_lex.specs.declared.tokens.Piece.TheVariants as piece
use Rattle.coll_lex.specs.Characters.{slash}
use Rattle.coll_lex.specs.Marked.{marks}
use Rattle.coll_lex.specs.Tokens.{symbol_of, atoms, reading_of, with_token, quoted, with_piece}
use Rattle.coll_lex.specs.Spelling.{spelled_symbol, spelled_code}

-- the escape character under which spellings are read back
abbrev pub spelling_escape : ℕ
spelling_escape = slash

-- outside strings, a name that is spelled is read as a symbol, and what follows it is read as it was
abbrev pub NamesReadBack : Type 0
NamesReadBack = (comment : ℕ) (name rest : List ℕ) → symbol_of name ≡ Ok (piece.Name name)
    → reading_of comment (marks spelling_escape false (spelled_symbol name rest))
    ≡ with_token (token.Symbol name) (reading_of comment (marks spelling_escape false rest))

-- in a string, a name that is spelled is read as that piece
abbrev pub NamesReadBackQuoted : Type 0
NamesReadBackQuoted = (name rest : List ℕ) → symbol_of name ≡ Ok (piece.Name name)
    → quoted (atoms zero (marks spelling_escape false (spelled_symbol name rest)))
    ≡ with_piece (piece.Name name) (quoted (atoms zero (marks spelling_escape false rest)))

-- outside strings, a character that is spelled by its code point is read as that character
abbrev pub CodesReadBack : Type 0
CodesReadBack = (comment c : ℕ) (rest : List ℕ) → scalar c ≡ true
    → reading_of comment (marks spelling_escape false (spelled_code c rest))
    ≡ with_token (token.Char c) (reading_of comment (marks spelling_escape false rest))

-- in a string, a character that is spelled by its code point is read as that piece
abbrev pub CodesReadBackQuoted : Type 0
CodesReadBackQuoted = (c : ℕ) (rest : List ℕ) → scalar c ≡ true
    → quoted (atoms zero (marks spelling_escape false (spelled_code c rest)))
    ≡ with_piece (piece.Char c) (quoted (atoms zero (marks spelling_escape false rest)))
