-- Strings of a line whose pieces are read where they stand.
use Rattle.std.specs.Prelude.{◌≡◌, ◌<◌, ℕ, false, List, [], ◌∷◌, ◌++◌, zero, length, chars}
use Rattle.coll_lex.specs.Marked.{marks, is_joined}
use Rattle.coll_lex.specs.PlainTexts.{plain_reading}
use Rattle.coll_lex.specs.Scanning.{string_left}
use Rattle.coll_lex.specs.Tokens.{Reading, atoms, with_token}
use Rattle.coll_lex.specs.declared.logical_lines.plain_strings.PlainPiece.{PlainPiece}
use Rattle.coll_lex.specs.declared.logical_lines.plain_strings.PlainPiece.TheVariants as plain
use Rattle.coll_lex.specs.declared.tokens.Chars.{Chars}
use Rattle.coll_lex.specs.declared.tokens.Piece.{Piece}
use Rattle.coll_lex.specs.declared.tokens.Piece.TheVariants as piece
use Rattle.coll_lex.specs.declared.tokens.Token.TheVariants as token

-- the reading of a text that stands in a string, whose pieces before it are these
abbrev pub string_reading : Chars → List Piece → List ℕ → Reading
string_reading special pieces text = string_left special.comment pieces (atoms zero (marks special.escape false (chars text)))

-- the piece that is lent
abbrev pub piece_in : PlainPiece → Piece
piece_in (plain.Name name) = piece.Name (chars name.now)
piece_in (plain.Char c) = piece.Char c

-- a text begins with a string, whose inside follows
pub record BeginsString (special : Chars) (text inside : List ℕ) : Type 0 where
  pub reads : plain_reading special text ≡ string_reading special [] inside
  pub ends : is_joined special.escape (chars text) ≡ is_joined special.escape (chars inside)
  pub shorter : length inside < length text

-- the inside of a string goes on with this piece, and the rest follows
pub record IsNextPiece (special : Chars) (text : List ℕ) (p : Piece) (rest : List ℕ) : Type 0 where
  pub reads : (before : List Piece) → string_reading special before text ≡ string_reading special (before ++ p ∷ []) rest
  pub ends : is_joined special.escape (chars text) ≡ is_joined special.escape (chars rest)
  pub shorter : length rest < length text

-- a string ends here, and the rest follows
pub record EndsString (special : Chars) (text rest : List ℕ) : Type 0 where
  pub reads : (pieces : List Piece) → string_reading special pieces text ≡ with_token (token.Text pieces) (plain_reading special rest)
  pub ends : is_joined special.escape (chars text) ≡ is_joined special.escape (chars rest)
  pub shorter : length rest < length text
