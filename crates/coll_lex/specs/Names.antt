-- What a name is, and what is true of the tokens of every logical line: they are made of characters, names are names, and
-- no word is empty.
use Rattle.std.specs.Prelude.{◌≡◌, ℕ, ◌<◌, ◌&&◌, Bool, true, false, IsTrue, IsUtf8, List, length, All, Option, Some, Result, Ok, Err}
use Rattle.std.specs.Char.{IsScalar}
use Rattle.std.specs.Str.{all_scalars}
use Rattle.coll_lex.specs.Tokens.{symbol_of}
use Rattle.coll_lex.specs.LogicalLines.{LexerState, first_state, lines_before, dropped, fed, outside}
use Rattle.coll_lex.specs.declared.tokens.Line.{Line}
use Rattle.coll_lex.specs.declared.tokens.Token.{Token}
use Rattle.coll_lex.specs.declared.tokens.Token.TheVariants as token
use Rattle.coll_lex.specs.declared.tokens.Piece.{Piece}
use Rattle.coll_lex.specs.declared.tokens.Piece.TheVariants as piece
use Rattle.coll_lex.specs.declared.faults.LexFault.{LexFault}

-- each of these numbers is a character, that is a Unicode scalar value
abbrev pub AreCharacters : List ℕ → Type 0
AreCharacters cs = IsTrue (all_scalars cs)

-- a name: characters that a symbol takes for a name; it takes none for one that spells a code point, be that a
-- character's or not
abbrev pub IsName : List ℕ → Type 0
IsName name = (symbol_of name ≡ Ok (piece.Name name)) × AreCharacters name

-- a name was found between the brackets of a symbol
abbrev pub gives_name : Result Piece LexFault → Bool
gives_name (Ok (piece.Name name)) = true
gives_name (Ok (piece.Char c)) = false
gives_name (Err fault) = false

-- whether this is a name
abbrev pub is_proper_name : List ℕ → Bool
is_proper_name name = gives_name (symbol_of name) && all_scalars name

-- a piece of a string is a character or a name
abbrev pub IsPiece : Piece → Type 0
IsPiece (piece.Char c) = IsScalar c
IsPiece (piece.Name name) = IsName name

-- a word is made of characters and has one; a symbol is a name, or a character by its code point; a string has pieces
abbrev pub IsToken : Token → Type 0
IsToken (token.Word word) = (0 < length word) × AreCharacters word
IsToken (token.Symbol name) = IsName name
IsToken (token.Char c) = IsScalar c
IsToken (token.Text pieces) = All IsPiece pieces
IsToken token.Semicolon = Unit {0}
IsToken token.Comma = Unit {0}

-- the tokens of a logical line: there is one, and each is as the lexer makes it
pub record AreTokens (tokens : List Token) : Type 0 where
  pub some : 0 < length tokens
  pub each : All IsToken tokens

-- the logical line that is open, if one is, is text: each of its physical lines is UTF-8
abbrev pub HoldsText : LexerState → Type 0
HoldsText s = All IsUtf8 (lines_before s)

-- whatever line is handed in wherever a lexer stands, if its open line is text, the logical line that is given has tokens
-- as they are made
abbrev pub LinesHaveTokens : Type 0
LinesHaveTokens = (s after : LexerState) (line : List ℕ) (given : Line) → HoldsText s → fed s line ≡ Ok (Some given, after)
    → AreTokens given.tokens

-- the open line of a lexer is always text: at the beginning of a text, after each line that is handed in, in the category
-- if it was before, and after a fault
pub record LexersHoldText : Type 0 where
  pub at_first : HoldsText first_state
  pub after_line : (s after : LexerState) (line : List ℕ) (answer : Option Line) → HoldsText s → fed s line ≡ Ok (answer, after)
      → HoldsText after
  pub after_outside : (s after : LexerState) (line : List ℕ) (begins : Bool) → outside s line ≡ Ok (begins, after) → HoldsText after
  pub after_fault : (s : LexerState) → HoldsText (dropped s)
