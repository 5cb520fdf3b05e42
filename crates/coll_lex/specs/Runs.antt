-- Runs of bytes that a scan takes at once: all of them are ASCII, so each is a character, and none has a meaning of its own there.
use Rattle.std.specs.Prelude.{◌≡◌, ◌≢◌, ◌<◌, ℕ, length, Bool, true, false, if◌then◌else◌, ◌==◌, ◌&&◌, ◌||◌, not, nat_lt, nat_le, List, [], ◌∷◌, ◌++◌, chars, Result, Ok, Err}
use Rattle.std.specs.List.{list_all}
use Rattle.coll_lex.specs.Characters.{space, quotation_mark, comma, hyphen, semicolon, less_than, greater_than}
use Rattle.coll_lex.specs.Blanks.{is_blank}
use Rattle.coll_lex.specs.Marked.{Mark, marks, ends_escaped}
use Rattle.coll_lex.specs.Tokens.{token_of}
use Rattle.coll_lex.specs.Scanning.{reading_left, word_token}
use Rattle.coll_lex.specs.declared.tokens.Chars.{Chars}
use Rattle.coll_lex.specs.declared.tokens.Piece.{Piece}
use Rattle.coll_lex.specs.declared.faults.LexFault.{LexFault}
use Rattle.coll_lex.specs.declared.scanning.Scan.{Scan}
use Rattle.coll_lex.specs.declared.scanning.Mode.TheVariants as mode

-- a byte of ASCII that is no blank and no control character
abbrev pub is_graphic : ℕ → Bool
is_graphic b = nat_lt space b && nat_lt b 127

-- a byte of a symbol that stands for itself, and that a name may have
abbrev pub is_name_byte : (escape : ℕ) → ℕ → Bool
is_name_byte escape b = is_graphic b && not (b == greater_than) && not (b == escape)

-- a letter of ASCII outside symbols and strings, unless it is the comment or the escape character
abbrev pub is_letter : ℕ → Bool
is_letter b = if nat_lt less_than b then nat_lt b 128
    else (nat_lt space b && nat_lt b semicolon && not (b == quotation_mark) && not (b == comma))

-- a byte outside symbols and strings that stands for itself, and doesn't end a word
abbrev pub is_word_byte : Chars → ℕ → Bool
is_word_byte special b = is_letter b && not (b == special.escape) && not (b == special.comment)

-- a blank, a semicolon or a comma that isn't the escape character
abbrev pub is_separator : (escape : ℕ) → ℕ → Bool
is_separator escape b = (is_blank b || (b == semicolon) || (b == comma)) && not (b == escape)

-- the text begins with such a one, which ends a word
abbrev pub begins_with_separator : (escape : ℕ) → List ℕ → Bool
begins_with_separator escape [] = false
begins_with_separator escape (b ∷ bs) = is_separator escape b

-- a blank that isn't the escape character
abbrev pub is_blank_byte : (escape : ℕ) → ℕ → Bool
is_blank_byte escape b = is_blank b && not (b == escape)

-- a byte of ASCII that is the comment character, and none of those that are looked for before it
abbrev pub begins_comment : Chars → ℕ → Bool
begins_comment special b = (b == special.comment) && not (b == special.escape) && is_graphic b && not (b == less_than) && not (b == semicolon) && not (b == comma)

-- a letter of ASCII or a hyphen, of which keywords are made
abbrev pub is_keyword_byte : ℕ → Bool
is_keyword_byte b = (nat_le 97 b && nat_le b 122) || (nat_le 65 b && nat_le b 90) || (b == hyphen)

-- a part that leaves the escapes at the end of the line as they are
pub record TakesRun (special : Chars) (old : Scan) (text : List ℕ) (new : Scan) (rest : List ℕ) : Type 0 where
  pub reads : (ms : List Mark) → reading_left special.comment old (marks special.escape old.escaped (chars text) ++ ms)
      ≡ reading_left special.comment new (marks special.escape new.escaped (chars rest) ++ ms)
  pub ends : ends_escaped special.escape old.escaped (chars text) ≡ ends_escaped special.escape new.escaped (chars rest)

-- a text begins with a symbol that has a name with no escape in it, and the rest follows
pub record BeginsWithSymbol (escape : ℕ) (text name rest : List ℕ) : Type 0 where
  pub is : text ≡ less_than ∷ (name ++ greater_than ∷ rest)
  pub some : 0 < length name
  pub plain : list_all (is_name_byte escape) name ≡ true
  pub no_opening : less_than ≢ escape
  pub no_closing : greater_than ≢ escape

-- the scan with the token of a symbol put behind the word so far
abbrev pub GivesSymbol : Scan → Result Piece LexFault → Scan → Type 0
GivesSymbol old (Ok p) new = new ≡ record old { partial = []; tokens = (old.tokens ++ word_token old.partial) ++ token_of p ∷ [] }
GivesSymbol old (Err fault) new = ⊥

-- the scan with the piece of a symbol put behind those of the string so far
abbrev pub GivesPiece : Scan → Result Piece LexFault → Scan → Type 0
GivesPiece old (Ok p) new = new ≡ record old { mode = mode.Text; partial = []; pieces = old.pieces ++ p ∷ [] }
GivesPiece old (Err fault) new = ⊥
