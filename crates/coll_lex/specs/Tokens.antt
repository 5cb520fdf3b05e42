-- The tokens that a marked text spells, and the first fault from the left.
--
-- Symbols are grouped first, alike inside and outside strings; then the text is read as strings, words,
-- separators and a comment. A number tells how many items, already taken, are to be skipped.
use Rattle.std.specs.Prelude.{ℕ, zero, suc, ◌+◌, ◌*◌, Bool, false, if◌then◌else◌, ◌==◌, ◌&&◌, ◌||◌, not, nat_lt}
use Rattle.std.specs.Prelude.{nat_le, List, [], ◌∷◌, length, fold, Option, Some, None, Result, Ok, Err}
use Rattle.std.specs.Char.{digit_value}
use Rattle.std.specs.List.{list_all}
use lib.Utf8.{scalar}
use Rattle.coll_lex.specs.Marked.{Mark, Plain, Literal}
use Rattle.coll_lex.specs.Characters.{space, quotation_mark, less_than, greater_than, capital_u}
use Rattle.coll_lex.specs.Blanks.{is_blank}
use Rattle.coll_lex.specs.Kinds.{Kind, kind_of, ends_word}
use Rattle.coll_lex.specs.Kinds as kind
use Rattle.coll_lex.specs.declared.tokens.Token.{Token}
use Rattle.coll_lex.specs.declared.tokens.Token.TheVariants as token
use Rattle.coll_lex.specs.declared.tokens.Piece.{Piece}
use Rattle.coll_lex.specs.declared.tokens.Piece.TheVariants as piece
use Rattle.coll_lex.specs.Limits.{most_name_chars}
use Rattle.coll_lex.specs.declared.faults.LexFault.{LexFault}
use Rattle.coll_lex.specs.declared.faults.LexFault.TheVariants.{EmptySymbol, BadName, BadCodePoint, CharacterConstant}

-- a control character of ASCII
abbrev pub is_control : ℕ → Bool
is_control c = nat_lt c space || (c == 127)

-- `d`, `x` or a digit 0 to 7: what a character constant has after the escape character
abbrev pub is_constant : ℕ → Bool
is_constant c = (c == 100) || (c == 120) || (nat_le 48 c && nat_le c 55)

-- a hexadecimal digit of either case
abbrev pub is_hex_digit : ℕ → Bool
is_hex_digit c = nat_lt (digit_value c) 16

-- the number that hexadecimal digits spell
abbrev pub hex_number : List ℕ → ℕ
hex_number digits = fold (λ n d. 16 * n + digit_value d) 0 digits

-- four to eight hexadecimal digits
abbrev pub are_digits : List ℕ → Bool
are_digits cs = nat_le 4 (length cs) && nat_le (length cs) 8 && list_all is_hex_digit cs

-- the number that `U` and four to eight hexadecimal digits spell
abbrev pub code_point_of : List ℕ → Option ℕ
code_point_of [] = None
code_point_of (c ∷ cs) = if (c == capital_u) && are_digits cs then Some (hex_number cs) else None

-- the character of a code point
abbrev pub character_of : ℕ → Result Piece LexFault
character_of n = if scalar n then Ok (piece.Char n) else Err BadCodePoint

-- a name has at most 64 characters, none of them blank or control
abbrev pub is_name : List ℕ → Bool
is_name cs = nat_le (length cs) most_name_chars && list_all (λ c. not (is_blank c || is_control c)) cs

-- the name, or that it is none
abbrev pub name_of : List ℕ → Result Piece LexFault
name_of cs = if is_name cs then Ok (piece.Name cs) else Err BadName

-- what a symbol stands for, by the code point that it spells, if it does
abbrev pub symbol_by : Option ℕ → List ℕ → Result Piece LexFault
symbol_by None [] = Err EmptySymbol
symbol_by None (c ∷ cs) = name_of (c ∷ cs)
symbol_by (Some n) cs = character_of n

-- what a symbol stands for, by what is between its brackets: `U` and digits are the character of that code
-- point, and all else is a name
unfoldable pub symbol_of : List ℕ → Result Piece LexFault
symbol_of cs = symbol_by (code_point_of cs) cs

-- the token of a symbol outside strings
abbrev pub token_of : Piece → Token
token_of (piece.Char c) = token.Char c
token_of (piece.Name name) = token.Symbol name

-- a symbol, a `<` that no `>` closes, or a character outside symbols
pub data Atom : Type 0 where
  Bracketed : List ℕ → Atom
  Unclosed : Atom
  Bare : Mark → Atom

-- the character of a mark
abbrev pub character : Mark → ℕ
character (Plain c) = c
character (Literal c) = c

-- whether the mark is this character, plain
abbrev pub is_plain : ℕ → Mark → Bool
is_plain x (Plain c) = c == x
is_plain x (Literal c) = false

-- one more character at the front of a name, where there is one
abbrev pub with_character : ℕ → Option (List ℕ) → Option (List ℕ)
with_character c None = None
with_character c (Some name) = Some (c ∷ name)

-- the characters before the first plain `>`, which closes a symbol; none where there is no such `>`
unfoldable pub before_close : List Mark → Option (List ℕ)
before_close [] = None
before_close (m ∷ ms) = if is_plain greater_than m then Some [] else with_character (character m) (before_close ms)

-- a symbol and what follows it, or that nothing closes it
abbrev pub symbol_then : Option (List ℕ) → (ℕ → List Atom) → List Atom
symbol_then None rest = Unclosed ∷ []
symbol_then (Some name) rest = Bracketed name ∷ rest (suc (length name))

-- the marked text with its symbols grouped
unfoldable pub atoms : (skip : ℕ) → List Mark → List Atom
atoms skip [] = []
atoms (suc skip) (m ∷ ms) = atoms skip ms
atoms zero (m ∷ ms) = if is_plain less_than m then symbol_then (before_close ms) (λ skip. atoms skip ms) else Bare m ∷ atoms zero ms

-- where a reading stops: at a fault, at a comment, at the end, or at the end inside a symbol or a string
pub data Stop : Type 0 where
  AtFault : LexFault → Stop
  AtComment : Stop
  AtEnd : Stop
  InSymbol : Stop
  InString : Stop

-- the tokens read, and where the reading stopped
pub record Reading : Type 0 where
  pub tokens : List Token
  pub stop : Stop

-- a reading that stops before any token
abbrev pub stopped : Stop → Reading
stopped stop = record { tokens = []; stop = stop }

-- the reading with one more token at its front
abbrev pub with_token : Token → Reading → Reading
with_token t rest = record { tokens = t ∷ rest.tokens; stop = rest.stop }

-- the reading after a symbol, which may be at fault
abbrev pub after_symbol : Result Piece LexFault → Reading → Reading
after_symbol (Ok p) rest = with_token (token_of p) rest
after_symbol (Err fault) rest = stopped (AtFault fault)

-- the pieces of a string up to its closing quotation mark, or why there is none
pub data Quoted : Type 0 where
  Closed : List Piece → Quoted
  Stops : Stop → Quoted

-- one more piece at the front of a string
abbrev pub with_piece : Piece → Quoted → Quoted
with_piece p (Closed ps) = Closed (p ∷ ps)
with_piece p (Stops stop) = Stops stop

-- the piece of a symbol in a string, which may be at fault
abbrev pub with_symbol : Result Piece LexFault → Quoted → Quoted
with_symbol (Ok p) rest = with_piece p rest
with_symbol (Err fault) rest = Stops (AtFault fault)

-- the string that begins here, after its opening quotation mark
unfoldable pub quoted : List Atom → Quoted
quoted [] = Stops InString
quoted (Bracketed name ∷ xs) = with_symbol (symbol_of name) (quoted xs)
quoted (Unclosed ∷ xs) = Stops InSymbol
quoted (Bare (Plain c) ∷ xs) = if c == quotation_mark then Closed [] else with_piece (piece.Char c) (quoted xs)
quoted (Bare (Literal c) ∷ xs) = if is_constant c then Stops (AtFault CharacterConstant) else with_piece (piece.Char c) (quoted xs)

-- the reading after a string, with its pieces and its closing mark skipped
abbrev pub after_string : Quoted → (ℕ → Reading) → Reading
after_string (Closed ps) rest = with_token (token.Text ps) (rest (suc (length ps)))
after_string (Stops stop) rest = stopped stop

-- one more character at the front of a word, which may be at fault
abbrev pub with_letter : ℕ → Result (List ℕ) LexFault → Result (List ℕ) LexFault
with_letter c (Ok word) = Ok (c ∷ word)
with_letter c (Err fault) = Err fault

-- the longest run of characters of a word
unfoldable pub word_run : (comment : ℕ) → List Atom → Result (List ℕ) LexFault
word_run comment [] = Ok []
word_run comment (Bracketed name ∷ xs) = Ok []
word_run comment (Unclosed ∷ xs) = Ok []
word_run comment (Bare (Plain c) ∷ xs) = if ends_word (kind_of comment c) then Ok [] else with_letter c (word_run comment xs)
word_run comment (Bare (Literal c) ∷ xs) = if is_constant c then Err CharacterConstant else with_letter c (word_run comment xs)

-- the reading after a word that begins with this character, with the others skipped
abbrev pub after_word : ℕ → Result (List ℕ) LexFault → (ℕ → Reading) → Reading
after_word c (Ok word) rest = with_token (token.Word (c ∷ word)) (rest (length word))
after_word c (Err fault) rest = stopped (AtFault fault)

-- the reading after a plain character, by its kind: what is read next, should it begin a string or a word
abbrev pub after_plain : Kind → ℕ → Quoted → Result (List ℕ) LexFault → (ℕ → Reading) → Reading
after_plain kind.Blank c string word rest = rest zero
after_plain kind.Semicolon c string word rest = with_token token.Semicolon (rest zero)
after_plain kind.Comma c string word rest = with_token token.Comma (rest zero)
after_plain kind.CommentCharacter c string word rest = stopped AtComment
after_plain kind.QuotationMark c string word rest = after_string string rest
after_plain kind.Letter c string word rest = after_word c word rest

-- the tokens of a text, up to a fault, a comment or the end
unfoldable pub reading : (comment skip : ℕ) → List Atom → Reading
reading comment skip [] = stopped AtEnd
reading comment (suc skip) (a ∷ xs) = reading comment skip xs
reading comment zero (Bracketed name ∷ xs) = after_symbol (symbol_of name) (reading comment zero xs)
reading comment zero (Unclosed ∷ xs) = stopped InSymbol
reading comment zero (Bare (Plain c) ∷ xs) =
    after_plain (kind_of comment c) c (quoted xs) (word_run comment xs) (λ skip. reading comment skip xs)
reading comment zero (Bare (Literal c) ∷ xs) =
    if is_constant c then stopped (AtFault CharacterConstant) else after_word c (word_run comment xs) (λ skip. reading comment skip xs)

-- the tokens of a marked text, up to a fault, a comment or the end
abbrev pub reading_of : (comment : ℕ) → List Mark → Reading
reading_of comment ms = reading comment zero (atoms zero ms)
