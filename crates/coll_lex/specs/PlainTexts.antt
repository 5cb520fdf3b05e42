-- Texts of a line that are read token by token where they stand.
use Rattle.std.specs.Prelude.{◌≡◌, ◌<◌, ◌+◌, ◌==◌, ◌||◌, ℕ, Bool, false, true, List, [], ◌++◌, length, chars}
use Rattle.std.specs.List.{list_all}
use Rattle.coll_lex.specs.Lexer.{empty_line, added}
use Rattle.coll_lex.specs.LogicalLines.{LexerState, dropped, answer_to, fed}
use Rattle.coll_lex.specs.Marked.{marks, is_joined}
use Rattle.coll_lex.specs.Runs.{is_word_byte, begins_with_separator}
use Rattle.coll_lex.specs.Tokens.{Reading, Stop, AtFault, AtComment, AtEnd, InSymbol, InString, reading_of, with_token}
use Rattle.coll_lex.specs.declared.logical_lines.plain_tokens.PlainToken.{PlainToken}
use Rattle.coll_lex.specs.declared.logical_lines.plain_tokens.PlainToken.TheVariants as plain
use Rattle.coll_lex.specs.declared.tokens.Chars.{Chars}
use Rattle.coll_lex.specs.declared.tokens.Token.{Token}
use Rattle.coll_lex.specs.declared.tokens.Token.TheVariants as token

-- the reading of a text that stands outside symbols and strings, and in no word
abbrev pub plain_reading : Chars → List ℕ → Reading
plain_reading special text = reading_of special.comment (marks special.escape false (chars text))

-- the token that is lent
abbrev pub token_in : PlainToken → Token
token_in (plain.Word word) = token.Word (chars word.now)
token_in (plain.Symbol name) = token.Symbol (chars name.now)
token_in (plain.Char c) = token.Char c
token_in plain.Semicolon = token.Semicolon

-- a text begins with this token, and the rest follows
pub record IsNext (special : Chars) (text : List ℕ) (t : Token) (rest : List ℕ) : Type 0 where
  pub reads : plain_reading special text ≡ with_token t (plain_reading special rest)
  pub ends : is_joined special.escape (chars text) ≡ is_joined special.escape (chars rest)
  pub shorter : length rest < length text

-- a text begins with a word that a separator or the end of the text ends
pub record IsWholeWord (special : Chars) (text word rest : List ℕ) : Type 0 where
  pub is : text ≡ word ++ rest
  pub some : 0 < length word
  pub plain : list_all (is_word_byte special) word ≡ true
  pub ended : (length rest == 0 || begins_with_separator special.escape rest) ≡ true

-- the line ends its logical line where the reading stopped: at a comment, or at its end where the next line doesn't join it
abbrev pub EndsWhole : Stop → (joined : Bool) → Type 0
EndsWhole (AtFault fault) joined = ⊥
EndsWhole AtComment joined = Unit {0}
EndsWhole AtEnd joined = joined ≡ false
EndsWhole InSymbol joined = ⊥
EndsWhole InString joined = ⊥

-- the tokens of a text are all of a logical line
pub record IsReadWhole (special : Chars) (text : List ℕ) : Type 0 where
  pub whole : EndsWhole (plain_reading special text).stop (is_joined special.escape (chars text))

-- nothing is left of a line but blanks, and perhaps a comment
pub record IsOver (special : Chars) (text : List ℕ) : Type 0 where
  pub none : (plain_reading special text).tokens ≡ []
  pub whole : IsReadWhole special text

-- a line that passes the tests before it is read is a logical line by itself, and this is its text
pub record IsPlainLine (s : LexerState) (line text : List ℕ) : Type 0 where
  pub answered : fed s line ≡ answer_to (dropped s) (added (empty_line (s.count + 1)) text (length line)) (is_joined s.special.escape (chars text)) (plain_reading s.special text)
