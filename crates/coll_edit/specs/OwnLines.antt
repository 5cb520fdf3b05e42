-- The lines that stand beside those of a session, by the word that begins them and by their arguments (the project's own).
use Rattle.std.specs.Prelude.{ℕ, List, [], ◌∷◌, if◌then◌else◌, Option, Some, None, Result, Ok, Err, codes}
use Rattle.coll_lex.specs.LogicalLines.{LexerState, first_state, fed}
use Rattle.coll_lex.specs.declared.faults.LexFault.{LexFault}
use Rattle.coll_lex.specs.declared.tokens.Line.{Line}
use Rattle.coll_lex.specs.declared.tokens.Token.{Token}
use Rattle.coll_lex.specs.declared.tokens.Token.TheVariants as token
use Rattle.coll_syntax.specs.Elements.{characters_of}
use Rattle.coll_syntax.specs.Identifier.{is_word}
use Rattle.coll_syntax.specs.Operands.{and_then, ended, id_in, only, read_as, wanted}
use Rattle.coll_syntax.specs.declared.syntax_faults.SyntaxFault.{SyntaxFault}
use Rattle.coll_syntax.specs.declared.syntax_faults.SyntaxFault.TheVariants.{BadOperand, MissingOperand}
use Rattle.coll_edit.specs.WordSigns.{with_signs}
use Rattle.coll_edit.specs.declared.own_lines.OwnLine.{OwnLine}
use Rattle.coll_edit.specs.declared.own_lines.OwnLine.TheVariants as own
use Rattle.coll_edit.specs.declared.word_signs.Before.TheVariants as before

-- a text: a word, a character, or a string without names
abbrev pub text_in : Token → Result (List ℕ) SyntaxFault
text_in (token.Word word) = Ok word
text_in (token.Symbol name) = Err BadOperand
text_in (token.Char c) = Ok (c ∷ [])
text_in (token.Text pieces) = wanted (characters_of pieces)
text_in token.Semicolon = Err BadOperand
text_in token.Comma = Err BadOperand

-- two texts, of which one that is missing comes before one of the wrong kind
abbrev pub two_texts : List Token → Result (List ℕ × List ℕ) SyntaxFault
two_texts [] = Err MissingOperand
two_texts (first ∷ []) = Err MissingOperand
two_texts (first ∷ second ∷ rest) =
    and_then (text_in first) (λ text. and_then (text_in second) (λ other. ended (text, other) rest))

-- what `:help` asks for: all that may be typed, or the fault with a number
abbrev pub help_of : List Token → Result OwnLine SyntaxFault
help_of [] = Ok own.Help
help_of (argument ∷ rest) = read_as own.HelpNumber (only text_in (argument ∷ rest))

-- a line that stands beside those of a session, whatever its arguments are
abbrev pub argued : Result OwnLine SyntaxFault → Option OwnLine
argued (Ok line) = Some line
argued (Err fault) = Some (own.Wrong fault)

-- a line that does so where its arguments fit
abbrev pub if_fits : Result OwnLine SyntaxFault → Option OwnLine
if_fits (Ok line) = Some line
if_fits (Err fault) = None

-- the line with this word and these arguments
unfoldable pub own_words : Token → List Token → Option OwnLine
own_words word arguments =
    if is_word word (codes ":show") then argued (read_as own.Show (only id_in arguments))
    else (if is_word word (codes ":key") then if_fits (read_as own.Key (only text_in arguments))
    else (if is_word word (codes ":compare") then if_fits (read_as (λ texts. own.Compare texts.0 texts.1) (two_texts arguments))
    else (if is_word word (codes ":explain") then argued (read_as (λ texts. own.Explain texts.0 texts.1) (two_texts arguments))
    else (if is_word word (codes ":delta") then argued (ended own.Delta arguments)
    else (if is_word word (codes ":write") then argued (read_as own.Write (only text_in arguments))
    else (if is_word word (codes ":words") then argued (read_as own.Words (only text_in arguments))
    else (if is_word word (codes ":help") then argued (help_of arguments)
    else (if is_word word (codes ":quit") then argued (ended own.Quit arguments)
    else None))))))))

-- the line that tokens are
abbrev pub own_of : List Token → Option OwnLine
own_of [] = None
own_of (word ∷ arguments) = own_words word arguments

-- the line that a line is which a lexer at the beginning of a text answers so
abbrev pub own_fed : Result (Option Line × LexerState) LexFault → Option OwnLine
own_fed (Ok (Some line, after)) = own_of line.tokens
own_fed (Ok (None, after)) = None
own_fed (Err fault) = None

-- the line that a line is, read by the lexer as it stands
abbrev pub own_read : List ℕ → Option OwnLine
own_read line = own_fed (fed first_state line)

-- the line that a physical line is, in which a `#` within a word is a character of it
abbrev pub own_line : List ℕ → Option OwnLine
own_line line = own_read (with_signs before.Apart line)
