-- The commands of a session, by the word that begins the line and by its arguments (the project's own).
use Rattle.std.specs.Prelude.{ℕ, Bool, true, false, ◌&&◌, ◌||◌, ◌==◌, if◌then◌else◌, List, [], ◌∷◌, Result, Ok, Err, codes}
use Rattle.coll_lex.specs.declared.tokens.Token.{Token}
use Rattle.coll_lex.specs.declared.tokens.Token.TheVariants as token
use Rattle.coll_syntax.specs.Elements.{characters_of}
use Rattle.coll_syntax.specs.Identifier.{is_word}
use Rattle.coll_syntax.specs.Operands.{and_then, read_as, wanted, ended, only, string_in}
use Rattle.coll_syntax.specs.declared.syntax_faults.SyntaxFault.{SyntaxFault}
use Rattle.coll_syntax.specs.declared.syntax_faults.SyntaxFault.TheVariants.{MissingOperand}
use Rattle.coll_requests.specs.Numerals.{number_in}
use Rattle.coll_requests.specs.declared.session_lines.Command.{Command}
use Rattle.coll_requests.specs.declared.session_lines.Command.TheVariants as command
use Rattle.coll_requests.specs.declared.request_faults.RequestFault.{RequestFault}
use Rattle.coll_requests.specs.declared.request_faults.RequestFault.TheVariants as fault

-- a word of more than one character that begins with `:`
abbrev pub is_command_word : List ℕ → Bool
is_command_word [] = false
is_command_word (c ∷ []) = false
is_command_word (c ∷ d ∷ rest) = c == 58

-- a line is a command by its first token
abbrev pub is_command : Token → Bool
is_command (token.Word word) = is_command_word word
is_command (token.Symbol name) = false
is_command (token.Char c) = false
is_command (token.Text pieces) = false
is_command token.Semicolon = false
is_command token.Comma = false

-- the text that an argument is: a string without names, perhaps empty
abbrev pub text_in : Token → Result (List ℕ) SyntaxFault
text_in t = and_then (string_in t) (λ pieces. wanted (characters_of pieces))

-- two texts, and no more; one that is missing comes before one of the wrong kind, and that before one left over
abbrev pub two_texts : List Token → Result (List ℕ × List ℕ) SyntaxFault
two_texts [] = Err MissingOperand
two_texts (first ∷ []) = Err MissingOperand
two_texts (first ∷ second ∷ rest) = and_then (text_in first) (λ a. and_then (text_in second) (λ b. ended (a, b) rest))

-- `:key` by its arguments: one text, and no more
abbrev pub key_of : List Token → Result Command SyntaxFault
key_of arguments = read_as command.Key (only text_in arguments)

-- `:compare` by its arguments
abbrev pub compare_of : List Token → Result Command SyntaxFault
compare_of arguments = read_as (λ texts. command.Compare texts.0 texts.1) (two_texts arguments)

-- `:withdraw` by its arguments: one numeral, and no more
abbrev pub withdraw_of : List Token → Result Command SyntaxFault
withdraw_of arguments = read_as command.Withdraw (only number_in arguments)

-- a command, or the fault of its arguments
abbrev pub argued : Result Command SyntaxFault → Result Command RequestFault
argued (Ok read) = Ok read
argued (Err f) = Err (fault.Syntax f)

-- the command of a line, by its word and its arguments: a word that isn't known comes before wrong arguments
unfoldable pub command_of : Token → List Token → Result Command RequestFault
command_of word arguments =
    if is_word word (codes ":undo") then argued (ended command.Undo arguments)
    else (if is_word word (codes ":redo") then argued (ended command.Redo arguments)
    else (if is_word word (codes ":list") then argued (ended command.List arguments)
    else (if is_word word (codes ":print") then argued (ended command.Print arguments)
    else (if is_word word (codes ":key") then argued (key_of arguments)
    else (if is_word word (codes ":compare") then argued (compare_of arguments)
    else (if is_word word (codes ":history") then argued (ended command.History arguments)
    else (if is_word word (codes ":check") then argued (ended command.Check arguments)
    else (if is_word word (codes ":withdraw") then argued (withdraw_of arguments)
    else Err fault.UnknownCommand))))))))

-- a string, whose characters are copied
abbrev pub is_string : Token → Bool
is_string (token.Text pieces) = true
is_string (token.Word word) = false
is_string (token.Symbol name) = false
is_string (token.Char c) = false
is_string token.Semicolon = false
is_string token.Comma = false

-- arguments of which the first is a string
abbrev pub begins_with_string : List Token → Bool
begins_with_string [] = false
begins_with_string (first ∷ rest) = is_string first

-- whether memory may be taken for a command: for the texts of `:key` and of `:compare`, and for no other
unfoldable pub command_takes_memory : Token → List Token → Bool
command_takes_memory word arguments = (is_word word (codes ":key") || is_word word (codes ":compare")) && begins_with_string arguments
