-- The numerals that a command is given, and the numbers that they spell (the project's own).
use Rattle.std.specs.Prelude.{ℕ, Bool, ◌+◌, ◌*◌, ◌&&◌, nat_le, nat_lt, fold, if◌then◌else◌, List, length, Option, Some, None, Result, Err}
use Rattle.std.specs.Char.{digit_value}
use Rattle.std.specs.List.{list_all}
use Rattle.coll_lex.specs.declared.tokens.Token.{Token}
use Rattle.coll_lex.specs.declared.tokens.Token.TheVariants as token
use Rattle.coll_syntax.specs.Operands.{wanted}
use Rattle.coll_syntax.specs.declared.syntax_faults.SyntaxFault.{SyntaxFault}
use Rattle.coll_syntax.specs.declared.syntax_faults.SyntaxFault.TheVariants.{BadOperand}

-- a decimal digit of ASCII
abbrev pub is_digit : ℕ → Bool
is_digit c = nat_lt (digit_value c) 10

-- the number that decimal digits spell
abbrev pub decimal_number : List ℕ → ℕ
decimal_number digits = fold (λ n d. 10 * n + digit_value d) 0 digits

-- one to nine decimal digits
abbrev pub is_numeral : List ℕ → Bool
is_numeral cs = nat_le 1 (length cs) && nat_le (length cs) 9 && list_all is_digit cs

-- the number that a text spells, if it is a numeral
abbrev pub numeral_of : List ℕ → Option ℕ
numeral_of cs = if is_numeral cs then Some (decimal_number cs) else None

-- the number that an argument is: a word that is a numeral
abbrev pub number_in : Token → Result ℕ SyntaxFault
number_in (token.Word word) = wanted (numeral_of word)
number_in (token.Symbol name) = Err BadOperand
number_in (token.Char c) = Err BadOperand
number_in (token.Text pieces) = Err BadOperand
number_in token.Semicolon = Err BadOperand
number_in token.Comma = Err BadOperand
