-- The operands of `collating-element` (POSIX.1-2017, 7.3.2.1): a name, the word `from`, and a string of characters.
use Rattle.std.specs.Prelude.{ℕ, ◌&&◌, if◌then◌else◌, nat_le, List, [], ◌∷◌, length, Option, Some, None, Result, Ok, Err, codes}
use Rattle.std.specs.Option.{option_map}
use Rattle.coll_lex.specs.declared.tokens.Token.{Token}
use Rattle.coll_lex.specs.declared.tokens.Piece.{Piece}
use Rattle.coll_lex.specs.declared.tokens.Piece.TheVariants as piece
use Rattle.coll_syntax.specs.Operands.{and_then, read_as, operand, only, name_in, word_in, string_in, wanted}
use Rattle.coll_syntax.specs.declared.syntax_faults.SyntaxFault.{SyntaxFault}
use Rattle.coll_syntax.specs.declared.syntax_faults.SyntaxFault.TheVariants.{ElementLength, EmptyString}

-- the characters of a string that holds no name
abbrev pub characters_of : List Piece → Option (List ℕ)
characters_of [] = Some []
characters_of (piece.Char c ∷ pieces) = option_map (λ cs. c ∷ cs) (characters_of pieces)
characters_of (piece.Name name ∷ pieces) = None

-- a string of a collating element has 2 to 16 characters (the project's own limit)
abbrev pub short_text : List ℕ → Result (List ℕ) SyntaxFault
short_text cs = if nat_le 2 (length cs) && nat_le (length cs) 16 then Ok cs else Err ElementLength

-- the characters that the string of a collating element spells; it is at fault where it is empty, then where it holds a
-- name, then where it is too short or too long
abbrev pub element_text : List Piece → Result (List ℕ) SyntaxFault
element_text [] = Err EmptyString
element_text (p ∷ pieces) = and_then (wanted (characters_of (p ∷ pieces))) short_text

-- a string that spells a collating element
abbrev pub text_in : Token → Result (List ℕ) SyntaxFault
text_in t = and_then (string_in t) element_text

-- the word `from` and the string
abbrev pub from_text : List Token → Result (List ℕ) SyntaxFault
from_text ts = operand (word_in (codes "from")) ts (λ _ rest. only text_in rest)

-- the name of a collating element, and its characters
abbrev pub element : List Token → Result (List ℕ × List ℕ) SyntaxFault
element ts = operand name_in ts (λ name rest. read_as (λ text. (name, text)) (from_text rest))
