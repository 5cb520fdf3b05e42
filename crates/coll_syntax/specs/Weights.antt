-- The weights of an order line (POSIX.1-2017, 7.3.2.4): operands separated by semicolons.
use Rattle.std.specs.Prelude.{◌||◌, Bool, true, false, if◌then◌else◌, nat_le, List, [], ◌∷◌, length, map, is_some, Result, Ok, Err, codes}
use Rattle.coll_lex.specs.declared.tokens.Token.{Token}
use Rattle.coll_lex.specs.declared.tokens.Token.TheVariants as token
use Rattle.coll_lex.specs.declared.tokens.Piece.{Piece}
use Rattle.coll_lex.specs.declared.tokens.Piece.TheVariants as piece
use Rattle.coll_syntax.specs.Identifier.{is_word, char_or_name}
use Rattle.coll_syntax.specs.Operands.{and_then, read_as, wanted, operands_of, all_read}
use Rattle.coll_syntax.specs.declared.identifiers.Id.{Id}
use Rattle.coll_syntax.specs.declared.identifiers.Id.TheVariants.{Char, Named}
use Rattle.coll_syntax.specs.declared.weights.Weight.{Weight}
use Rattle.coll_syntax.specs.declared.weights.Weight.TheVariants.{Ignore, Own, Names}
use Rattle.coll_syntax.specs.declared.syntax_faults.SyntaxFault.{SyntaxFault}
use Rattle.coll_syntax.specs.declared.syntax_faults.SyntaxFault.TheVariants.{ExtraOperand, WeightTooLong, EmptyString, BadOperand}

-- a weight is its entry's own
abbrev pub is_own : Weight → Bool
is_own Ignore = false
is_own Own = true
is_own (Names ids) = false

-- the character or the name of a piece of a string
abbrev pub piece_id : Piece → Id
piece_id (piece.Char c) = Char c
piece_id (piece.Name name) = Named name

-- the identifiers that a string spells: at least one, and at most 32 (the project's own limit)
abbrev pub string_weight : List Piece → Result Weight SyntaxFault
string_weight [] = Err EmptyString
string_weight (p ∷ pieces) = if nat_le (length (p ∷ pieces)) 32 then Ok (Names (map piece_id (p ∷ pieces))) else Err WeightTooLong

-- a weight of one identifier
abbrev pub one_id : Id → Weight
one_id id = Names (id ∷ [])

-- the weight that a token spells: `IGNORE`, a string, a character or a name
abbrev pub weight : Token → Result Weight SyntaxFault
weight (token.Text pieces) = string_weight pieces
weight t = if is_word t (codes "IGNORE") then Ok Ignore else read_as one_id (wanted (char_or_name t))

-- a token that could begin an operand, a string of any content included
abbrev pub begins_operand : Token → Bool
begins_operand (token.Text pieces) = true
begins_operand t = is_word t (codes "IGNORE") || is_some (char_or_name t)

-- the fault of a token that stands where a semicolon is wanted (the project's own rule)
abbrev pub left_over : Token → SyntaxFault
left_over t = if begins_operand t then ExtraOperand else BadOperand

-- the weight of one operand; an empty one is the entry's own, at the end of the line too (the project's own rule)
abbrev pub operand_weight : List Token → Result Weight SyntaxFault
operand_weight [] = Ok Own
operand_weight (t ∷ []) = weight t
operand_weight (t ∷ next ∷ _) = and_then (weight t) (λ _. Err (left_over next))

-- the weights of an order line
unfoldable pub weights : List Token → Result (List Weight) SyntaxFault
weights ts = all_read (map operand_weight (operands_of ts))
