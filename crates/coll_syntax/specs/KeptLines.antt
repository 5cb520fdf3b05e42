-- Lines of a table, as a loader keeps them: a weight that names only the character of its line is the entry's own.
use Rattle.std.specs.Prelude.{ℕ, ◌==◌, Bool, false, if◌then◌else◌, List, [], ◌∷◌, Some, None, Result, Ok, Err, map}
use Rattle.coll_lex.specs.declared.tokens.Token.{Token}
use Rattle.coll_lex.specs.declared.tokens.Token.TheVariants as token
use Rattle.coll_syntax.specs.Operands.{read_as, operands_of, all_read}
use Rattle.coll_syntax.specs.TableLines.{table_row}
use Rattle.coll_syntax.specs.Weights.{operand_weight}
use Rattle.coll_syntax.specs.declared.identifiers.Id.TheVariants.{Char}
use Rattle.coll_syntax.specs.declared.lines.TableLine.{TableLine}
use Rattle.coll_syntax.specs.declared.lines.TableLine.TheVariants.{Order}
use Rattle.coll_syntax.specs.declared.syntax_faults.SyntaxFault.{SyntaxFault}
use Rattle.coll_syntax.specs.declared.syntax_faults.SyntaxFault.TheVariants.{UnknownStatement}
use Rattle.coll_syntax.specs.declared.weights.Weight.{Weight}
use Rattle.coll_syntax.specs.declared.weights.Weight.TheVariants.{Own}

-- an operand is the code point of this character, and nothing else
abbrev pub is_only : ℕ → List Token → Bool
is_only own (token.Char c ∷ []) = c == own
is_only own _ = false

-- the weight of one operand of the line of this character
abbrev pub kept_operand : ℕ → List Token → Result Weight SyntaxFault
kept_operand own ts = if is_only own ts then Ok Own else operand_weight ts

-- the weights of the line of this character
unfoldable pub kept_weights : ℕ → List Token → Result (List Weight) SyntaxFault
kept_weights own ts = all_read (map (kept_operand own) (operands_of ts))

-- the order line of a character, with or without weights
abbrev pub kept_order : ℕ → List Token → Result TableLine SyntaxFault
kept_order own [] = Ok (Order (record { id = Char own; weights = None }))
kept_order own (t ∷ ts) = read_as (λ given. Order (record { id = Char own; weights = Some given })) (kept_weights own (t ∷ ts))

-- a line by its first token, and those behind it
abbrev pub kept_row : Token → List Token → Result TableLine SyntaxFault
kept_row (token.Char own) rest = kept_order own rest
kept_row first rest = table_row first rest

-- what a line of a table says, where a weight that names only the character of its line is the entry's own
abbrev pub kept_line : List Token → Result TableLine SyntaxFault
kept_line [] = Err UnknownStatement
kept_line (first ∷ rest) = kept_row first rest
