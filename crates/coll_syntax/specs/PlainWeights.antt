-- Weights of an order line, which are read where they stand: kept as those of a character, where one is given.
use Rattle.std.specs.Prelude.{◌≡◌, ◌<◌, ◌==◌, ℕ, Bool, false, List, [], ◌∷◌, ◌++◌, length, chars, Option, Some, None, Result, Ok}
use Rattle.coll_lex.specs.Marked.{is_joined}
use Rattle.coll_lex.specs.PlainStrings.{string_reading}
use Rattle.coll_lex.specs.PlainTexts.{IsNext, plain_reading}
use Rattle.coll_lex.specs.Tokens.{with_token}
use Rattle.coll_lex.specs.declared.tokens.Chars.{Chars}
use Rattle.coll_lex.specs.declared.tokens.Piece.{Piece}
use Rattle.coll_lex.specs.declared.tokens.Token.{Token}
use Rattle.coll_lex.specs.declared.tokens.Token.TheVariants as token
use Rattle.coll_syntax.specs.KeptLines.{kept_operand, kept_weights}
use Rattle.coll_syntax.specs.Weights.{operand_weight, string_weight, weights}
use Rattle.coll_syntax.specs.declared.syntax_faults.SyntaxFault.{SyntaxFault}
use Rattle.coll_syntax.specs.declared.weights.Weight.{Weight}

-- a character is the one that is given
abbrev pub is_own_char : Option ℕ → ℕ → Bool
is_own_char (Some own) c = c == own
is_own_char None c = false

-- the weight of one operand
abbrev pub operand_by : (own : Option ℕ) → List Token → Result Weight SyntaxFault
operand_by (Some own) ts = kept_operand own ts
operand_by None ts = operand_weight ts

-- the weights of a line
abbrev pub weights_by : (own : Option ℕ) → List Token → Result (List Weight) SyntaxFault
weights_by (Some own) ts = kept_weights own ts
weights_by None ts = weights ts

-- a text begins with a token that is an operand of this weight, and the rest follows
abbrev pub IsOperand : (own : Option ℕ) → Chars → (text : List ℕ) → Weight → (rest : List ℕ) → Type 0
IsOperand own special text weight rest = (t : Token) × IsNext special text t rest × (operand_by own (t ∷ []) ≡ Ok weight)

-- the weight of such an operand stands behind those before it
abbrev pub PutsOperand : (own : Option ℕ) → Chars → (text : List ℕ) → (before after : List Weight) → (rest : List ℕ) → Type 0
PutsOperand own special text before after rest = (weight : Weight) × IsOperand own special text weight rest × (after ≡ before ++ weight ∷ [])

-- a string whose inside begins here has these pieces, and the rest follows it
pub record HasPieces (special : Chars) (inside : List ℕ) (pieces : List Piece) (rest : List ℕ) : Type 0 where
  pub reads : string_reading special [] inside ≡ with_token (token.Text pieces) (plain_reading special rest)
  pub ends : is_joined special.escape (chars inside) ≡ is_joined special.escape (chars rest)
  pub shorter : length rest < length inside

-- a string whose inside begins here has this weight, and the rest follows it
abbrev pub IsInside : Chars → (inside : List ℕ) → Weight → (rest : List ℕ) → Type 0
IsInside special inside weight rest = (pieces : List Piece) × HasPieces special inside pieces rest × (string_weight pieces ≡ Ok weight)
