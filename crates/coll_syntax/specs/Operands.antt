-- How operands are read: from left to right, and the first token that doesn't fit gives the fault (the project's own rule).
use Rattle.std.specs.Prelude.{ℕ, Bool, true, false, if◌then◌else◌, List, [], ◌∷◌, Option, Some, None, Result, Ok, Err}
use Rattle.std.specs.List.{slice_split}
use Rattle.coll_lex.specs.declared.tokens.Token.{Token}
use Rattle.coll_lex.specs.declared.tokens.Token.TheVariants as token
use Rattle.coll_lex.specs.declared.tokens.Piece.{Piece}
use Rattle.coll_syntax.specs.Identifier.{is_word, id_of}
use Rattle.coll_syntax.specs.declared.identifiers.Id.{Id}
use Rattle.coll_syntax.specs.declared.syntax_faults.SyntaxFault.{SyntaxFault}
use Rattle.coll_syntax.specs.declared.syntax_faults.SyntaxFault.TheVariants.{MissingOperand, ExtraOperand, BadOperand}

-- what was read, and then what comes next; a fault ends the reading
abbrev pub and_then : {A B : Type 0} → Result A SyntaxFault → (A → Result B SyntaxFault) → Result B SyntaxFault
and_then (Ok read) next = next read
and_then (Err fault) next = Err fault

-- what was read, put into what the line makes of it
abbrev pub read_as : {A B : Type 0} → (A → B) → Result A SyntaxFault → Result B SyntaxFault
read_as make (Ok read) = Ok (make read)
read_as make (Err fault) = Err fault

-- what was read, where a token of another kind doesn't fit
abbrev pub wanted : {A : Type 0} → Option A → Result A SyntaxFault
wanted (Some read) = Ok read
wanted None = Err BadOperand

-- what a line says whose tokens have all been read, where none is left over
abbrev pub ended : {A : Type 0} → A → List Token → Result A SyntaxFault
ended read [] = Ok read
ended read (_ ∷ _) = Err ExtraOperand

-- an operand of this kind, and then what follows it; where it is missing, that is the fault
abbrev pub operand : {A B : Type 0} → (Token → Result A SyntaxFault) → List Token → (A → List Token → Result B SyntaxFault)
    → Result B SyntaxFault
operand kind [] next = Err MissingOperand
operand kind (t ∷ rest) next = and_then (kind t) (λ read. next read rest)

-- one operand of this kind, and no other
abbrev pub only : {A : Type 0} → (Token → Result A SyntaxFault) → List Token → Result A SyntaxFault
only kind ts = operand kind ts ended

-- a symbol `<X>`, which gives its name
abbrev pub name_in : Token → Result (List ℕ) SyntaxFault
name_in (token.Symbol name) = Ok name
name_in _ = Err BadOperand

-- the word that is spelled so
abbrev pub word_in : (spelling : List ℕ) → Token → Result (Unit {0}) SyntaxFault
word_in spelling t = if is_word t spelling then Ok tt else Err BadOperand

-- a string
abbrev pub string_in : Token → Result (List Piece) SyntaxFault
string_in (token.Text pieces) = Ok pieces
string_in _ = Err BadOperand

-- an identifier
abbrev pub id_in : Token → Result Id SyntaxFault
id_in t = wanted (id_of t)

-- two symbols
abbrev pub two_names : List Token → Result (List ℕ × List ℕ) SyntaxFault
two_names ts = operand name_in ts (λ first rest. read_as (λ second. (first, second)) (only name_in rest))

-- a semicolon, which separates operands
abbrev pub is_semicolon : Token → Bool
is_semicolon token.Semicolon = true
is_semicolon _ = false

-- the operands: the lists of tokens between the semicolons, perhaps empty
abbrev pub operands_of : List Token → List (List Token)
operands_of = slice_split is_semicolon

-- what all of these operands say; the first at fault gives the fault
unfoldable pub all_read : {A : Type 0} → List (Result A SyntaxFault) → Result (List A) SyntaxFault
all_read [] = Ok []
all_read (first ∷ later) = and_then first (λ read. read_as (λ more. read ∷ more) (all_read later))
