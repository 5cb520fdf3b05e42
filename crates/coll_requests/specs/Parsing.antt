-- What is parsed of one more physical line, and where the lexer then stands.
use Rattle.std.specs.Prelude.{◌≡◌, ℕ, Bool, true, if◌then◌else◌, List, Option, Some, None, is_some, Result, Ok, Err}
use Rattle.coll_lex.specs.LogicalLines.{LexerState, number_of, first_line, served, state_by}
use Rattle.coll_lex.specs.declared.tokens.Line.{Line}
use Rattle.coll_lex.specs.declared.tokens.Token.{Token}
use Rattle.coll_lex.specs.declared.faults.LexFault.{LexFault}
use Rattle.coll_lex.specs.declared.faults.LexFault.TheVariants as lex
use Rattle.coll_requests.specs.SessionLines.{opening_of, tokens_parsed, fault_parsed}
use Rattle.coll_requests.specs.declared.request_faults.RequestFault.TheVariants as fault
use Rattle.coll_requests.specs.declared.session_lines.Opening.{Opening}
use Rattle.coll_requests.specs.declared.session_lines.Parsed.{Parsed}
use Rattle.coll_requests.specs.declared.session_lines.Parsed.TheVariants as parsed
use Rattle.coll_requests.specs.declared.session_lines.ParsedLine.{ParsedLine}

-- the logical line that is open, if one is, begins as this says, whatever is handed in next
unfoldable pub OpensAs : LexerState → Opening → Type 0
OpensAs s opening = is_some s.line ≡ true → (next : List ℕ) → opening_of (first_line s next) ≡ opening

-- what the lexer's answer to a physical line is parsed as, of a logical line with this number
abbrev pub parsed_by : (commands : Bool) → ℕ → Opening → Result (Option Line × LexerState) LexFault → Option ParsedLine
parsed_by commands number opening (Ok (None, after)) = None
parsed_by commands number opening (Ok (Some line, after)) =
    Some (record { number = line.number; parsed = tokens_parsed commands opening line.tokens })
parsed_by commands number opening (Err f) = Some (record { number = number; parsed = fault_parsed opening f })

-- what is parsed of a physical line, where memory was refused to it or not; the test says whether it may be a command
unfoldable pub parsed_in : (commands starved : Bool) → LexerState → List ℕ → Option ParsedLine
parsed_in commands starved s line = parsed_by commands (number_of s) (opening_of (first_line s line)) (served starved s line)

-- what is parsed of a physical line of a session
abbrev pub parsed_at : (starved : Bool) → LexerState → List ℕ → Option ParsedLine
parsed_at starved s line = parsed_in true starved s line

-- what was parsed of a physical line, which memory may have been refused to
pub record Parses (commands starved : Bool) (old new : LexerState) (line : List ℕ) (parsed : Option ParsedLine) : Type 0 where
  pub parsed_is : parsed ≡ parsed_in commands starved old line
  pub stands : new ≡ state_by old (served starved old line)

-- a line for which memory was refused
abbrev pub no_memory : Opening → Parsed
no_memory opening = parsed.Refused opening (fault.Lex lex.OutOfMemory)

-- what was parsed of tokens
abbrev pub ParsesTokens : (commands : Bool) → Opening → List Token → Parsed → Type 0
ParsesTokens commands opening tokens h =
    (starved : Bool) × (h ≡ (if starved then no_memory opening else tokens_parsed commands opening tokens))

-- what was parsed where memory may be refused
abbrev pub ParsesUnlessStarved : Opening → (given parsed : Parsed) → Type 0
ParsesUnlessStarved opening given parsed = (starved : Bool) × (parsed ≡ (if starved then no_memory opening else given))
