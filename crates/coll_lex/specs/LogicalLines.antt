-- Logical lines: what a lexer has been handed, its answer to one more physical line, and the logical lines of a
-- list of physical lines (POSIX.1-2017, 7.3).
use Rattle.std.specs.Prelude.{ℕ, ◌+◌, min, Bool, true, false, if◌then◌else◌, ◌==◌, nat_lt, List, [], ◌∷◌, ◌++◌, map, length}
use Rattle.std.specs.Prelude.{chars, Option, Some, None, is_some, option_map, unwrap_or, Result, Ok, Err}
use Rattle.std.specs.Str.{is_utf8}
use Rattle.coll_lex.specs.Characters.{number_sign, backslash}
use Rattle.coll_devices.specs.PhysicalLines.{without_return}
use Rattle.coll_lex.specs.Marked.{is_joined, joined_marks}
use Rattle.coll_lex.specs.Tokens.{Reading, Stop, AtFault, AtComment, AtEnd, InSymbol, InString, reading_of}
use Rattle.coll_lex.specs.Directives.{directive}
use Rattle.coll_lex.specs.Category.{begins_category}
use Rattle.coll_lex.specs.declared.tokens.Chars.{Chars}
use Rattle.coll_lex.specs.declared.tokens.Line.{Line}
use Rattle.coll_lex.specs.declared.tokens.Token.{Token}
use Rattle.coll_devices.specs.Limits.{most_line_bytes}
use Rattle.coll_lex.specs.Limits.{most_lines}
use Rattle.coll_lex.specs.declared.faults.LexFault.{LexFault}
use Rattle.coll_lex.specs.declared.faults.LexFault.TheVariants.{NotUtf8, OpenSymbol, EmptySymbol, BadName, BadCodePoint}
use Rattle.coll_lex.specs.declared.faults.LexFault.TheVariants.{OpenString, CharacterConstant, DanglingEscape, LineTooLong}
use Rattle.coll_lex.specs.declared.faults.LexFault.TheVariants.{BadCharDirective, TooManyLines, OutOfMemory}

-- a logical line that goes on in the next physical line: its number, its physical lines so far without their
-- carriage returns, and the sum of the lengths handed in
pub record OpenLine : Type 0 where
  pub number : ℕ
  pub lines : List (List ℕ)
  pub bytes : ℕ

-- where a lexer stands: its two characters, how many lines it has been handed, and the logical line that is open
pub record LexerState : Type 0 where
  pub special : Chars
  pub count : ℕ
  pub line : Option OpenLine

-- at first the comment character is `#` and the escape character `\`
abbrev pub first_state : LexerState
first_state = record { special = record { comment = number_sign; escape = backslash }; count = 0; line = None }

-- the number of the logical line that is open
abbrev pub pending : LexerState → Option ℕ
pending s = option_map (λ (o : OpenLine). o.number) s.line

-- the number of the logical line that the next physical line belongs to
abbrev pub number_of : LexerState → ℕ
number_of s = unwrap_or (pending s) (s.count + 1)

-- the physical lines of the logical line that is open
abbrev pub lines_before : LexerState → List (List ℕ)
lines_before s = unwrap_or (option_map (λ (o : OpenLine). o.lines) s.line) []

-- how many bytes were handed in of the logical line that is open
abbrev pub bytes_before : LexerState → ℕ
bytes_before s = unwrap_or (option_map (λ (o : OpenLine). o.bytes) s.line) 0

-- the logical line that this physical line belongs to, up to it
abbrev pub extended : LexerState → List ℕ → OpenLine
extended s line = record { number = number_of s; lines = lines_before s ++ without_return line ∷ []; bytes = bytes_before s + length line }

-- the first of some lines
abbrev pub first_of : List (List ℕ) → List ℕ
first_of [] = []
first_of (line ∷ lines) = line

-- the first physical line of the logical line that this physical line belongs to
unfoldable pub first_line : LexerState → List ℕ → List ℕ
first_line s line = first_of (extended s line).lines

-- where a lexer stands after a line that leaves none open, be it whole or at fault
abbrev pub dropped : LexerState → LexerState
dropped s = record { special = s.special; count = min (s.count + 1) most_lines; line = None }

-- the line that these tokens make, unless there is none
abbrev pub line_of : ℕ → List Token → Option Line
line_of number [] = None
line_of number (t ∷ ts) = Some (record { number = number; tokens = t ∷ ts })

-- the answer to a line that ends its logical line: its tokens; `next` is where the lexer stands with no line open
abbrev pub whole : (next : LexerState) → ℕ → List Token → Result (Option Line × LexerState) LexFault
whole next number tokens = Ok (line_of number tokens, next)

-- the answer to a line that joins the next one
abbrev pub continued : (next : LexerState) → OpenLine → Result (Option Line × LexerState) LexFault
continued next o = Ok (None, record next { line = Some o })

-- the answer by where the reading stopped: a comment isn't continued, and all else goes on where the line is joined
abbrev pub answer_at : (next : LexerState) → OpenLine → (joined : Bool) → List Token → Stop → Result (Option Line × LexerState) LexFault
answer_at next o joined tokens (AtFault fault) = Err fault
answer_at next o joined tokens AtComment = whole next o.number tokens
answer_at next o joined tokens AtEnd = if joined then continued next o else whole next o.number tokens
answer_at next o joined tokens InSymbol = if joined then continued next o else Err OpenSymbol
answer_at next o joined tokens InString = if joined then continued next o else Err OpenString

-- the answer to a line by the reading of its logical line
abbrev pub answer_to : (next : LexerState) → OpenLine → (joined : Bool) → Reading → Result (Option Line × LexerState) LexFault
answer_to next o joined r = answer_at next o joined r.tokens r.stop

-- the reading of physical lines that are joined
unfoldable pub reading_in : Chars → List (List ℕ) → Reading
reading_in special lines = reading_of special.comment (joined_marks special.escape (map chars lines))

-- the answer to a line of a logical line, which up to it is this
abbrev pub answer_in : (next : LexerState) → OpenLine → (line : List ℕ) → Result (Option Line × LexerState) LexFault
answer_in next o line = answer_to next o (is_joined next.special.escape (chars line)) (reading_in next.special o.lines)

-- the directive that a line is, which it can be only where no logical line is open
abbrev pub directive_where : Option OpenLine → Option (Result Chars LexFault) → Option (Result Chars LexFault)
directive_where None asked = asked
directive_where (Some o) asked = None

-- the answer to a line, by the directive that it is
abbrev pub fed_as : (next : LexerState) → OpenLine → (line : List ℕ) → Option (Result Chars LexFault)
    → Result (Option Line × LexerState) LexFault
fed_as next o line (Some (Ok special)) = Ok (None, record next { special = special })
fed_as next o line (Some (Err fault)) = Err fault
fed_as next o line None = answer_in next o line

-- the answer to a line of UTF-8, or that it is none
abbrev pub fed_text : (next : LexerState) → OpenLine → (line : List ℕ) → Option (Result Chars LexFault)
    → Result (Option Line × LexerState) LexFault
fed_text next o line asked = if is_utf8 line then fed_as next o line asked else Err NotUtf8

-- the fault of a line by the sum of the lengths up to it, or by the count of the lines before it
abbrev pub line_fault : (count bytes : ℕ) → Option LexFault
line_fault count bytes = if nat_lt most_line_bytes bytes then Some LineTooLong
    else (if count == most_lines then Some TooManyLines else None)

-- the answer to a line, unless it is at fault
abbrev pub unless_fault : {A : Type 0} → Option LexFault → Result A LexFault → Result A LexFault
unless_fault None answer = answer
unless_fault (Some fault) answer = Err fault

-- the answer to one more physical line: the logical line that it ends, or its fault; else none, and where the
-- lexer then stands
unfoldable pub fed : LexerState → List ℕ → Result (Option Line × LexerState) LexFault
fed s line =
    unless_fault (line_fault s.count (extended s line).bytes)
    (fed_text (dropped s) (extended s line) (without_return line) (directive_where s.line (directive s.special (without_return line))))

-- the answer to a line before the category, by the directive that it is
abbrev pub outside_as : (next : LexerState) → (line : List ℕ) → Option (Result Chars LexFault) → Result (Bool × LexerState) LexFault
outside_as next line (Some (Ok special)) = Ok (false, record next { special = special })
outside_as next line (Some (Err fault)) = Err fault
outside_as next line None = Ok (begins_category next.special.comment line, next)

-- the answer to a line before the category: whether the category begins with it, whatever bytes it has; it
-- belongs to no logical line, so an open one is dropped
unfoldable pub outside : LexerState → List ℕ → Result (Bool × LexerState) LexFault
outside s line =
    unless_fault (line_fault s.count (length line))
    (outside_as (dropped s) (without_return line) (directive s.special (without_return line)))

-- a logical line: its number, its first physical line, and its tokens or its fault
pub record LogicalLine : Type 0 where
  pub number : ℕ
  pub first : List ℕ
  pub tokens : Result (List Token) LexFault

-- whether memory is refused to the first line: where no choice is left, it is not
abbrev pub first_choice : List Bool → Bool
first_choice [] = false
first_choice (c ∷ cs) = c

-- the choices for the lines after the first
abbrev pub later_choices : List Bool → List Bool
later_choices [] = []
later_choices (c ∷ cs) = cs

-- the faults that are met among the tokens of a line, so that tokens may stand before them
abbrev pub is_among_tokens : LexFault → Bool
is_among_tokens NotUtf8 = false
is_among_tokens OpenSymbol = true
is_among_tokens EmptySymbol = true
is_among_tokens BadName = true
is_among_tokens BadCodePoint = true
is_among_tokens OpenString = true
is_among_tokens CharacterConstant = true
is_among_tokens DanglingEscape = false
is_among_tokens LineTooLong = false
is_among_tokens BadCharDirective = false
is_among_tokens TooManyLines = false
is_among_tokens OutOfMemory = false

-- whether memory may be taken for this answer: it is for a logical line's tokens, for a line that the next one
-- continues, and for the tokens before a fault among them
abbrev pub needs_memory : Result (Option Line × LexerState) LexFault → Bool
needs_memory (Ok (Some whole_line, _)) = true
needs_memory (Ok (None, next)) = is_some next.line
needs_memory (Err fault) = is_among_tokens fault

-- whether memory may be taken for a line: never for a directive, nor for one that ends a logical line without tokens,
-- nor for one that is too long, one too many, no UTF-8 or a directive at fault
unfoldable pub takes_memory : LexerState → List ℕ → Bool
takes_memory s line = needs_memory (fed s line)

-- the answer to a line, which is refused for lack of memory where the choice says so and memory is taken for it
unfoldable pub served : (starved : Bool) → LexerState → List ℕ → Result (Option Line × LexerState) LexFault
served true s line = if takes_memory s line then Err OutOfMemory else fed s line
served false s line = fed s line

-- where the lexer stands after this answer
abbrev pub state_by : LexerState → Result (Option Line × LexerState) LexFault → LexerState
state_by s (Ok answer) = answer.1
state_by s (Err fault) = dropped s

-- the logical line that this answer gives
abbrev pub lines_by : LexerState → List ℕ → Result (Option Line × LexerState) LexFault → List LogicalLine
lines_by s line (Ok (None, _)) = []
lines_by s line (Ok (Some whole_line, _)) =
    record { number = whole_line.number; first = first_line s line; tokens = Ok whole_line.tokens } ∷ []
lines_by s line (Err fault) = record { number = number_of s; first = first_line s line; tokens = Err fault } ∷ []

-- a line that is open where the text ends is at fault
abbrev pub line_left_open : Option OpenLine → List LogicalLine
line_left_open None = []
line_left_open (Some o) = record { number = o.number; first = first_of o.lines; tokens = Err DanglingEscape } ∷ []

-- the logical lines of these physical lines, with those that memory was refused to; the test says whether the
-- text ends with them
unfoldable pub logical_lines : (starved : List Bool) → (ends : Bool) → LexerState → List (List ℕ) → List LogicalLine
logical_lines starved ends s [] = if ends then line_left_open s.line else []
logical_lines starved ends s (line ∷ lines) = lines_by s line (served (first_choice starved) s line)
    ++ logical_lines (later_choices starved) ends (state_by s (served (first_choice starved) s line)) lines
