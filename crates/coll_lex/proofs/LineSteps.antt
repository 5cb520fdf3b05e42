-- What one more physical line does to the logical lines, to where the lexer stands, and to the first physical line
-- of a logical line.
use Rattle.std.proofs.Common.{◌≡◌, ℕ, Bool, true, false, if◌then◌else◌, List, [], ◌∷◌, ◌++◌, Option, Some, None, Result, Ok, Err, ◌⊎◌, inl, inr, refl, subst}
use Rattle.std.specs.Str.{is_utf8}
use Rattle.coll_devices.specs.PhysicalLines.{without_return}
use Rattle.coll_lex.specs.Directives.{directive}
use Rattle.coll_lex.specs.LogicalLines.{OpenLine, LexerState, number_of, lines_before, extended, directive_where, answer_at, fed_as, line_fault, unless_fault}
use Rattle.coll_lex.specs.LogicalLines.{first_of, first_line, dropped, fed, served, line_left_open, first_choice, later_choices, takes_memory, logical_lines}
use Rattle.coll_lex.specs.Tokens.{Stop, AtFault, AtComment, AtEnd, InSymbol, InString}
use Rattle.coll_lex.specs.declared.tokens.Line.{Line}
use Rattle.coll_lex.specs.declared.tokens.Token.{Token}
use Rattle.coll_lex.specs.declared.tokens.Chars.{Chars}
use Rattle.coll_lex.specs.declared.faults.LexFault.{LexFault}
use Rattle.coll_lex.specs.declared.faults.LexFault.TheVariants.{OutOfMemory, NotUtf8}

-- at the end a line that is open is at fault, if the text ends there
pub logical_lines-nil : (starved : List Bool) (ends : Bool) (s : LexerState) → logical_lines starved ends s [] ≡ (if ends then line_left_open s.line else [])
unfolding logical_lines
logical_lines-nil starved ends s = refl

-- a line that gives a logical line
pub logical_lines-whole : (starved : List Bool) (ends : Bool) (s : LexerState) (line : List ℕ) (lines : List (List ℕ)) (given : Line) (after : LexerState)
    → first_choice starved ≡ false → fed s line ≡ Ok (Some given, after)
    → logical_lines starved ends s (line ∷ lines) ≡ record { number = given.number; first = first_line s line; tokens = Ok given.tokens } ∷ logical_lines (later_choices starved) ends after lines
unfolding logical_lines served
logical_lines-whole starved ends s line lines given after e f = rw e (rw f refl)

-- a line that gives none: it is continued, a directive, or has no token
pub logical_lines-none : (starved : List Bool) (ends : Bool) (s : LexerState) (line : List ℕ) (lines : List (List ℕ)) (after : LexerState)
    → first_choice starved ≡ false → fed s line ≡ Ok (None, after)
    → logical_lines starved ends s (line ∷ lines) ≡ logical_lines (later_choices starved) ends after lines
unfolding logical_lines served
logical_lines-none starved ends s line lines after e f = rw e (rw f refl)

-- a line that is at fault
pub logical_lines-fault : (starved : List Bool) (ends : Bool) (s : LexerState) (line : List ℕ) (lines : List (List ℕ)) (fault : LexFault)
    → first_choice starved ≡ false → fed s line ≡ Err fault
    → logical_lines starved ends s (line ∷ lines) ≡ record { number = number_of s; first = first_line s line; tokens = Err fault } ∷ logical_lines (later_choices starved) ends (dropped s) lines
unfolding logical_lines served
logical_lines-fault starved ends s line lines fault e f = rw e (rw f refl)

-- a line that memory is refused to
pub logical_lines-starved : (starved : List Bool) (ends : Bool) (s : LexerState) (line : List ℕ) (lines : List (List ℕ))
    → first_choice starved ≡ true → takes_memory s line ≡ true
    → logical_lines starved ends s (line ∷ lines) ≡ record { number = number_of s; first = first_line s line; tokens = Err OutOfMemory } ∷ logical_lines (later_choices starved) ends (dropped s) lines
unfolding logical_lines served
logical_lines-starved starved ends s line lines e takes = rw e (rw takes refl)

-- where no line is open, the line handed in is the first of its logical line
pub first_line-fresh : (s : LexerState) (line : List ℕ) → s.line ≡ None → first_line s line ≡ without_return line
unfolding first_line
first_line-fresh s line e = rw e refl

first_of-append : (lines more : List (List ℕ)) (line : List ℕ) → first_of ((lines ++ line ∷ []) ++ more) ≡ first_of (lines ++ line ∷ [])
first_of-append [] more line = refl
first_of-append (l ∷ ls) more line = refl

-- a line that is continued keeps its first physical line
pub first_line-continued : (s after : LexerState) (line next : List ℕ) → after.line ≡ Some (extended s line) → first_line after next ≡ first_line s line
unfolding first_line
first_line-continued s after line next e = rw e (first_of-append (lines_before s) (without_return next ∷ []) (without_return line))

-- a line that is continued keeps its number
pub number_of-continued : (s after : LexerState) (line : List ℕ) → after.line ≡ Some (extended s line) → number_of after ≡ number_of s
number_of-continued s after line e = rw e refl

-- the logical line that an answer leaves open, and the count that it leaves
line_left : Result (Option Line × LexerState) LexFault → Option OpenLine
line_left (Ok answer) = answer.1.line
line_left (Err fault) = None

count_left : Result (Option Line × LexerState) LexFault → ℕ
count_left (Ok answer) = answer.1.count
count_left (Err fault) = 0

-- an answer leaves no line open, or the line that was handed in at the end of the one that was open
record LeavesOpen (s : LexerState) (line : List ℕ) (answer : Result (Option Line × LexerState) LexFault) : Type 0 where
  leaves : (line_left answer ≡ None) ⊎ (line_left answer ≡ Some (extended s line))

leaves_none : (s : LexerState) (line : List ℕ) (answer : Result (Option Line × LexerState) LexFault) → line_left answer ≡ None → LeavesOpen s line answer
leaves_none s line answer e = record { leaves = inl e }

leaves_some : (s : LexerState) (line : List ℕ) (answer : Result (Option Line × LexerState) LexFault) → line_left answer ≡ Some (extended s line) → LeavesOpen s line answer
leaves_some s line answer e = record { leaves = inr e }

joined_left : (s : LexerState) (line : List ℕ) (joined : Bool) (go stay : Result (Option Line × LexerState) LexFault) → LeavesOpen s line go → LeavesOpen s line stay
    → LeavesOpen s line (if joined then go else stay)
joined_left s line true go stay h k = h
joined_left s line false go stay h k = k

answer_left : (s : LexerState) (line : List ℕ) (joined : Bool) (tokens : List Token) (stop : Stop) → LeavesOpen s line (answer_at (dropped s) (extended s line) joined tokens stop)
unfolding line_left
answer_left s line joined tokens (AtFault fault) = leaves_none _ _ _ refl
answer_left s line joined tokens AtComment = leaves_none _ _ _ refl
answer_left s line joined tokens AtEnd = joined_left s line joined _ _ (leaves_some _ _ _ refl) (leaves_none _ _ _ refl)
answer_left s line joined tokens InSymbol = joined_left s line joined _ _ (leaves_some _ _ _ refl) (leaves_none _ _ _ refl)
answer_left s line joined tokens InString = joined_left s line joined _ _ (leaves_some _ _ _ refl) (leaves_none _ _ _ refl)

directive_left : (s : LexerState) (line : List ℕ) (d : Option (Result Chars LexFault)) → LeavesOpen s line (fed_as (dropped s) (extended s line) (without_return line) d)
unfolding line_left
directive_left s line (Some (Ok special)) = leaves_none _ _ _ refl
directive_left s line (Some (Err fault)) = leaves_none _ _ _ refl
directive_left s line None = answer_left s line _ _ _

text_left : (s : LexerState) (line : List ℕ) (is_text : Bool) (answer : Result (Option Line × LexerState) LexFault) → LeavesOpen s line answer
    → LeavesOpen s line (if is_text then answer else Err NotUtf8)
unfolding line_left
text_left s line is_text answer h = joined_left s line is_text answer (Err NotUtf8) h (leaves_none _ _ _ refl)

unless_left : (s : LexerState) (line : List ℕ) (fault : Option LexFault) (answer : Result (Option Line × LexerState) LexFault) → LeavesOpen s line answer
    → LeavesOpen s line (unless_fault fault answer)
unfolding line_left
unless_left s line None answer h = h
unless_left s line (Some fault) answer h = leaves_none _ _ _ refl

fed_left : (s : LexerState) (line : List ℕ) → LeavesOpen s line (fed s line)
unfolding fed
fed_left s line =
    let text = without_return line in
    unless_left s line (line_fault s.count (extended s line).bytes) _
    (text_left s line (is_utf8 text) _ (directive_left s line (directive_where s.line (directive s.special text))))

-- what a line leaves open: nothing, or the line that was open with it at its end
pub fed-open : (s : LexerState) (line : List ℕ) (answer : Option Line) (after : LexerState) → fed s line ≡ Ok (answer, after) → (after.line ≡ None) ⊎ (after.line ≡ Some (extended s line))
unfolding line_left
fed-open s line answer after e = (subst (LeavesOpen s line) e (fed_left s line)).leaves
