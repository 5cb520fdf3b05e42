-- What an answer gives, and where the lexer stands after it: a whole line has the number of its logical line, memory may be taken
-- for it, and past it nothing is open; each line that isn't at fault is counted.
use Rattle.std.proofs.Common.{◌≡◌, ℕ, ◌+◌, ◌<◌, ◌≤◌, ◌≢◌, Bool, true, false, List, [], ◌∷◌, length, min, Option, Some, None, Result, Ok, Err, refl, ap, subst, arith, eq-eqb}
use Rattle.std.specs.Prelude.{nat_lt, ◌==◌, if◌then◌else◌}
use Rattle.std.specs.Str.{is_utf8}
use Rattle.std.proofs.lemmas.Bool.{lt-ltb}
use Rattle.coll_devices.specs.PhysicalLines.{without_return}
use Rattle.coll_lex.specs.Tokens.{Stop, AtFault, AtComment, AtEnd, InSymbol, InString}
use Rattle.coll_lex.specs.Directives.{directive}
use Rattle.coll_lex.specs.LogicalLines.{LexerState, number_of, bytes_before, extended, dropped, whole, answer_at, directive_where, fed_as, line_fault, unless_fault, needs_memory, takes_memory, fed}
use Rattle.coll_lex.specs.declared.tokens.Chars.{Chars}
use Rattle.coll_lex.specs.declared.tokens.Line.{Line}
use Rattle.coll_lex.specs.declared.tokens.Token.{Token}
use Rattle.coll_devices.specs.Limits.{most_line_bytes}
use Rattle.coll_lex.specs.Limits.{most_lines}
use Rattle.coll_lex.specs.declared.faults.LexFault.{LexFault}
use Rattle.coll_lex.specs.declared.faults.LexFault.TheVariants.{NotUtf8, LineTooLong, TooManyLines}

abbrev Answer : Type 0
Answer = Result (Option Line × LexerState) LexFault

-- a whole line has the number of its logical line
Numbers : LexerState → Answer → Type 0
Numbers s (Ok (Some line, after)) = line.number ≡ number_of s
Numbers s (Ok (None, after)) = Unit {0}
Numbers s (Err fault) = Unit {0}

-- past a whole line nothing is open
Stands : LexerState → Answer → Type 0
Stands s (Ok (Some line, after)) = after ≡ dropped s
Stands s (Ok (None, after)) = Unit {0}
Stands s (Err fault) = Unit {0}

-- each line that isn't at fault is counted
Counts : LexerState → Answer → Type 0
Counts s (Ok (line, after)) = after.count ≡ min (s.count + 1) most_lines
Counts s (Err fault) = Unit {0}

record StandsAfter (s : LexerState) (answer : Answer) : Type 0 where
  numbers : Numbers s answer
  stands : Stands s answer
  counts : Counts s answer

at_fault : (s : LexerState) (fault : LexFault) → StandsAfter s (Err fault)
unfolding Numbers Stands Counts
at_fault s fault = record { numbers = tt; stands = tt; counts = tt }

no_line : (s after : LexerState) → after.count ≡ min (s.count + 1) most_lines → StandsAfter s (Ok (None, after))
unfolding Numbers Stands Counts
no_line s after e = record { numbers = tt; stands = tt; counts = e }

whole_line : (s : LexerState) (tokens : List Token) → StandsAfter s (whole (dropped s) (number_of s) tokens)
unfolding Numbers Stands Counts
whole_line s [] = record { numbers = tt; stands = tt; counts = refl }
whole_line s (t ∷ ts) = record { numbers = refl; stands = refl; counts = refl }

chosen : (s : LexerState) (b : Bool) (x y : Answer) → StandsAfter s x → StandsAfter s y → StandsAfter s (if b then x else y)
chosen s true x y h k = h
chosen s false x y h k = k

answer_stands : (s : LexerState) (line : List ℕ) (joined : Bool) (tokens : List Token) (stop : Stop) → StandsAfter s (answer_at (dropped s) (extended s line) joined tokens stop)
answer_stands s line joined tokens (AtFault fault) = at_fault s fault
answer_stands s line joined tokens AtComment = whole_line s tokens
answer_stands s line joined tokens AtEnd = chosen s joined _ _ (no_line s _ refl) (whole_line s tokens)
answer_stands s line joined tokens InSymbol = chosen s joined _ _ (no_line s _ refl) (at_fault s _)
answer_stands s line joined tokens InString = chosen s joined _ _ (no_line s _ refl) (at_fault s _)

fed_as_stands : (s : LexerState) (line : List ℕ) (d : Option (Result Chars LexFault)) → StandsAfter s (fed_as (dropped s) (extended s line) (without_return line) d)
fed_as_stands s line (Some (Ok special)) = no_line s _ refl
fed_as_stands s line (Some (Err fault)) = at_fault s fault
fed_as_stands s line None = answer_stands s line _ _ _

unless_stands : (s : LexerState) (fault : Option LexFault) (answer : Answer) → StandsAfter s answer → StandsAfter s (unless_fault fault answer)
unless_stands s None answer h = h
unless_stands s (Some fault) answer h = at_fault s fault

fed_stands : (s : LexerState) (line : List ℕ) → StandsAfter s (fed s line)
unfolding fed
fed_stands s line =
    let text = without_return line in
    unless_stands s (line_fault s.count (extended s line).bytes) _
    (chosen s (is_utf8 text) _ (Err NotUtf8) (fed_as_stands s line (directive_where s.line (directive s.special text))) (at_fault s _))

-- a whole line has the number of its logical line
pub fed-number : (s : LexerState) (line : List ℕ) (given : Line) (after : LexerState) → fed s line ≡ Ok (Some given, after) → given.number ≡ number_of s
unfolding Numbers
fed-number s line given after e = (subst (StandsAfter s) e (fed_stands s line)).numbers

-- memory may be taken for a whole line
pub fed-takes : (s : LexerState) (line : List ℕ) (given : Line) (after : LexerState) → fed s line ≡ Ok (Some given, after) → takes_memory s line ≡ true
unfolding takes_memory
fed-takes s line given after e = ap needs_memory e

-- past a whole line nothing is open
pub fed-whole : (s : LexerState) (line : List ℕ) (given : Line) (after : LexerState) → fed s line ≡ Ok (Some given, after) → after ≡ dropped s
unfolding Stands
fed-whole s line given after e = (subst (StandsAfter s) e (fed_stands s line)).stands

-- a line that isn't at fault is counted
pub fed-count : (s : LexerState) (line : List ℕ) (answer : Option Line) (after : LexerState) → fed s line ≡ Ok (answer, after) → after.count ≡ min (s.count + 1) most_lines
unfolding Counts
fed-count s line answer after e = (subst (StandsAfter s) e (fed_stands s line)).counts

-- a line longer than a line may be is at fault, whatever was handed in before
pub fed-too_long : (s : LexerState) (line : List ℕ) → most_line_bytes < length line → fed s line ≡ Err LineTooLong
unfolding fed
fed-too_long s line long =
    let longer : most_line_bytes < bytes_before s + length line = omega arith in
    let test = lt-ltb most_line_bytes (bytes_before s + length line) longer in
    rw test refl

fault_when_full : (long last : Bool) → last ≡ true → (if long then Some LineTooLong else (if last then Some TooManyLines else None)) ≡ None → ⊥
fault_when_full true last is e = cc
fault_when_full false true is e = cc
fault_when_full false false is e = cc

no_answer : (fault : Option LexFault) (answer : Answer) (o : Option Line × LexerState) → (fault ≡ None → ⊥) → unless_fault fault answer ≡ Ok o → ⊥
no_answer None answer o h e = h refl
no_answer (Some fault) answer o h e = cc

-- past the most lines each line is at fault
pub fed-room : (s : LexerState) (line : List ℕ) (answer : Option Line) (after : LexerState) → fed s line ≡ Ok (answer, after) → s.count ≡ most_lines → ⊥
unfolding fed
fed-room s line answer after e full =
    no_answer (line_fault s.count (extended s line).bytes) _ (answer, after) (fault_when_full (nat_lt most_line_bytes (extended s line).bytes) (s.count == most_lines) (eq-eqb s.count most_lines full))
    e

-- one physical line more was handed to the lexer, which takes no more than the most lines of a text
abbrev pub CountsOne : LexerState → LexerState → Type 0
CountsOne old new = (old.count < most_lines) × (new.count ≡ old.count + 1)

pub counts_one : (old new : LexerState) → new.count ≡ min (old.count + 1) most_lines → old.count ≤ most_lines → (old.count ≡ most_lines → ⊥) → CountsOne old new
counts_one old new a few room =
    let ne : old.count ≢ most_lines = room in
    (omega arith, omega arith)

-- a line that isn't at fault is one more, and the lines are no more than a text may have
pub fed-one : (s : LexerState) (line : List ℕ) (answer : Option Line) (after : LexerState) → fed s line ≡ Ok (answer, after) → s.count ≤ most_lines → CountsOne s after
fed-one s line answer after e few = counts_one s after (fed-count s line answer after e) few (fed-room s line answer after e)
