-- Lines before the category: each that isn't at fault is counted and leaves no logical line open, one that is longer than a line
-- may be is at fault, and none is for lack of memory.
use Rattle.std.proofs.Common.{◌≡◌, ℕ, ◌<◌, ◌≤◌, Bool, true, false, List, length, Option, Some, None, Result, Ok, Err, refl, sym, subst, ◌∙◌, eq-eqb}
use Rattle.std.proofs.lemmas.Bool.{false≢true, lt-ltb}
use Rattle.std.specs.Prelude.{nat_lt, ◌==◌, if◌then◌else◌}
use Rattle.coll_devices.specs.Limits.{most_line_bytes}
use Rattle.coll_lex.specs.Limits.{most_lines}
use Rattle.coll_lex.specs.Faults.{lex_fault_number}
use Rattle.coll_devices.specs.PhysicalLines.{without_return}
use Rattle.coll_lex.specs.Directives.{directive}
use Rattle.coll_lex.specs.LogicalLines.{LexerState, dropped, unless_fault, outside_as, outside}
use Rattle.coll_lex.specs.declared.tokens.Chars.{Chars}
use Rattle.coll_lex.specs.declared.faults.LexFault.{LexFault}
use Rattle.coll_lex.specs.declared.faults.LexFault.TheVariants.{LineTooLong, TooManyLines}
use Rattle.coll_lex.proofs.LineEnds.{CountsOne, counts_one}
use Rattle.coll_lex.proofs.LineFaults.{directive-not_starved}

abbrev Answer : Type 0
Answer = Result (Bool × LexerState) LexFault

-- a line that isn't at fault had room, and leaves the lexer as one that belongs to no logical line
record IsSkipped (old new : LexerState) : Type 0 where
  room : (old.count == most_lines) ≡ false
  counted : new.count ≡ (dropped old).count
  closed : new.line ≡ None

-- what holds of each answer
abbrev Holds : LexerState → Answer → Type 0
Holds s (Ok answer) = IsSkipped s answer.1
Holds s (Err fault) = (lex_fault_number fault == 70) ≡ false

by_directive : (s : LexerState) (special : Chars) (text : List ℕ) (asked : Option (Result Chars LexFault)) → (s.count == most_lines) ≡ false → directive special text ≡ asked
    → Holds s (outside_as (dropped s) text asked)
by_directive s special text (Some (Ok chars)) room e = record { room = room; counted = refl; closed = refl }
by_directive s special text (Some (Err fault)) room e = directive-not_starved special text fault e
by_directive s special text None room e = record { room = room; counted = refl; closed = refl }

by_limits : (s : LexerState) (long full : Bool) (answer : Answer) → (full ≡ false → Holds s answer)
    → Holds s (unless_fault (if long then Some LineTooLong else (if full then Some TooManyLines else None)) answer)
by_limits s true full answer h = refl
by_limits s false true answer h = refl
by_limits s false false answer h = h refl

holds : (s : LexerState) (line : List ℕ) → Holds s (outside s line)
unfolding outside
holds s line =
    let text = without_return line in
    by_limits s (nat_lt most_line_bytes (length line)) (s.count == most_lines) (outside_as (dropped s) text (directive s.special text))
    (λ room. by_directive s s.special text (directive s.special text) room refl)

skipped : (s after : LexerState) (line : List ℕ) (begins : Bool) → outside s line ≡ Ok (begins, after) → IsSkipped s after
skipped s after line begins e = subst (Holds s) e (holds s line)

-- a line that isn't at fault is one more, and the lines are no more than a text may have
pub outside-one : (s after : LexerState) (line : List ℕ) (begins : Bool) → outside s line ≡ Ok (begins, after) → s.count ≤ most_lines → CountsOne s after
outside-one s after line begins e few =
    let h = skipped s after line begins e in
    counts_one s after h.counted few (λ full. false≢true (sym h.room ∙ eq-eqb s.count most_lines full))

-- a line that isn't at fault leaves no logical line open
pub outside-closed : (s after : LexerState) (line : List ℕ) (begins : Bool) → outside s line ≡ Ok (begins, after) → after.line ≡ None
outside-closed s after line begins e = (skipped s after line begins e).closed

-- a line never needs memory by itself
pub outside-not_starved : (s : LexerState) (line : List ℕ) (fault : LexFault) → outside s line ≡ Err fault → (lex_fault_number fault == 70) ≡ false
outside-not_starved s line fault e = subst (Holds s) e (holds s line)

-- a line longer than a line may be is at fault
pub outside-too_long : (s : LexerState) (line : List ℕ) → most_line_bytes < length line → outside s line ≡ Err LineTooLong
unfolding outside
outside-too_long s line long = rw (lt-ltb most_line_bytes (length line) long) refl
