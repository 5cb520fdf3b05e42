-- The numbers that the faults of a delta file carry: those of lines that were handed in.
use Rattle.std.proofs.Common.{◌≡◌, ℕ, ◌≤◌, Bool, true, false, List, [], ◌∷◌, Option, Some, None, Result, Ok, Err, refl, sym, ap, ◌∙◌, subst}
use Rattle.std.specs.Prelude.{if◌then◌else◌}
use Rattle.std.proofs.lemmas.Bool.{false≢true}
use Rattle.coll_lex.specs.Limits.{most_lines}
use Rattle.coll_lex.specs.LogicalLines.{LexerState, number_of, first_line, fed, outside, served, state_by}
use Rattle.coll_lex.specs.declared.faults.LexFault.{LexFault}
use Rattle.coll_lex.specs.declared.tokens.Line.{Line}
use Rattle.coll_lex.proofs.LineEnds.{fed-number}
use Rattle.coll_lex.proofs.OutsideLines.{outside-closed}
use Rattle.coll_table.proofs.LineNumbers.{IsOpenWithin, none_open, fed_within}
use Rattle.coll_requests.specs.Parsing.{parsed_by, parsed_in}
use Rattle.coll_requests.specs.SessionLines.{opening_of}
use Rattle.coll_requests.specs.DeltaFiles.{file_fault, statements_in, fault_outside, standalone_fault}
use Rattle.coll_requests.specs.DeltaReading.{DeltaState, Step, kept_fault_inside, kept_fault_under, kept_ended_before, faulty, judged}
use Rattle.coll_requests.specs.DeltaReading.{by_parsed, by_physical, by_outside, by_where, unless_faulty as unless_stands, delta_line}
use Rattle.coll_requests.specs.OpenBlocks.{is_full}
use Rattle.coll_requests.specs.declared.delta_faults.DeltaFault.{DeltaFault}
use Rattle.coll_requests.specs.declared.delta_files.StatementAt.{StatementAt}
use Rattle.coll_requests.specs.declared.open_blocks.OpenBlock.{OpenBlock}
use Rattle.coll_requests.specs.declared.session_lines.StandaloneLine.{StandaloneLine}
use Rattle.coll_requests.specs.declared.session_lines.StandaloneLine.TheVariants as standalone
use Rattle.coll_requests.specs.declared.session_lines.Parsed.{Parsed}
use Rattle.coll_requests.specs.declared.session_lines.Parsed.TheVariants as parsed
use Rattle.coll_requests.specs.declared.session_lines.ParsedLine.{ParsedLine}
use Rattle.coll_requests.specs.declared.requests.FaultAt.{FaultAt}

module _ (l : LexerState) (line : List ℕ) (opens : IsOpenWithin l) (few : l.count ≤ most_lines) where
  opens_by : (r : Result (Option Line × LexerState) LexFault) → fed l line ≡ r → IsOpenWithin (state_by l r)
  opens_by (Err f) e = none_open (state_by l (Err f)) refl
  opens_by (Ok (answer, after)) e = fed_within l after line answer opens few e

  opens_fed : IsOpenWithin (state_by l (fed l line))
  opens_fed = opens_by (fed l line) refl

-- where the lexer stands after a line
abbrev lexer_of : LexerState → Step → LexerState
lexer_of l (Ok answer) = answer.1.lexer
lexer_of l (Err f) = l

-- the fault that is stored after a line
abbrev stored_of : Step → Option DeltaFault
stored_of (Ok answer) = answer.1.fault
stored_of (Err f) = None

faulty_lexer : (s : DeltaState) (f : DeltaFault) (given : List StatementAt) → lexer_of s.lexer (faulty s f given) ≡ s.lexer
faulty_lexer s f [] = refl
faulty_lexer s f (at ∷ more) = refl

judged_lexer : (s : DeltaState) (line : ParsedLine) (f : Option FaultAt) → lexer_of s.lexer (judged s line f) ≡ s.lexer
judged_lexer s line None = refl
judged_lexer s line (Some at) = faulty_lexer s (file_fault at) (statements_in (kept_ended_before s.block line.parsed))

parsed_lexer : (s : DeltaState) (h : Option ParsedLine) → lexer_of s.lexer (by_parsed s h) ≡ s.lexer
parsed_lexer s None = refl
parsed_lexer s (Some line) = judged_lexer s line (kept_fault_under s.block line)

-- the number of a fault, if there is one
abbrev IsAt : ℕ → Option FaultAt → Type 0
IsAt n None = Unit {0}
IsAt n (Some at) = at.line ≡ n

abbrev IsStoredAt : ℕ → Option DeltaFault → Type 0
IsStoredAt n None = Unit {0}
IsStoredAt n (Some f) = f.line ≡ n

outside_at : (n : ℕ) (h : Parsed) → IsAt n (fault_outside n h)
outside_at n (parsed.Stops f) = refl
outside_at n (parsed.Refused o f) = refl
outside_at n (parsed.Command c) = tt
outside_at n (parsed.BadCommand f) = tt
outside_at n (parsed.BlockStart target) = tt
outside_at n parsed.BlockEnd = refl
outside_at n (parsed.OrderLine order) = tt
outside_at n (parsed.Standalone a) = tt

at_if : (n : ℕ) (full : Bool) (at : FaultAt) → at.line ≡ n → IsAt n (if full then Some at else None)
at_if n true at e = e
at_if n false at e = tt

standalone_at : (n : ℕ) (a : StandaloneLine) → (standalone_fault n a).line ≡ n
standalone_at n (standalone.Statement s) = refl
standalone_at n standalone.NoEffect = refl
standalone_at n standalone.EndsCategory = refl

inside_at : (block : OpenBlock) (n : ℕ) (h : Parsed) → IsAt n (kept_fault_inside block n h)
inside_at block n (parsed.Stops f) = refl
inside_at block n (parsed.Refused o f) = refl
inside_at block n (parsed.Command c) = tt
inside_at block n (parsed.BadCommand f) = tt
inside_at block n (parsed.BlockStart target) = tt
inside_at block n parsed.BlockEnd = tt
inside_at block n (parsed.OrderLine order) = at_if n (is_full block.status) _ refl
inside_at block n (parsed.Standalone a) = standalone_at n a

under_at : (block : Option OpenBlock) (line : ParsedLine) → IsAt line.number (kept_fault_under block line)
under_at None line = outside_at line.number line.parsed
under_at (Some block) line = inside_at block line.number line.parsed

faulty_stored : (s : DeltaState) (f : DeltaFault) (given : List StatementAt) (n : ℕ) → f.line ≡ n → IsStoredAt n (stored_of (faulty s f given))
faulty_stored s f [] n e = tt
faulty_stored s f (at ∷ more) n e = e

judged_stored : (s : DeltaState) (line : ParsedLine) (f : Option FaultAt) → s.fault ≡ None → IsAt line.number f → IsStoredAt line.number (stored_of (judged s line f))
judged_stored s line None none at = subst (IsStoredAt line.number) (sym none) tt
judged_stored s line (Some f) none at = faulty_stored s (file_fault f) (statements_in (kept_ended_before s.block line.parsed)) line.number at

abbrev IsNumbered : ℕ → Option ParsedLine → Type 0
IsNumbered n None = Unit {0}
IsNumbered n (Some line) = line.number ≡ n

parsed_stored : (s : DeltaState) (h : Option ParsedLine) (n : ℕ) → s.fault ≡ None → IsNumbered n h → IsStoredAt n (stored_of (by_parsed s h))
parsed_stored s None n none is = subst (IsStoredAt n) (sym none) tt
parsed_stored s (Some line) n none is = subst (λ (m : ℕ). IsStoredAt m (stored_of (by_parsed s (Some line)))) is (judged_stored s line (kept_fault_under s.block line) none (under_at s.block line))

parsed_number : (l : LexerState) (line : List ℕ) → IsNumbered (number_of l) (parsed_in false false l line)
unfolding parsed_in served
parsed_number l line = by_answer (fed l line) refl
  where
    by_answer : (r : Result (Option Line × LexerState) LexFault) → fed l line ≡ r → IsNumbered (number_of l) (parsed_by false (number_of l) (opening_of (first_line l line)) r)
    by_answer (Ok (None, after)) e = tt
    by_answer (Ok (Some given, after)) e = fed-number l line given after e
    by_answer (Err f) e = refl

module _ (s : DeltaState) (line : List ℕ) (faultless : s.fault ≡ None) where
  abbrev by_place : (ended begun : Bool) → Step
  by_place ended begun = if ended then Ok ([], s) else (if begun then by_physical s line else by_outside s (outside s.lexer line))

  -- a line by where it stands, as long as no fault is stored
  placed : delta_line s line ≡ by_place s.ended s.begun
  unfolding delta_line
  placed = ap (λ (f : Option DeltaFault). unless_stands f (by_where s line)) faultless

  -- a line that was taken leaves no other line open
  pub opens_after : (given : List StatementAt) (after : DeltaState) → s.ended ≡ false → s.lexer.count ≤ most_lines → delta_line s line ≡ Ok (given, after) → IsOpenWithin s.lexer
      → IsOpenWithin after.lexer
  opens_after given after going few e opens = by_begun s.ended s.begun going (sym placed ∙ e)
    where
      by_said : (r : Result (Bool × LexerState) LexFault) → outside s.lexer line ≡ r → by_outside s r ≡ Ok (given, after) → IsOpenWithin after.lexer
      by_said (Ok (begins, l)) is e = subst IsOpenWithin (ap (lexer_of l) e) (none_open l (outside-closed s.lexer l line begins is))
      by_said (Err f) is e = absurd cc

      by_begun : (ended begun : Bool) → ended ≡ false → by_place ended begun ≡ Ok (given, after) → IsOpenWithin after.lexer
      by_begun true begun going e = absurd (false≢true (sym going))
      by_begun false true going e =
          let l : LexerState = state_by s.lexer (fed s.lexer line) in
          subst IsOpenWithin (sym (parsed_lexer (record s { lexer = l }) (parsed_in false false s.lexer line)) ∙ ap (lexer_of l) e) (opens_fed s.lexer line opens few)
      by_begun false false going e = by_said (outside s.lexer line) refl e

  -- a fault that is stored has the number of the line that was handed in
  pub stored_number : (given : List StatementAt) (after : DeltaState) (f : DeltaFault) → delta_line s line ≡ Ok (given, after) → after.fault ≡ Some f → f.line ≡ number_of s.lexer
  stored_number given after f e stored = by_begun s.ended s.begun (sym placed ∙ e)
    where
      at_fault : (r : Step) → r ≡ Ok (given, after) → IsStoredAt (number_of s.lexer) (stored_of r) → f.line ≡ number_of s.lexer
      at_fault r is h = subst (IsStoredAt (number_of s.lexer)) (ap stored_of is ∙ stored) h

      by_said : (r : Result (Bool × LexerState) LexFault) → by_outside s r ≡ Ok (given, after) → f.line ≡ number_of s.lexer
      by_said (Ok (begins, l)) e = at_fault (by_outside s (Ok (begins, l))) e (subst (IsStoredAt (number_of s.lexer)) (sym faultless) tt)
      by_said (Err g) e = absurd cc

      by_begun : (ended begun : Bool) → by_place ended begun ≡ Ok (given, after) → f.line ≡ number_of s.lexer
      by_begun true begun e = at_fault (Ok ([], s)) e (subst (IsStoredAt (number_of s.lexer)) (sym faultless) tt)
      by_begun false true e =
          let l : LexerState = state_by s.lexer (fed s.lexer line) in
          at_fault (by_physical s line) e (parsed_stored (record s { lexer = l }) (parsed_in false false s.lexer line) (number_of s.lexer) faultless (parsed_number s.lexer line))
      by_begun false false e = by_said (outside s.lexer line) e
