-- The lines of a delta file that are handed in one after another are answered as the definition says.
use Rattle.std.proofs.Common.{◌≡◌, ℕ, suc, ◌+◌, Bool, true, false, if◌then◌else◌, List, [], ◌∷◌, ◌++◌, map, length, Option, Some, None, Ok, Err, sym, ap, ◌∙◌, refl, ⊎_elim, arith}
use Rattle.coll_lex.specs.LogicalLines.{OpenLine, line_left_open}
use Rattle.coll_lex.specs.declared.faults.LexFault.TheVariants as lex
use Rattle.coll_lex.proofs.LineSteps.{logical_lines-nil}
use Rattle.coll_requests.specs.SessionLines.{delta_file_parsed}
use Rattle.coll_requests.specs.Requests.{BlockLines}
use Rattle.coll_requests.specs.DeltaFiles.{DeltaOutcome, AtFault, Undecided, DeltaRequests, at_line, ends_so, after_statements, fault_at_end, outcome_within, delta_outcome, delta_requests}
use Rattle.coll_requests.specs.DeltaReading.{DeltaState, first_delta, Step, by_where, unless_faulty, delta_line, early_end}
use Rattle.coll_requests.specs.DeltaReading.{delta_end, past_line, answers_to, end_from, past_line_from, answers_from}
use Rattle.coll_requests.specs.declared.delta_faults.DeltaFault.{DeltaFault}
use Rattle.coll_requests.specs.declared.delta_faults.DeltaCause.TheVariants.{Request as RequestCause, NoCategory, NoEnd}
use Rattle.coll_requests.specs.declared.delta_files.StatementAt.{StatementAt}
use Rattle.coll_requests.specs.declared.request_faults.RequestFault.TheVariants as fault
use Rattle.coll_requests.proofs.DeltaSteps.{outcome_before-nil, outcome_within-nil, outcome_within-cons, outcome_from, StandsAfter, LeadsOn}
use Rattle.coll_requests.proofs.DeltaSteps.{IsFaultBehind, Judged, stands_first, from_ended, from_within, from_before, judged_line}

-- what an outcome says of a file of so many lines
abbrev said_by : ℕ → DeltaOutcome → DeltaRequests
said_by count o = record { statements = o.statements; fault = fault_at_end count o.ending }

-- Where the file ends.

module _ (block : Option BlockLines) (s : DeltaState) (stands : StandsAfter block s) where
  ended_well : s.ended ≡ true → delta_end s ≡ None
  unfolding delta_end
  ended_well e = rw stands.faultless (rw e refl)

  ended_early : (left : Option OpenLine) → s.ended ≡ false → s.lexer.line ≡ left → delta_end s ≡ Some (early_end s left)
  unfolding delta_end
  ended_early left e f = rw stands.faultless (rw e (rw f refl))

  left_open : (block : Option BlockLines) (o : OpenLine) → outcome_within block (map delta_file_parsed (line_left_open (Some o)))
      ≡ ends_so (AtFault (at_line o.number (RequestCause (fault.Lex lex.DanglingEscape))))
  left_open None o = outcome_within-cons None _ []
  left_open (Some b) o = outcome_within-cons (Some b) _ []

  left_within : (left : Option OpenLine) → s.begun ≡ true → said_by s.lexer.count (outcome_within block (map delta_file_parsed (line_left_open left)))
      ≡ record { statements = []; fault = Some (early_end s left) }
  left_within (Some o) e = ap (said_by s.lexer.count) (left_open block o)
  left_within None e = ap (said_by s.lexer.count) (outcome_within-nil block) ∙ rw e refl

  left_before : s.begun ≡ false → said_by s.lexer.count (ends_so (Undecided NoCategory)) ≡ record { statements = []; fault = Some (early_end s None) }
  left_before e = rw e refl

  abbrev no_more : Option DeltaFault → DeltaRequests
  no_more f = record { statements = []; fault = f }

  by_place : (ended begun : Bool) → s.ended ≡ ended → s.begun ≡ begun → said_by s.lexer.count (outcome_from true block s []) ≡ no_more (delta_end s)
  by_place true begun e f = ap (said_by s.lexer.count) (from_ended true block s [] e) ∙ ap no_more (sym (ended_well e))
  by_place false true e f =
      ap (said_by s.lexer.count) (from_within true block s [] e f ∙ ap (λ ls. outcome_within block (map delta_file_parsed ls)) (logical_lines-nil [] true s.lexer))
      ∙ (left_within s.lexer.line f ∙ ap no_more (sym (ended_early s.lexer.line e refl)))
  by_place false false e f =
      ap (said_by s.lexer.count) (from_before true block s [] e f ∙ outcome_before-nil true s.lexer)
      ∙ (left_before f ∙ ap no_more (sym (ended_early None e (stands.closed f))))

  -- where the category has ended, no count of lines matters
  ended_any : (count : ℕ) → s.ended ≡ true → said_by count (outcome_from true block s []) ≡ no_more (delta_end s)
  ended_any count e = ap (said_by count) (from_ended true block s [] e) ∙ ap no_more (sym (ended_well e))

  ends_counted : (count : ℕ) (ended : Bool) → s.ended ≡ ended → (s.ended ≡ false → count ≡ s.lexer.count + 0) → no_more (delta_end s) ≡ said_by count (outcome_from true block s [])
  ends_counted count true e counted = sym (ended_any count e)
  ends_counted count false e counted =
      let same : s.lexer.count ≡ count = omega (arith, counted e) in
      sym (by_place s.ended s.begun refl refl) ∙ ap (λ n. said_by n (outcome_from true block s [])) same

-- A fault that stands is the answer.

faulty_line : (s : DeltaState) (f : DeltaFault) (line : List ℕ) → s.fault ≡ Some f → delta_line s line ≡ Err f
unfolding delta_line
faulty_line s f line e = ap (λ (o : Option DeltaFault). unless_faulty o (by_where s line)) e

faulty_end : (s : DeltaState) (f : DeltaFault) → s.fault ≡ Some f → delta_end s ≡ Some f
unfolding delta_end
faulty_end s f e = rw e refl

answers_faulty : (s : DeltaState) (f : DeltaFault) (lines : List (List ℕ)) → s.fault ≡ Some f → answers_to s lines ≡ record { statements = []; fault = Some f }
unfolding answers_to
answers_faulty s f [] e = ap (λ (o : Option DeltaFault). record { statements = []; fault = o }) (faulty_end s f e)
answers_faulty s f (line ∷ lines) e = ap (λ (r : Step). past_line r (λ after. answers_to after lines)) (faulty_line s f line e)

-- The lines ahead.

-- some statements, and then what is answered to later lines
abbrev behind : List StatementAt → DeltaRequests → DeltaRequests
behind given later = record { statements = given ++ later.statements; fault = later.fault }

module _ (count : ℕ) where
  past_judged : (block : Option BlockLines) (s : DeltaState) (first : List ℕ) (lines : List (List ℕ)) (r : Step) → Judged block s first r
      → (s.ended ≡ false → count ≡ s.lexer.count + suc (length lines))
      → ((next : Option BlockLines) (after : DeltaState) → StandsAfter next after → (after.ended ≡ false → count ≡ after.lexer.count + length lines)
      → answers_to after lines ≡ said_by count (outcome_from true next after lines))
      → past_line r (λ after. answers_to after lines) ≡ said_by count (outcome_from true block s (first ∷ lines))
  past_judged block s first lines (Err f) h counted later = sym (ap (said_by count) (h true lines))
  past_judged block s first lines (Ok (given, after)) h counted later =
      ⊎_elim
      (λ (on : LeadsOn block s first given after).
      ap (behind given) (later on.next after on.stands (λ n. let one = on.counts n in omega (arith, one.1, counted (on.went_on n)))) ∙ sym (ap (said_by count) (on.says true lines)))
      (λ (at : IsFaultBehind block s first given after). ap (behind given) (answers_faulty after at.fault lines at.stored) ∙ sym (ap (said_by count) (at.says true lines))) h

  -- what the lines ahead say is what handing them in answers
  reads_ahead : (lines : List (List ℕ)) (block : Option BlockLines) (s : DeltaState) → StandsAfter block s → (s.ended ≡ false → count ≡ s.lexer.count + length lines)
      → answers_to s lines ≡ said_by count (outcome_from true block s lines)
  unfolding answers_to
  reads_ahead [] block s stands counted = ends_counted block s stands count s.ended refl counted
  reads_ahead (first ∷ lines) block s stands counted =
      past_judged block s first lines (delta_line s first) (judged_line block s first stands) counted
      (λ next after now one. reads_ahead lines next after now one)

-- handing in the lines of a delta file answers what the file says
pub lines_read : (lines : List (List ℕ)) → answers_to first_delta lines ≡ delta_requests lines
unfolding delta_requests
lines_read lines = reads_ahead (length lines) lines None first_delta stands_first (λ n. omega arith)

-- Where the end of the file isn't seen.

faulty_from : (s : DeltaState) (f : DeltaFault) (lines : List (List ℕ)) → s.fault ≡ Some f → answers_from s lines ≡ ends_so (AtFault f)
unfolding answers_from
faulty_from s f [] e = ap (λ (o : Option DeltaFault). ends_so (end_from s o)) e
faulty_from s f (line ∷ lines) e = ap (λ (r : Step). past_line_from r (λ after. answers_from after lines)) (faulty_line s f line e)

undecided : (block : Option BlockLines) (s : DeltaState) (begun : Bool) → StandsAfter block s → s.ended ≡ false → s.begun ≡ begun
    → end_from s s.fault ≡ Undecided (if begun then NoEnd else NoCategory)
undecided block s begun stands e f = rw stands.faultless (rw e (rw f refl))

stops_here : (block : Option BlockLines) (s : DeltaState) (ended begun : Bool) → StandsAfter block s → s.ended ≡ ended → s.begun ≡ begun
    → ends_so (end_from s s.fault) ≡ outcome_from false block s []
stops_here block s true begun stands e f = rw stands.faultless (rw e refl)
stops_here block s false true stands e f =
    ap ends_so (undecided block s true stands e f)
    ∙ sym (from_within false block s [] e f ∙ (ap (λ ls. outcome_within block (map delta_file_parsed ls)) (logical_lines-nil [] false s.lexer) ∙ outcome_within-nil block))
stops_here block s false false stands e f = ap ends_so (undecided block s false stands e f) ∙ sym (from_before false block s [] e f ∙ outcome_before-nil false s.lexer)

past_taken : (block : Option BlockLines) (s : DeltaState) (first : List ℕ) (lines : List (List ℕ)) (r : Step) → Judged block s first r
    → ((next : Option BlockLines) (after : DeltaState) → StandsAfter next after → answers_from after lines ≡ outcome_from false next after lines)
    → past_line_from r (λ after. answers_from after lines) ≡ outcome_from false block s (first ∷ lines)
past_taken block s first lines (Err f) h later = sym (h false lines)
past_taken block s first lines (Ok (given, after)) h later =
    ⊎_elim (λ (on : LeadsOn block s first given after). ap (after_statements given) (later on.next after on.stands) ∙ sym (on.says false lines))
    (λ (at : IsFaultBehind block s first given after). ap (after_statements given) (faulty_from after at.fault lines at.stored) ∙ sym (at.says false lines)) h

taken_ahead : (lines : List (List ℕ)) (block : Option BlockLines) (s : DeltaState) → StandsAfter block s → answers_from s lines ≡ outcome_from false block s lines
unfolding answers_from
taken_ahead [] block s stands = stops_here block s s.ended s.begun stands refl refl
taken_ahead (first ∷ lines) block s stands = past_taken block s first lines (delta_line s first) (judged_line block s first stands) (λ next after now. taken_ahead lines next after now)

-- handing in the first lines of a delta file answers what these say
pub lines_taken : (lines : List (List ℕ)) → answers_from first_delta lines ≡ delta_outcome false lines
lines_taken lines = taken_ahead lines None first_delta stands_first
