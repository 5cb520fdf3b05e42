-- What the lines of a delta file decide, line by line: each that is taken leads on, and each at fault decides.
use Rattle.std.proofs.Common.{◌≡◌, ⊎_elim, ℕ, ◌<◌, Bool, true, false, if◌then◌else◌, List, [], ◌∷◌, ◌++◌, map, length, Option, Some, None, Result, Ok, Err, sym, ap, subst, ◌∙◌, refl}
use Rattle.std.proofs.lemmas.Bool.{false≢true}
use Rattle.coll_devices.specs.Limits.{most_line_bytes}
use Rattle.coll_lex.specs.LogicalLines.{LexerState, OpenLine, number_of, first_line, fed, outside, served, state_by, line_left_open}
use Rattle.coll_lex.specs.declared.faults.LexFault.{LexFault}
use Rattle.coll_lex.specs.declared.faults.LexFault.TheVariants as lex
use Rattle.coll_lex.specs.declared.tokens.Line.{Line}
use Rattle.coll_lex.proofs.LineSteps.{logical_lines-nil}
use Rattle.coll_lex.proofs.LineEnds.{fed-too_long}
use Rattle.coll_table.specs.Delta.{delta}
use Rattle.coll_nodes.specs.Table.{Collation}
use Rattle.coll_lex.proofs.OutsideLines.{outside-too_long}
use Rattle.coll_requests.specs.Parsing.{parsed_in, parsed_by}
use Rattle.coll_requests.specs.SessionLines.{opening_of, delta_file_parsed}
use Rattle.coll_requests.specs.Requests.{BlockLines}
use Rattle.coll_requests.specs.DeltaFiles.{DeltaEnd, DeltaOutcome, Ended, AtFault, Undecided as EndUndecided, at_line, ends_so, after_statements, outcome_within}
use Rattle.coll_requests.specs.DeltaReading.{DeltaState, Step, by_parsed, judged, kept_fault_under, by_physical, by_outside, by_where, unless_faulty as unless_stands, delta_line, early_end, delta_end}
use Rattle.coll_requests.specs.declared.delta_faults.DeltaCause.TheVariants.{Request as RequestCause, NoCategory}
use Rattle.coll_requests.specs.declared.delta_faults.DeltaFault.{DeltaFault}
use Rattle.coll_requests.specs.declared.delta_files.StatementAt.{StatementAt}
use Rattle.coll_requests.specs.declared.open_blocks.OpenBlock.{OpenBlock}
use Rattle.coll_requests.specs.declared.session_lines.Parsed.TheVariants as parsed
use Rattle.coll_requests.specs.declared.request_faults.RequestFault.TheVariants as request
use Rattle.coll_requests.proofs.DeltaSteps.{outcome_before-nil, outcome_within-nil, outcome_within-cons, outcome_from, StandsAfter, CountsOne}
use Rattle.coll_requests.proofs.DeltaSteps.{LeadsOn, IsFaultBehind, Judged, from_within, from_before, from_ended, judged_line}
use Rattle.coll_bench.specs.BatchOutcome.{Decided, delta_fault_in, unless_faulty, judged_at, rewritten, by_ending, by_statements, decision, answer_at_end}
use Rattle.coll_bench.specs.BatchReading.{Taken, unless_stored, by_step, line_taken}
use Rattle.coll_bench.specs.BatchRuns.{DecidesNothing}
use Rattle.coll_faults.specs.declared.faults.RunFault.{RunFault}

module _ (input : ℕ) where
  -- Statements one behind another.

  rewritten_by : (r : Result Collation RunFault) (given later : List StatementAt)
      → ((t : Collation) → rewritten input t (given ++ later) ≡ unless_faulty (rewritten input t given) (λ changed. rewritten input changed later))
      → unless_faulty r (λ t. rewritten input t (given ++ later)) ≡ unless_faulty (unless_faulty r (λ t. rewritten input t given)) (λ changed. rewritten input changed later)
  rewritten_by (Ok t) given later h = h t
  rewritten_by (Err f) given later h = refl

  rewritten-append : (table : Collation) (given later : List StatementAt) → rewritten input table (given ++ later)
      ≡ unless_faulty (rewritten input table given) (λ changed. rewritten input changed later)
  unfolding rewritten
  rewritten-append table [] later = refl
  rewritten-append table (at ∷ given) later = rewritten_by (judged_at input at.line (delta table at.statement)) given later (λ t. rewritten-append t given later)

  decision_by : (r : Result Collation RunFault) (said : DeltaOutcome) → by_statements (unless_faulty r (λ changed. rewritten input changed said.statements)) (by_ending input said.ending)
      ≡ by_statements r (λ changed. by_statements (rewritten input changed said.statements) (by_ending input said.ending))
  decision_by (Ok t) said = refl
  decision_by (Err f) said = refl

  -- statements, and then what later lines say
  pub decided_after : (table : Collation) (given : List StatementAt) (said : DeltaOutcome) → decision input table (after_statements given said)
      ≡ by_statements (rewritten input table given) (λ changed. decision input changed said)
  unfolding decision
  decided_after table given said =
      ap (λ (r : Result Collation RunFault). by_statements r (by_ending input said.ending)) (rewritten-append table given said.statements)
      ∙ decision_by (rewritten input table given) said

  -- lines that say nothing but how they end
  pub decided_end : (table : Collation) (ending : DeltaEnd) → decision input table (ends_so ending) ≡ by_ending input ending table
  unfolding decision rewritten
  decided_end table ending = refl

  -- One line more.

  -- a line was taken, and what the later ones decide, they decide from where it leads
  pub record Leads (block : Option BlockLines) (table changed : Collation) (s : DeltaState) (line : List ℕ) (after : DeltaState) : Type 0 where
    pub next : Option BlockLines
    pub stands : StandsAfter next after
    pub counts : after.ended ≡ false → CountsOne s.lexer after.lexer
    pub decides : (ends : Bool) (lines : List (List ℕ)) → decision input table (outcome_from ends block s (line ∷ lines)) ≡ decision input changed (outcome_from ends next after lines)
    pub given : List StatementAt
    pub step : delta_line s line ≡ Ok (given, after)
    pub says : (ends : Bool) (lines : List (List ℕ)) → outcome_from ends block s (line ∷ lines) ≡ after_statements given (outcome_from ends next after lines)

  -- a line leads on, or it decides, whatever comes behind it
  abbrev pub LineDecides : Option BlockLines → Collation → DeltaState → List ℕ → Taken → Type 0
  LineDecides block table s line (Ok (changed, after)) = Leads block table changed s line after
  LineDecides block table s line (Err ended) = (ends : Bool) (lines : List (List ℕ)) → decision input table (outcome_from ends block s (line ∷ lines)) ≡ Decided (Err ended)

  module _ (block : Option BlockLines) (table : Collation) (s : DeltaState) (line : List ℕ) where
    -- what is decided behind the statements of a line
    said : (given : List StatementAt) (r : Result Collation RunFault) (o later : DeltaOutcome) → rewritten input table given ≡ r → o ≡ after_statements given later
        → decision input table o ≡ by_statements r (λ changed. decision input changed later)
    said given r o later e f = ap (decision input table) f ∙ (decided_after table given later ∙ ap (λ (r : Result Collation RunFault). by_statements r (λ changed. decision input changed later)) e)

    by_table : (given : List StatementAt) (after : DeltaState) (r : Result Collation RunFault) (stored : Option DeltaFault) → rewritten input table given ≡ r → after.fault ≡ stored
        → delta_line s line ≡ Ok (given, after) → Judged block s line (Ok (given, after))
        → LineDecides block table s line (unless_faulty r (λ changed. unless_stored input stored (changed, after)))
    by_table given after (Err f) stored e g step h =
        ⊎_elim (λ (on : LeadsOn block s line given after). λ ends lines. said given (Err f) (outcome_from ends block s (line ∷ lines)) (outcome_from ends on.next after lines) e (on.says ends lines))
        (λ (at : IsFaultBehind block s line given after). λ ends lines. said given (Err f) (outcome_from ends block s (line ∷ lines)) (ends_so (AtFault at.fault)) e (at.says ends lines)) h
    by_table given after (Ok changed) None e g step h =
        ⊎_elim (λ (on : LeadsOn block s line given after). record {
          next = on.next;
          stands = on.stands;
          counts = on.counts;
          decides = λ ends lines. said given (Ok changed) (outcome_from ends block s (line ∷ lines)) (outcome_from ends on.next after lines) e (on.says ends lines);
          given = given;
          step = step;
          says = on.says;
        })
        (λ (at : IsFaultBehind block s line given after). let both : None ≡ Some at.fault = sym g ∙ at.stored in absurd (cc)) h
    by_table given after (Ok changed) (Some f) e g step h =
        ⊎_elim (λ (on : LeadsOn block s line given after). let both : None ≡ Some f = sym on.stands.faultless ∙ g in absurd (cc))
        (λ (at : IsFaultBehind block s line given after). λ ends lines.
        let same : Some at.fault ≡ Some f = sym at.stored ∙ g in
        let is : at.fault ≡ f = cc in
        said given (Ok changed) (outcome_from ends block s (line ∷ lines)) (ends_so (AtFault at.fault)) e (at.says ends lines)
        ∙ (decided_end changed (AtFault at.fault) ∙ ap (λ (f : DeltaFault). Decided (Err (delta_fault_in input f))) is)) h

    by_judged : (r : Step) → delta_line s line ≡ r → Judged block s line r → LineDecides block table s line (by_step input table r)
    by_judged (Ok (given, after)) step h = by_table given after (rewritten input table given) after.fault refl refl step h
    by_judged (Err f) step h = λ ends lines. ap (decision input table) (h ends lines) ∙ decided_end table (AtFault f)

    -- what a line is taken as is what it decides
    pub line_decides : StandsAfter block s → LineDecides block table s line (line_taken input table s line)
    unfolding line_taken
    line_decides stands = by_judged (delta_line s line) refl (judged_line block s line stands)

  module _ (block : Option BlockLines) (table : Collation) (s : DeltaState) (stands : StandsAfter block s) where
    -- A line that is too long.

    abbrev long_fault : DeltaFault
    long_fault = at_line (number_of s.lexer) (RequestCause (request.Lex lex.LineTooLong))

    long_judged : (b : Option OpenBlock) (n : ℕ) (t : DeltaState) → t.block ≡ b → judged t (record { number = n; parsed = parsed.Stops lex.LineTooLong })
        (kept_fault_under b (record { number = n; parsed = parsed.Stops lex.LineTooLong })) ≡ Err (at_line n (RequestCause (request.Lex lex.LineTooLong)))
    long_judged None n t e = refl
    long_judged (Some b) n t e = refl

    long_physical : (line : List ℕ) → most_line_bytes < length line → by_physical s line ≡ Err long_fault
    unfolding parsed_in served
    long_physical line long =
        ap (λ (r : Result (Option Line × LexerState) LexFault).
        by_parsed (record s { lexer = state_by s.lexer (fed s.lexer line) }) (parsed_by false (number_of s.lexer) (opening_of (first_line s.lexer line)) r)) (fed-too_long s.lexer line long)
        ∙ long_judged s.block (number_of s.lexer) (record s { lexer = state_by s.lexer (fed s.lexer line) }) refl

    long_by : (line : List ℕ) → most_line_bytes < length line → (ended begun : Bool) → ended ≡ false
        → (if ended then Ok ([], s) else (if begun then by_physical s line else by_outside s (outside s.lexer line))) ≡ Err long_fault
    long_by line long true begun e = absurd (false≢true (sym e))
    long_by line long false true e = long_physical line long
    long_by line long false false e = ap (by_outside s) (outside-too_long s.lexer line long)

    -- a line that is longer than a line may be is at fault
    pub long_line : (line : List ℕ) → most_line_bytes < length line → s.ended ≡ false → line_taken input table s line ≡ Err (delta_fault_in input long_fault)
    unfolding line_taken delta_line
    long_line line long e = ap (by_step input table) (ap (λ (f : Option DeltaFault). unless_stands f (by_where s line)) stands.faultless ∙ long_by line long s.ended s.begun e)

    -- Where the file ends.

    abbrev early : Option OpenLine → Result Collation RunFault
    early left = Err (delta_fault_in input (early_end s left))

    left_within : (left : Option OpenLine) → s.begun ≡ true → answer_at_end input s.lexer.count (decision input table (outcome_within block (map delta_file_parsed (line_left_open left)))) ≡ early left
    left_within (Some o) e = ap (λ (said : DeltaOutcome). answer_at_end input s.lexer.count (decision input table said)) (left_open block)
        ∙ ap (answer_at_end input s.lexer.count) (decided_end table (AtFault (early_end s (Some o))))
      where
        left_open : (block : Option BlockLines) → outcome_within block (map delta_file_parsed (line_left_open (Some o)))
            ≡ ends_so (AtFault (at_line o.number (RequestCause (request.Lex lex.DanglingEscape))))
        left_open None = outcome_within-cons None _ []
        left_open (Some b) = outcome_within-cons (Some b) _ []
    left_within None e = ap (λ (said : DeltaOutcome). answer_at_end input s.lexer.count (decision input table said)) (outcome_within-nil block)
        ∙ (ap (answer_at_end input s.lexer.count) (decided_end table _) ∙ rw e refl)

    left_before : s.begun ≡ false → answer_at_end input s.lexer.count (by_ending input (EndUndecided NoCategory) table) ≡ early None
    left_before f = rw f refl

    ends_by : (begun : Bool) → s.ended ≡ false → s.begun ≡ begun → answer_at_end input s.lexer.count (decision input table (outcome_from true block s [])) ≡ early s.lexer.line
    ends_by true e f =
        ap (λ (said : DeltaOutcome). answer_at_end input s.lexer.count (decision input table said))
        (from_within true block s [] e f ∙ ap (λ ls. outcome_within block (map delta_file_parsed ls)) (logical_lines-nil [] true s.lexer))
        ∙ left_within s.lexer.line f
    ends_by false e f =
        ap (λ (said : DeltaOutcome). answer_at_end input s.lexer.count (decision input table said)) (from_before true block s [] e f ∙ outcome_before-nil true s.lexer)
        ∙ (ap (answer_at_end input s.lexer.count) (decided_end table _) ∙ (left_before f ∙ ap early (sym (stands.closed f))))

    -- a file that ends before its category does is at fault
    pub ends_here : s.ended ≡ false → answer_at_end input s.lexer.count (decision input table (outcome_from true block s [])) ≡ Err (delta_fault_in input (early_end s s.lexer.line))
    ends_here e = ends_by s.begun e refl

    -- and its reader answers that fault
    pub reader_ends : s.ended ≡ false → delta_end s ≡ Some (early_end s s.lexer.line)
    unfolding delta_end
    reader_ends e = rw stands.faultless (rw e refl)

    undecided_by : (begun : Bool) → s.ended ≡ false → s.begun ≡ begun → DecidesNothing (decision input table (outcome_from false block s []))
    undecided_by true e f =
        subst DecidesNothing (sym (ap (decision input table) (from_within false block s [] e f
        ∙ (ap (λ ls. outcome_within block (map delta_file_parsed ls)) (logical_lines-nil [] false s.lexer) ∙ outcome_within-nil block)) ∙ decided_end table _)) tt
    undecided_by false e f =
        subst DecidesNothing (sym (ap (decision input table) (from_before false block s [] e f ∙ outcome_before-nil false s.lexer) ∙ decided_end table _)) tt

    -- as long as the category hasn't ended, the lines decide nothing
    pub undecided_here : s.ended ≡ false → DecidesNothing (decision input table (outcome_from false block s []))
    undecided_here e = undecided_by s.begun e refl

    -- where it has ended, they give the table
    pub given_here : (ends : Bool) (lines : List (List ℕ)) → s.ended ≡ true → decision input table (outcome_from ends block s lines) ≡ Decided (Ok table)
    given_here ends lines e = ap (decision input table) (from_ended ends block s lines e) ∙ decided_end table Ended

  -- the statements that a line gives stand behind those given before it
  pub line_states : (block : Option BlockLines) (s : DeltaState) (line : List ℕ) (given : List StatementAt) (after : DeltaState) → StandsAfter block s → delta_line s line ≡ Ok (given, after)
      → (later : DeltaOutcome) × (outcome_from false block s (line ∷ []) ≡ after_statements given later)
  line_states block s line given after stands e =
      ⊎_elim (λ (on : LeadsOn block s line given after). (outcome_from false on.next after [], on.says false []))
      (λ (at : IsFaultBehind block s line given after). (ends_so (AtFault at.fault), at.says false []))
      (subst (Judged block s line) e (judged_line block s line stands))
