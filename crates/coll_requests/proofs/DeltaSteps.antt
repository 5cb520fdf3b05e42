-- What the lines of a delta file that are still to come say, from where a reader stands: each line that is handed in leaves it
-- as it is.
use Rattle.std.proofs.Common.{◌≡◌, ◌⊎◌, inl, inr, ⊎_elim, ℕ, ◌≤◌, Bool, true, false, if◌then◌else◌, List, [], ◌∷◌, ◌++◌, map, Option, Some, None, Result, Ok, Err, sym, ap, subst, ◌∙◌, refl, arith}
use Rattle.std.proofs.lemmas.Bool.{false≢true}
use Rattle.std.specs.Prelude.{option_map, option_to_list}
use Rattle.coll_lex.specs.Limits.{most_lines}
use Rattle.coll_lex.specs.LogicalLines.{LexerState, number_of, first_line, dropped, fed, outside, served, state_by, lines_by, logical_lines}
use Rattle.coll_lex.specs.declared.tokens.Line.{Line}
use Rattle.coll_lex.specs.declared.faults.LexFault.{LexFault}
use Rattle.coll_lex.proofs.LineEnds.{fed-one}
pub use Rattle.coll_lex.proofs.LineEnds.{CountsOne}
use Rattle.coll_lex.proofs.OutsideLines.{outside-one, outside-closed}
use Rattle.coll_requests.specs.SessionLines.{opening_of, tokens_parsed, fault_parsed, delta_file_parsed}
use Rattle.coll_requests.specs.Parsing.{parsed_by, parsed_in}
use Rattle.coll_requests.specs.Requests.{BlockLines, requests_at, block_after}
use Rattle.coll_requests.specs.OpenBlocks.{kept_after, kept_requests_at, kept}
use Rattle.coll_requests.specs.DeltaFiles.{DeltaOutcome, Ended, AtFault, Undecided, at_line, file_fault, ends_so, after_statements}
use Rattle.coll_requests.specs.DeltaFiles.{statements_in, fault_under, ended_before, ends_category, by_fault, outcome_within, outcome_before}
use Rattle.coll_requests.specs.DeltaReading.{DeltaState, first_delta, IsUnspoiled, Step, kept_fault_under, kept_ended_before, faulty}
use Rattle.coll_requests.specs.DeltaReading.{judged, by_parsed, by_outside, by_physical, by_where, unless_faulty, delta_line}
use Rattle.coll_requests.specs.declared.delta_faults.DeltaFault.{DeltaFault}
use Rattle.coll_requests.specs.declared.delta_faults.DeltaCause.TheVariants.{Request as RequestCause, NoCategory, NoEnd}
use Rattle.coll_requests.specs.declared.delta_files.StatementAt.{StatementAt}
use Rattle.coll_requests.specs.declared.open_blocks.OpenBlock.{OpenBlock}
use Rattle.coll_requests.specs.declared.session_lines.Opening.{Opening}
use Rattle.coll_requests.specs.declared.session_lines.Parsed.{Parsed}
use Rattle.coll_requests.specs.declared.session_lines.Parsed.TheVariants as parsed
use Rattle.coll_requests.specs.declared.session_lines.ParsedLine.{ParsedLine}
use Rattle.coll_requests.specs.declared.request_faults.RequestFault.TheVariants as fault
use Rattle.coll_requests.specs.declared.requests.FaultAt.{FaultAt}
use Rattle.coll_requests.proofs.BlockLemmas.{kept_step, requests_step}
use Rattle.coll_requests.proofs.DeltaBlocks.{fault_step, ended_step}
use Rattle.coll_requests.proofs.DeltaTaking.{physical_by, fault_parsed_is, unspoiled_after}

-- The definition, one line on.

pub outcome_before-nil : (ends : Bool) (s : LexerState) → outcome_before ends s [] ≡ ends_so (Undecided NoCategory)
unfolding outcome_before
outcome_before-nil ends s = refl

outcome_before-past : (ends : Bool) (s after : LexerState) (line : List ℕ) (lines : List (List ℕ)) → outside s line ≡ Ok (false, after)
    → outcome_before ends s (line ∷ lines) ≡ outcome_before ends after lines
unfolding outcome_before
outcome_before-past ends s after line lines e = rw e refl

outcome_before-found : (ends : Bool) (s after : LexerState) (line : List ℕ) (lines : List (List ℕ)) → outside s line ≡ Ok (true, after)
    → outcome_before ends s (line ∷ lines) ≡ outcome_within None (map delta_file_parsed (logical_lines [] ends after lines))
unfolding outcome_before
outcome_before-found ends s after line lines e = rw e refl

outcome_before-fault : (ends : Bool) (s : LexerState) (line : List ℕ) (lines : List (List ℕ)) (f : LexFault) → outside s line ≡ Err f
    → outcome_before ends s (line ∷ lines) ≡ ends_so (AtFault (at_line (number_of s) (RequestCause (fault.Lex f))))
unfolding outcome_before
outcome_before-fault ends s line lines f e = rw e refl

pub outcome_within-nil : (block : Option BlockLines) → outcome_within block [] ≡ ends_so (Undecided NoEnd)
unfolding outcome_within
outcome_within-nil block = refl

pub outcome_within-cons : (block : Option BlockLines) (line : ParsedLine) (lines : List ParsedLine)
    → outcome_within block (line ∷ lines) ≡ by_fault block line (fault_under block line) (outcome_within (block_after block line) lines)
unfolding outcome_within
outcome_within-cons block line lines = refl

-- what is parsed of logical lines is what is parsed of the first physical line, and of the others
parsed_ahead : (ends : Bool) (s : LexerState) (line : List ℕ) (lines : List (List ℕ))
    → map delta_file_parsed (logical_lines [] ends s (line ∷ lines)) ≡ option_to_list (parsed_in false false s line) ++ map delta_file_parsed (logical_lines [] ends (state_by s (fed s line)) lines)
unfolding logical_lines served parsed_in
parsed_ahead ends s line lines = by_answer (fed s line)
  where
    by_answer : (r : Result (Option Line × LexerState) LexFault)
        → map delta_file_parsed (lines_by s line r ++ logical_lines [] ends (state_by s r) lines) ≡ option_to_list (parsed_by false (number_of s) (opening_of (first_line s line)) r)
        ++ map delta_file_parsed (logical_lines [] ends (state_by s r) lines)
    by_answer (Ok (None, after)) = refl
    by_answer (Ok (Some given, after)) = refl
    by_answer (Err f) = refl

-- What is still to be said.

-- what the rest of the lines says, under the block that is open before them
abbrev pub outcome_from : (ends : Bool) → Option BlockLines → DeltaState → List (List ℕ) → DeltaOutcome
outcome_from ends block s lines =
    if s.ended then ends_so Ended
    else (if s.begun then outcome_within block (map delta_file_parsed (logical_lines [] ends s.lexer lines))
    else outcome_before ends s.lexer lines)

-- this block is open, what is kept of it is stored, and no fault is; before the category no block and no logical line is open
pub record StandsAfter (block : Option BlockLines) (s : DeltaState) : Type 0 where
  pub stored : s.block ≡ option_map kept block
  pub sound : IsUnspoiled s.block
  pub faultless : s.fault ≡ None
  pub none_before : s.begun ≡ false → block ≡ None
  pub closed : s.begun ≡ false → s.lexer.line ≡ None
  pub few : s.lexer.count ≤ most_lines

-- a line was taken, and what the later ones say is said behind what was given for it
pub record LeadsOn (block : Option BlockLines) (s : DeltaState) (taken : List ℕ) (given : List StatementAt) (after : DeltaState) : Type 0 where
  pub next : Option BlockLines
  pub stands : StandsAfter next after
  pub went_on : after.ended ≡ false → s.ended ≡ false
  pub counts : after.ended ≡ false → CountsOne s.lexer after.lexer
  pub says : (ends : Bool) (lines : List (List ℕ)) → outcome_from ends block s (taken ∷ lines) ≡ after_statements given (outcome_from ends next after lines)

-- a line is at fault behind the statement that was given for it, and says so with all later ones
pub record IsFaultBehind (block : Option BlockLines) (s : DeltaState) (taken : List ℕ) (given : List StatementAt) (after : DeltaState) : Type 0 where
  pub fault : DeltaFault
  pub stored : after.fault ≡ Some fault
  pub says : (ends : Bool) (lines : List (List ℕ)) → outcome_from ends block s (taken ∷ lines) ≡ after_statements given (ends_so (AtFault fault))

-- a line is taken, or is at fault
abbrev pub Judged : Option BlockLines → DeltaState → List ℕ → Step → Type 0
Judged block s taken (Ok (given, after)) = LeadsOn block s taken given after ⊎ IsFaultBehind block s taken given after
Judged block s taken (Err f) = (ends : Bool) (lines : List (List ℕ)) → outcome_from ends block s (taken ∷ lines) ≡ ends_so (AtFault f)

pub stands_first : StandsAfter None first_delta
stands_first = record { stored = refl; sound = tt; faultless = refl; none_before = λ _. refl; closed = λ _. refl; few = omega arith }

pub from_ended : (ends : Bool) (block : Option BlockLines) (s : DeltaState) (lines : List (List ℕ)) → s.ended ≡ true → outcome_from ends block s lines ≡ ends_so Ended
from_ended ends block s lines e = rw e refl

pub from_within : (ends : Bool) (block : Option BlockLines) (s : DeltaState) (lines : List (List ℕ)) → s.ended ≡ false → s.begun ≡ true
    → outcome_from ends block s lines ≡ outcome_within block (map delta_file_parsed (logical_lines [] ends s.lexer lines))
from_within ends block s lines e f = rw e (rw f refl)

pub from_before : (ends : Bool) (block : Option BlockLines) (s : DeltaState) (lines : List (List ℕ)) → s.ended ≡ false → s.begun ≡ false
    → outcome_from ends block s lines ≡ outcome_before ends s.lexer lines
from_before ends block s lines e f = rw e (rw f refl)

-- a line that the lexer refuses is at fault
at_fault : (b : Option OpenBlock) (n : ℕ) (o : Opening) (f : LexFault) → kept_fault_under b (record { number = n; parsed = fault_parsed o f }) ≡ None → ⊥
at_fault b n o f none =
    ⊎_elim (λ (is : fault_parsed o f ≡ parsed.Stops f). stops b (subst (λ (h : Parsed). kept_fault_under b (record { number = n; parsed = h }) ≡ None) is none))
    (λ (is : fault_parsed o f ≡ parsed.Refused o (fault.Lex f)). refused b (subst (λ (h : Parsed). kept_fault_under b (record { number = n; parsed = h }) ≡ None) is none)) (fault_parsed_is o f)
  where
    stops : (b : Option OpenBlock) → kept_fault_under b (record { number = n; parsed = parsed.Stops f }) ≡ None → ⊥
    stops None e = cc
    stops (Some block) e = cc

    refused : (b : Option OpenBlock) → kept_fault_under b (record { number = n; parsed = parsed.Refused o (fault.Lex f) }) ≡ None → ⊥
    refused None e = cc
    refused (Some block) e = cc

-- One line more.

module _ (block : Option BlockLines) (s : DeltaState) (taken : List ℕ) (stands : StandsAfter block s) where
  -- behind the category
  judged_behind : s.ended ≡ true → Judged block s taken (Ok ([], s))
  judged_behind e = inl (record {
    next = block;
    stands = stands;
    went_on = λ n. n;
    counts = λ n. absurd (false≢true (sym n ∙ e));
    says = λ ends lines. from_ended ends block s (taken ∷ lines) e ∙ sym (from_ended ends block s lines e);
  })

  module _ (going : s.ended ≡ false) where
    -- before the category
    judged_outside : (r : Result (Bool × LexerState) LexFault) → s.begun ≡ false → outside s.lexer taken ≡ r → Judged block s taken (by_outside s r)
    judged_outside (Ok (true, after)) none e =
        let counts = outside-one s.lexer after taken true e stands.few in
        inl (record {
          next = block;
          stands = record {
            stored = stands.stored;
            sound = stands.sound;
            faultless = stands.faultless;
            none_before = λ n. absurd (false≢true (sym n));
            closed = λ n. absurd (false≢true (sym n));
            few = omega (arith, counts.0, counts.1);
          };
          went_on = λ n. going;
          counts = λ n. counts;
          says = λ ends lines.
              from_before ends block s (taken ∷ lines) going none
              ∙ (outcome_before-found ends s.lexer after taken lines e
              ∙ (ap (λ b. outcome_within b (map delta_file_parsed (logical_lines [] ends after lines))) (sym (stands.none_before none))
              ∙ sym (from_within ends block (record s { lexer = after; begun = true }) lines going refl)));
        })
    judged_outside (Ok (false, after)) none e =
        let counts = outside-one s.lexer after taken false e stands.few in
        inl (record {
          next = block;
          stands = record {
            stored = stands.stored;
            sound = stands.sound;
            faultless = stands.faultless;
            none_before = λ n. stands.none_before none;
            closed = λ n. outside-closed s.lexer after taken false e;
            few = omega (arith, counts.0, counts.1);
          };
          went_on = λ n. going;
          counts = λ n. counts;
          says = λ ends lines.
              from_before ends block s (taken ∷ lines) going none
              ∙ (outcome_before-past ends s.lexer after taken lines e
              ∙ sym (from_before ends block (record s { lexer = after; begun = false }) lines going refl));
        })
    judged_outside (Err f) none e = λ ends lines.
        from_before ends block s (taken ∷ lines) going none ∙ outcome_before-fault ends s.lexer taken lines f e

    module _ (within : s.begun ≡ true) where
      -- what the lines say from one of the category on
      ahead : (h : Option ParsedLine) (after : LexerState) → parsed_in false false s.lexer taken ≡ h → state_by s.lexer (fed s.lexer taken) ≡ after → (ends : Bool) (lines : List (List ℕ))
          → outcome_from ends block s (taken ∷ lines) ≡ outcome_within block (option_to_list h ++ map delta_file_parsed (logical_lines [] ends after lines))
      ahead h after e f ends lines =
          from_within ends block s (taken ∷ lines) going within
          ∙ (ap (outcome_within block) (parsed_ahead ends s.lexer taken lines)
          ∙ (ap (λ (o : Option ParsedLine). outcome_within block (option_to_list o ++ map delta_file_parsed (logical_lines [] ends (state_by s.lexer (fed s.lexer taken)) lines))) e
          ∙ ap (λ (t : LexerState). outcome_within block (option_to_list h ++ map delta_file_parsed (logical_lines [] ends t lines))) f))

      -- a line that ends no logical line
      judged_none : (after : LexerState) → parsed_in false false s.lexer taken ≡ None → state_by s.lexer (fed s.lexer taken) ≡ after → CountsOne s.lexer after
          → Judged block s taken (Ok ([], record s { lexer = after }))
      judged_none after e f counts = inl (record {
        next = block;
        stands = record {
          stored = stands.stored;
          sound = stands.sound;
          faultless = stands.faultless;
          none_before = stands.none_before;
          closed = λ n. absurd (false≢true (sym n ∙ within));
          few = omega (arith, counts.0, counts.1);
        };
        went_on = λ n. going;
        counts = λ n. counts;
        says = λ ends lines. ahead None after e f ends lines ∙ sym (from_within ends block (record s { lexer = after }) lines going within);
      })

      module _ (line : ParsedLine) (after : LexerState) (e : parsed_in false false s.lexer taken ≡ Some line) (f : state_by s.lexer (fed s.lexer taken) ≡ after) where
        -- the fault of the line by the block and by what is kept of it
        same_fault : kept_fault_under s.block line ≡ fault_under block line
        same_fault =
            ap (λ (b : Option OpenBlock). kept_fault_under b line) stands.stored ∙ fault_step block line (subst IsUnspoiled stands.stored stands.sound)

        says_by : (at : Option FaultAt) → kept_fault_under s.block line ≡ at → (ends : Bool) (lines : List (List ℕ))
            → outcome_from ends block s (taken ∷ lines) ≡ by_fault block line at (outcome_within (block_after block line) (map delta_file_parsed (logical_lines [] ends after lines)))
        says_by at g ends lines =
            ahead (Some line) after e f ends lines
            ∙ (outcome_within-cons block line (map delta_file_parsed (logical_lines [] ends after lines))
            ∙ ap (λ (o : Option FaultAt). by_fault block line o (outcome_within (block_after block line) (map delta_file_parsed (logical_lines [] ends after lines)))) (sym same_fault ∙ g))

        -- the statement that comes before its fault
        ended_for : statements_in (ended_before block line.parsed) ≡ statements_in (kept_ended_before s.block line.parsed)
        ended_for = ap statements_in (sym (ap (λ (b : Option OpenBlock). kept_ended_before b line.parsed) stands.stored ∙ ended_step block line.parsed))

        says_fault : (at : FaultAt) (given : List StatementAt) → kept_fault_under s.block line ≡ Some at → statements_in (kept_ended_before s.block line.parsed) ≡ given
            → (ends : Bool) (lines : List (List ℕ))
            → outcome_from ends block s (taken ∷ lines) ≡ after_statements given (ends_so (AtFault (file_fault at)))
        says_fault at given g same ends lines = says_by (Some at) g ends lines ∙ ap (λ (us : List StatementAt). after_statements us (ends_so (AtFault (file_fault at)))) (ended_for ∙ same)

        -- a line at fault
        judged_fault : (at : FaultAt) (given : List StatementAt) → kept_fault_under s.block line ≡ Some at → statements_in (kept_ended_before s.block line.parsed) ≡ given
            → Judged block s taken (faulty (record s { lexer = after }) (file_fault at) given)
        judged_fault at [] g same = says_fault at [] g same
        judged_fault at (first ∷ more) g same = inr (record { fault = file_fault at; stored = refl; says = says_fault at (first ∷ more) g same })

        -- the statement that it gives
        given_for : statements_in (requests_at block line) ≡ statements_in (kept_requests_at s.block line)
        given_for = ap statements_in (sym (ap (λ (b : Option OpenBlock). kept_requests_at b line) stands.stored ∙ requests_step block line))

        -- a line without a fault
        judged_accepted : (ended : Bool) → kept_fault_under s.block line ≡ None → ends_category line.parsed ≡ ended → CountsOne s.lexer after
            → LeadsOn block s taken (statements_in (kept_requests_at s.block line)) (record s { lexer = after; block = kept_after s.block line; ended = ended })
        judged_accepted ended g is counts = record {
          next = block_after block line;
          stands = record {
            stored = ap (λ (b : Option OpenBlock). kept_after b line) stands.stored ∙ kept_step block line;
            sound = unspoiled_after s.block line stands.sound g;
            faultless = stands.faultless;
            none_before = λ n. absurd (false≢true (sym n ∙ within));
            closed = λ n. absurd (false≢true (sym n ∙ within));
            few = omega (arith, counts.0, counts.1);
          };
          went_on = λ n. going;
          counts = λ n. counts;
          says = λ ends lines. says_by None g ends lines ∙ (ap (λ (us : List StatementAt). after_statements us (unless_ended ends lines)) given_for
              ∙ ap (after_statements (statements_in (kept_requests_at s.block line))) (later ended is ends lines));
        } where
          unless_ended : Bool → List (List ℕ) → DeltaOutcome
          unless_ended ends lines = if ends_category line.parsed then ends_so Ended else outcome_within (block_after block line) (map delta_file_parsed (logical_lines [] ends after lines))

          later : (ended : Bool) → ends_category line.parsed ≡ ended → (ends : Bool) (lines : List (List ℕ))
              → (if ends_category line.parsed then ends_so Ended else outcome_within (block_after block line) (map delta_file_parsed (logical_lines [] ends after lines)))
              ≡ outcome_from ends (block_after block line) (record s { lexer = after; block = kept_after s.block line; ended = ended }) lines
          later true is ends lines = rw is refl
          later false is ends lines = rw is (sym (from_within ends (block_after block line) (record s { lexer = after; block = kept_after s.block line; ended = false }) lines refl within))

        judged_parsed : (at : Option FaultAt) → kept_fault_under s.block line ≡ at → (at ≡ None → CountsOne s.lexer after) → Judged block s taken (judged (record s { lexer = after }) line at)
        judged_parsed (Some at) g counts = judged_fault at _ g refl
        judged_parsed None g counts = inl (judged_accepted (ends_category line.parsed) g refl (counts refl))

      -- a physical line of the category
      judged_within : Judged block s taken (by_physical s taken)
      unfolding parsed_in served
      judged_within = by_answer (fed s.lexer taken) refl
        where
          counts : (answer : Option Line) (after : LexerState) → fed s.lexer taken ≡ Ok (answer, after) → CountsOne s.lexer after
          counts answer after e = fed-one s.lexer taken answer after e stands.few

          parsed_as : Result (Option Line × LexerState) LexFault → Option ParsedLine
          parsed_as r = parsed_by false (number_of s.lexer) (opening_of (first_line s.lexer taken)) r

          is_physical : (r : Result (Option Line × LexerState) LexFault) → fed s.lexer taken ≡ r → by_physical s taken ≡ by_parsed (record s { lexer = state_by s.lexer r }) (parsed_as r)
          is_physical r e = physical_by s (state_by s.lexer r) taken (parsed_as r) (record { parsed_is = ap parsed_as e; stands = ap (state_by s.lexer) (sym e) })

          by_answer : (r : Result (Option Line × LexerState) LexFault) → fed s.lexer taken ≡ r → Judged block s taken (by_physical s taken)
          by_answer (Ok (None, after)) e =
              subst (Judged block s taken) (sym (is_physical (Ok (None, after)) e)) (judged_none after (ap parsed_as e) (ap (state_by s.lexer) e) (counts None after e))
          by_answer (Ok (Some given, after)) e =
              let line : ParsedLine = record { number = given.number; parsed = tokens_parsed false (opening_of (first_line s.lexer taken)) given.tokens } in
              subst (Judged block s taken) (sym (is_physical (Ok (Some given, after)) e))
              (judged_parsed line after (ap parsed_as e) (ap (state_by s.lexer) e) (kept_fault_under s.block line) refl (λ _. counts (Some given) after e))
          by_answer (Err f) e =
              let line : ParsedLine = record { number = number_of s.lexer; parsed = fault_parsed (opening_of (first_line s.lexer taken)) f } in
              subst (Judged block s taken) (sym (is_physical (Err f) e))
              (judged_parsed line (dropped s.lexer) (ap parsed_as e) (ap (state_by s.lexer) e) (kept_fault_under s.block line) refl
              (λ none. absurd (at_fault s.block line.number (opening_of (first_line s.lexer taken)) f none)))

  judged_where : (ended begun : Bool) → s.ended ≡ ended → s.begun ≡ begun
      → Judged block s taken (if ended then Ok ([], s) else (if begun then by_physical s taken else by_outside s (outside s.lexer taken)))
  judged_where true begun e f = judged_behind e
  judged_where false true e f = judged_within e f
  judged_where false false e f = judged_outside e (outside s.lexer taken) f refl

  -- a line that is handed in
  pub judged_line : Judged block s taken (delta_line s taken)
  unfolding delta_line
  judged_line = subst (λ (f : Option DeltaFault). Judged block s taken (unless_faulty f (by_where s taken))) (sym stands.faultless) (judged_where s.ended s.begun refl refl)
