-- What the lines that are still to come decide, from where a loader stands: each line that is handed in leaves it as it is.
use Rattle.std.proofs.Common.{◌≡◌, ℕ, ◌≤◌, Bool, true, false, if◌then◌else◌, List, [], ◌∷◌, ◌++◌, Option, Some, None, Result, Ok, Err, sym, ap, subst, ◌∙◌, refl, arith}
use Rattle.std.proofs.lemmas.Bool.{false≢true}
use Rattle.coll_lex.specs.LogicalLines.{LexerState, LogicalLine, number_of, fed, outside, logical_lines}
use Rattle.coll_lex.specs.Limits.{most_lines}
use Rattle.coll_lex.specs.declared.tokens.Line.{Line}
use Rattle.coll_lex.specs.declared.faults.LexFault.{LexFault}
use Rattle.coll_lex.proofs.LineSteps.{logical_lines-none, logical_lines-whole, logical_lines-fault}
pub use Rattle.coll_lex.proofs.LineEnds.{CountsOne}
use Rattle.coll_lex.proofs.LineEnds.{fed-one}
use Rattle.coll_lex.proofs.OutsideLines.{outside-one, outside-closed}
use Rattle.coll_syntax.specs.TableLines.{table_line}
use Rattle.coll_syntax.specs.declared.lines.TableLine.{TableLine}
use Rattle.coll_syntax.specs.declared.syntax_faults.SyntaxFault.{SyntaxFault}
use Rattle.coll_texts.specs.BuilderStates.{Numbered, state_of, table_of, with_own_weights, line_fault, is_end}
use Rattle.coll_texts.specs.Loading.{LoaderState, first_loader, state_after, by_outside, by_fed, by_read, taken_line, by_where, unless_faulty, loaded_line}
use Rattle.coll_texts.specs.Reading.{Outcome, Decided, Undecided, at_fault, accepted, line_judged, by_grammar, by_tokens, outcome_within, outcome_before}
use Rattle.coll_texts.specs.declared.load_faults.LoadFault.{LoadFault}
use Rattle.coll_texts.specs.declared.load_faults.LoadCause.TheVariants.{Lex, NoCategory, NoEnd}
use Rattle.coll_texts.proofs.StateSteps.{state_more}
use Rattle.coll_texts.proofs.EndedStates.{own_at_end}
use Rattle.coll_table.proofs.LineNumbers.{IsOpenWithin, none_open, fed_within}

-- The definition of reading, one line on.

-- without a line nothing is decided
pub outcome_before-nil : (ends : Bool) (s : LexerState) → outcome_before ends s [] ≡ Undecided NoCategory
unfolding outcome_before
outcome_before-nil ends s = refl

-- a line at which the category doesn't begin leaves it to the later ones
outcome_before-past : (ends : Bool) (s after : LexerState) (line : List ℕ) (lines : List (List ℕ)) → outside s line ≡ Ok (false, after)
    → outcome_before ends s (line ∷ lines) ≡ outcome_before ends after lines
unfolding outcome_before
outcome_before-past ends s after line lines e = rw e refl

-- a line at which it begins leaves it to the logical lines behind it
outcome_before-found : (ends : Bool) (s after : LexerState) (line : List ℕ) (lines : List (List ℕ)) → outside s line ≡ Ok (true, after)
    → outcome_before ends s (line ∷ lines) ≡ outcome_within [] (logical_lines [] ends after lines)
unfolding outcome_before
outcome_before-found ends s after line lines e = rw e refl

-- a line at fault decides
outcome_before-fault : (ends : Bool) (s : LexerState) (line : List ℕ) (lines : List (List ℕ)) (fault : LexFault) → outside s line ≡ Err fault
    → outcome_before ends s (line ∷ lines) ≡ at_fault (number_of s) (Lex fault)
unfolding outcome_before
outcome_before-fault ends s line lines fault e = rw e refl

-- without a line of the category nothing is decided
pub outcome_within-nil : (before : List Numbered) → outcome_within before [] ≡ Undecided NoEnd
unfolding outcome_within
outcome_within-nil before = refl

-- the first line of the category decides, or leaves it to the later ones
pub outcome_within-cons : (before : List Numbered) (line : LogicalLine) (lines : List LogicalLine)
    → outcome_within before (line ∷ lines) ≡ by_tokens line.number before line.tokens (λ read. outcome_within (before ++ read ∷ []) lines)
unfolding outcome_within
outcome_within-cons before line lines = refl

-- What is still to be decided.

-- what the rest of the lines decides: nothing where the category has ended; in it, by the lines that were accepted
abbrev pub outcome_from : (ends : Bool) → List Numbered → LoaderState → List (List ℕ) → Outcome
outcome_from ends before s lines =
    if s.ended then Decided (Ok (table_of s.builder))
    else (if s.begun then outcome_within before (logical_lines [] ends s.lexer lines)
    else outcome_before ends s.lexer lines)

-- these lines were accepted, what they say is stored, until the category ends, and no fault is; before the category there are
-- none, and no logical line is open; one that is open is one of the lines handed in
pub record StandsAfter (before : List Numbered) (s : LoaderState) : Type 0 where
  pub said : s.ended ≡ false → s.builder ≡ state_of before
  pub faultless : s.fault ≡ None
  pub none_before : s.begun ≡ false → before ≡ []
  pub closed : s.begun ≡ false → s.lexer.line ≡ None
  pub few : s.lexer.count ≤ most_lines
  pub opens : IsOpenWithin s.lexer

-- a line was taken, and what the later ones decide is what it decides with them
pub record LeadsOn (before : List Numbered) (s : LoaderState) (taken : List ℕ) (after : LoaderState) : Type 0 where
  pub next : List Numbered
  pub stands : StandsAfter next after
  pub went_on : after.ended ≡ false → s.ended ≡ false
  pub counts : after.ended ≡ false → CountsOne s.lexer after.lexer
  pub decides : (ends : Bool) (lines : List (List ℕ)) → outcome_from ends before s (taken ∷ lines) ≡ outcome_from ends next after lines

-- a line is taken, or its fault is what it decides with all later ones
abbrev pub Judged : List Numbered → LoaderState → List ℕ → Result LoaderState LoadFault → Type 0
Judged before s taken (Ok after) = LeadsOn before s taken after
Judged before s taken (Err fault) = (ends : Bool) (lines : List (List ℕ)) → outcome_from ends before s (taken ∷ lines) ≡ Decided (Err fault)

-- the first line of a text has all of it before it
pub stands_first : StandsAfter [] first_loader
stands_first = record { said = λ _. refl; faultless = refl; none_before = λ _. refl; closed = λ _. refl; few = omega arith; opens = none_open first_loader.lexer refl }

pub from_ended : (ends : Bool) (before : List Numbered) (s : LoaderState) (lines : List (List ℕ)) → s.ended ≡ true → outcome_from ends before s lines ≡ Decided (Ok (table_of s.builder))
from_ended ends before s lines e = rw e refl

pub from_within : (ends : Bool) (before : List Numbered) (s : LoaderState) (lines : List (List ℕ)) → s.ended ≡ false → s.begun ≡ true
    → outcome_from ends before s lines ≡ outcome_within before (logical_lines [] ends s.lexer lines)
from_within ends before s lines e f = rw e (rw f refl)

pub from_before : (ends : Bool) (before : List Numbered) (s : LoaderState) (lines : List (List ℕ)) → s.ended ≡ false → s.begun ≡ false
    → outcome_from ends before s lines ≡ outcome_before ends s.lexer lines
from_before ends before s lines e f = rw e (rw f refl)

-- One line more.

module _ (before : List Numbered) (s : LoaderState) (taken : List ℕ) (stands : StandsAfter before s) where
  -- behind the category
  judged_behind : s.ended ≡ true → Judged before s taken (Ok s)
  judged_behind e = record {
    next = before;
    stands = stands;
    went_on = λ n. n;
    counts = λ n. absurd (false≢true (sym n ∙ e));
    decides = λ ends lines. from_ended ends before s (taken ∷ lines) e ∙ sym (from_ended ends before s lines e);
  }

  module _ (going : s.ended ≡ false) where
    -- before the category
    judged_outside : (r : Result (Bool × LexerState) LexFault) → s.begun ≡ false → outside s.lexer taken ≡ r → Judged before s taken (by_outside s r)
    judged_outside (Ok (true, after)) none e =
        let counts = outside-one s.lexer after taken true e stands.few in
        record {
          next = before;
          stands = record {
            said = stands.said;
            faultless = stands.faultless;
            none_before = λ n. absurd (false≢true (sym n));
            closed = λ n. absurd (false≢true (sym n));
            few = omega (arith, counts.0, counts.1);
            opens = none_open after (outside-closed s.lexer after taken true e);
          };
          went_on = λ n. going;
          counts = λ n. counts;
          decides = λ ends lines.
              from_before ends before s (taken ∷ lines) going none
              ∙ (outcome_before-found ends s.lexer after taken lines e
              ∙ (ap (λ b. outcome_within b (logical_lines [] ends after lines)) (sym (stands.none_before none))
              ∙ sym (from_within ends before (record s { lexer = after; begun = true }) lines going refl)));
        }
    judged_outside (Ok (false, after)) none e =
        let counts = outside-one s.lexer after taken false e stands.few in
        record {
          next = before;
          stands = record {
            said = stands.said;
            faultless = stands.faultless;
            none_before = λ n. stands.none_before none;
            closed = λ n. outside-closed s.lexer after taken false e;
            few = omega (arith, counts.0, counts.1);
            opens = none_open after (outside-closed s.lexer after taken false e);
          };
          went_on = λ n. going;
          counts = λ n. counts;
          decides = λ ends lines.
              from_before ends before s (taken ∷ lines) going none
              ∙ (outcome_before-past ends s.lexer after taken lines e
              ∙ sym (from_before ends before (record s { lexer = after; begun = false }) lines going refl));
        }
    judged_outside (Err fault) none e = λ ends lines.
        from_before ends before s (taken ∷ lines) going none ∙ outcome_before-fault ends s.lexer taken lines fault e

    module _ (within : s.begun ≡ true) where
      -- a line of the category that ends no logical line
      judged_none : (after : LexerState) → fed s.lexer taken ≡ Ok (None, after) → Judged before s taken (Ok (record s { lexer = after }))
      judged_none after e =
          let counts = fed-one s.lexer taken None after e stands.few in
          record {
            next = before;
            stands = record {
              said = stands.said;
              faultless = stands.faultless;
              none_before = stands.none_before;
              closed = λ n. absurd (false≢true (sym n ∙ within));
              few = omega (arith, counts.0, counts.1);
              opens = fed_within s.lexer after taken None stands.opens stands.few e;
            };
            went_on = λ n. going;
            counts = λ n. counts;
            decides = λ ends lines.
                from_within ends before s (taken ∷ lines) going within
                ∙ (ap (outcome_within before) (logical_lines-none [] ends s.lexer taken lines after refl e)
                ∙ sym (from_within ends before (record s { lexer = after }) lines going within));
          }

      -- a line of the category that the lexer refuses
      judged_lexed : (fault : LexFault) → fed s.lexer taken ≡ Err fault → (ends : Bool) (lines : List (List ℕ)) → outcome_from ends before s (taken ∷ lines) ≡ at_fault (number_of s.lexer) (Lex fault)
      judged_lexed fault e ends lines =
          from_within ends before s (taken ∷ lines) going within
          ∙ (ap (outcome_within before) (logical_lines-fault [] ends s.lexer taken lines fault refl e)
          ∙ outcome_within-cons before _ _)

      module _ (given : Line) (after : LexerState) (e : fed s.lexer taken ≡ Ok (Some given, after)) where
        -- what a logical line decides that is given, by what the grammar says
        by_said : (said : Result TableLine SyntaxFault) → table_line given.tokens ≡ said → (ends : Bool) (lines : List (List ℕ)) → outcome_from ends before s (taken ∷ lines)
            ≡ by_grammar given.number before said (λ n. outcome_within (before ++ n ∷ []) (logical_lines [] ends after lines))
        by_said said f ends lines =
            from_within ends before s (taken ∷ lines) going within
            ∙ (ap (outcome_within before) (logical_lines-whole [] ends s.lexer taken lines given after refl e)
            ∙ (outcome_within-cons before _ _
            ∙ ap (λ r. by_grammar given.number before r (λ n. outcome_within (before ++ n ∷ []) (logical_lines [] ends after lines))) f))

        -- the same with the lines before, by what they say
        by_judgement : (n : Numbered) (fault : Option LoadFault) → n.number ≡ given.number → table_line given.tokens ≡ Ok n.line → line_fault s.builder n ≡ fault
            → (ends : Bool) (lines : List (List ℕ)) → outcome_from ends before s (taken ∷ lines) ≡ line_judged before n fault (outcome_within (before ++ n ∷ []) (logical_lines [] ends after lines))
        by_judgement n fault same f g ends lines =
            by_said (Ok n.line) f ends lines
            ∙ (ap (λ number. by_grammar number before (Ok n.line) (λ m. outcome_within (before ++ m ∷ []) (logical_lines [] ends after lines))) (sym same)
            ∙ ap (λ c. line_judged before n c (outcome_within (before ++ n ∷ []) (logical_lines [] ends after lines))) (ap (λ d. line_fault d n) (sym (stands.said going)) ∙ g))

        accepted_by : (n : Numbered) (ended : Bool) (later : Outcome) → is_end n.line ≡ ended
            → accepted before n later ≡ (if ended then Decided (Ok (table_of (with_own_weights (state_of before)))) else later)
        accepted_by n ended later is = rw is refl

        -- a line that is accepted
        judged_accepted : (n : Numbered) (ended : Bool) → n.number ≡ given.number → table_line given.tokens ≡ Ok n.line → line_fault s.builder n ≡ None → is_end n.line ≡ ended
            → LeadsOn before s taken (record s { lexer = after; builder = state_after s.builder n; ended = ended })
        judged_accepted n ended same f g is =
            let counts = fed-one s.lexer taken (Some given) after e stands.few in
            record {
              next = before ++ n ∷ [];
              stands = record {
                said = λ none. ap (λ d. state_after d n) (stands.said going) ∙ sym (state_more before n (is ∙ none));
                faultless = stands.faultless;
                none_before = λ none. absurd (false≢true (sym none ∙ within));
                closed = λ none. absurd (false≢true (sym none ∙ within));
                few = omega (arith, counts.0, counts.1);
                opens =
                    fed_within s.lexer after taken (Some given) stands.opens stands.few e;
              };
              went_on = λ none. going;
              counts = λ none. counts;
              decides = λ ends lines. by_judgement n None same f g ends lines ∙ (accepted_by n ended _ is ∙ decides ended is ends lines);
            } where
              decides : (ended : Bool) → is_end n.line ≡ ended → (ends : Bool) (lines : List (List ℕ))
                  → (if ended then Decided (Ok (table_of (with_own_weights (state_of before)))) else outcome_within (before ++ n ∷ []) (logical_lines [] ends after lines))
                  ≡ outcome_from ends (before ++ n ∷ []) (record s { lexer = after; builder = state_after s.builder n; ended = ended }) lines
              decides true is ends lines = ap (λ d. Decided (Ok (table_of d))) (ap with_own_weights (sym (stands.said going)) ∙ sym (own_at_end s.builder n.number n.line is))
              decides false is ends lines = sym (from_within ends (before ++ n ∷ []) (record s { lexer = after; builder = state_after s.builder n; ended = false }) lines refl within)

        judged_line : (n : Numbered) (fault : Option LoadFault) → n.number ≡ given.number → table_line given.tokens ≡ Ok n.line → line_fault s.builder n ≡ fault
            → Judged before s taken (taken_line (record s { lexer = after }) n fault)
        judged_line n (Some fault) same f g = λ ends lines. by_judgement n (Some fault) same f g ends lines
        judged_line n None same f g = judged_accepted n (is_end n.line) same f g refl

        judged_read : (said : Result TableLine SyntaxFault) → table_line given.tokens ≡ said → Judged before s taken (by_read (record s { lexer = after }) given.number said)
        judged_read (Ok read) f = judged_line (record { number = given.number; line = read }) (line_fault s.builder (record { number = given.number; line = read })) refl f refl
        judged_read (Err fault) f = λ ends lines. by_said (Err fault) f ends lines

      -- a line of the category
      judged_within : (r : Result (Option Line × LexerState) LexFault) → fed s.lexer taken ≡ r → Judged before s taken (by_fed s r)
      judged_within (Ok (None, after)) e = judged_none after e
      judged_within (Ok (Some given, after)) e = judged_read given after e (table_line given.tokens) refl
      judged_within (Err fault) e = judged_lexed fault e

  judged_where : (ended begun : Bool) → s.ended ≡ ended → s.begun ≡ begun
      → Judged before s taken (if ended then Ok s else (if begun then by_fed s (fed s.lexer taken) else by_outside s (outside s.lexer taken)))
  judged_where true begun e f = judged_behind e
  judged_where false true e f = judged_within e f (fed s.lexer taken) refl
  judged_where false false e f = judged_outside e (outside s.lexer taken) f refl

  -- a line that is handed in
  pub judged : Judged before s taken (loaded_line s taken)
  unfolding loaded_line
  judged = subst (λ fault. Judged before s taken (unless_faulty fault (by_where s taken))) (sym stands.faultless) (judged_where s.ended s.begun refl refl)
