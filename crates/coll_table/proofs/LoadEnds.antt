-- What a loader answers where a text ends, or stops, is what the lines decide.
use Rattle.std.proofs.Common.{◌≡◌, ℕ, ◌<◌, Bool, true, false, if◌then◌else◌, List, [], length, Option, Some, None, Ok, Err, sym, ap, subst, ◌∙◌, refl}
use Rattle.std.proofs.lemmas.Bool.{false≢true}
use Rattle.coll_lex.specs.LogicalLines.{OpenLine, number_of, fed, outside, first_of, line_left_open}
use Rattle.coll_devices.specs.Limits.{most_line_bytes}
use Rattle.coll_lex.specs.declared.faults.LexFault.TheVariants as lex
use Rattle.coll_lex.proofs.LineSteps.{logical_lines-nil}
use Rattle.coll_lex.proofs.LineEnds.{fed-too_long}
use Rattle.coll_lex.proofs.OutsideLines.{outside-too_long}
use Rattle.coll_texts.specs.BuilderStates.{Numbered, table_of, at_line}
use Rattle.coll_texts.specs.Loading.{LoaderState, by_outside, by_fed, by_where, unless_faulty, loaded_line, early_end, loaded}
use Rattle.coll_table.specs.Loads.{IsUndecided}
use Rattle.coll_texts.specs.Reading.{Decided, Undecided, outcome_within, answer_at_end}
use Rattle.coll_texts.specs.declared.load_faults.LoadCause.TheVariants.{Lex, NoCategory}
use Rattle.coll_table.proofs.LoadSteps.{outcome_before-nil, outcome_within-nil, outcome_within-cons, outcome_from, StandsAfter, from_ended, from_within, from_before}

module _ (before : List Numbered) (s : LoaderState) (stands : StandsAfter before s) where
  -- where the category has ended, the table is the answer
  pub loaded_ended : s.ended ≡ true → loaded s ≡ Ok (table_of s.builder)
  unfolding loaded
  loaded_ended e = rw stands.faultless (rw e refl)

  -- and else the fault of an early end
  loaded_early : (left : Option OpenLine) → s.ended ≡ false → s.lexer.line ≡ left → loaded s ≡ Err (early_end s left)
  unfolding loaded
  loaded_early left e f = rw stands.faultless (rw e (rw f refl))

  left_open : (o : OpenLine) → outcome_within before (line_left_open (Some o)) ≡ Decided (Err (at_line o.number (Lex lex.DanglingEscape)))
  left_open o = outcome_within-cons before (record { number = o.number; first = first_of o.lines; tokens = Err lex.DanglingEscape }) []

  left_within : (left : Option OpenLine) → s.begun ≡ true → answer_at_end s.lexer.count (outcome_within before (line_left_open left)) ≡ Err (early_end s left)
  left_within (Some o) e = ap (answer_at_end s.lexer.count) (left_open o)
  left_within None e = ap (answer_at_end s.lexer.count) (outcome_within-nil before) ∙ rw e refl

  left_before : s.begun ≡ false → answer_at_end s.lexer.count (Undecided NoCategory) ≡ Err (early_end s None)
  left_before e = rw e refl

  by_place : (ended begun : Bool) → s.ended ≡ ended → s.begun ≡ begun → answer_at_end s.lexer.count (outcome_from true before s []) ≡ loaded s
  by_place true begun e f = ap (answer_at_end s.lexer.count) (from_ended true before s [] e) ∙ sym (loaded_ended e)
  by_place false true e f =
      ap (answer_at_end s.lexer.count) (from_within true before s [] e f ∙ ap (outcome_within before) (logical_lines-nil [] true s.lexer))
      ∙ (left_within s.lexer.line f ∙ sym (loaded_early s.lexer.line e refl))
  by_place false false e f =
      ap (answer_at_end s.lexer.count) (from_before true before s [] e f ∙ outcome_before-nil true s.lexer)
      ∙ (left_before f ∙ sym (loaded_early None e (stands.closed f)))

  -- where the text ends, the answer is what the lines decided, or that they decided nothing
  pub ends_here : answer_at_end s.lexer.count (outcome_from true before s []) ≡ loaded s
  ends_here = by_place s.ended s.begun refl refl

  undecided_by : (begun : Bool) → s.ended ≡ false → s.begun ≡ begun → IsUndecided (outcome_from false before s [])
  undecided_by true e f = subst IsUndecided (sym (from_within false before s [] e f ∙ (ap (outcome_within before) (logical_lines-nil [] false s.lexer) ∙ outcome_within-nil before))) tt
  undecided_by false e f = subst IsUndecided (sym (from_before false before s [] e f ∙ outcome_before-nil false s.lexer)) tt

  -- as long as the category hasn't ended, the lines decide nothing
  pub undecided_here : s.ended ≡ false → IsUndecided (outcome_from false before s [])
  undecided_here e = undecided_by s.begun e refl

  long_by : (line : List ℕ) → most_line_bytes < length line → (ended begun : Bool) → ended ≡ false
      → (if ended then Ok s else (if begun then by_fed s (fed s.lexer line) else by_outside s (outside s.lexer line))) ≡ Err (at_line (number_of s.lexer) (Lex lex.LineTooLong))
  long_by line long true begun e = absurd (false≢true (sym e))
  long_by line long false true e = ap (by_fed s) (fed-too_long s.lexer line long)
  long_by line long false false e = ap (by_outside s) (outside-too_long s.lexer line long)

  -- a line that is longer than a line may be is at fault
  pub long_line : (line : List ℕ) → most_line_bytes < length line → s.ended ≡ false → loaded_line s line ≡ Err (at_line (number_of s.lexer) (Lex lex.LineTooLong))
  unfolding loaded_line
  long_line line long e = ap (λ fault. unless_faulty fault (by_where s line)) stands.faultless ∙ long_by line long s.ended s.begun e
