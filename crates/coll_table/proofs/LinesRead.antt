-- Lines that are handed in one after another are answered as the definition of reading says.
use Rattle.std.proofs.Common.{◌≡◌, ℕ, suc, ◌+◌, Bool, true, false, List, [], ◌∷◌, length, Result, Ok, Err, sym, ap, ◌∙◌, refl, arith}
use Rattle.coll_devices.specs.PhysicalLines.{lines_of}
use Rattle.coll_texts.specs.BuilderStates.{Numbered, table_of}
use Rattle.coll_texts.specs.Loading.{LoaderState, first_loader, loaded_line, loaded, past_line, answer_to}
use Rattle.coll_texts.specs.Reading.{answer_at_end, reads}
use Rattle.coll_texts.specs.declared.load_faults.LoadFault.{LoadFault}
use Rattle.coll_table.proofs.LoadEnds.{loaded_ended, ends_here}
use Rattle.coll_table.proofs.LoadSteps.{outcome_from, StandsAfter, Judged, stands_first, from_ended, judged}

-- whether the category has ended, and what is answered then
reads_ended : (before : List Numbered) (s : LoaderState) (count : ℕ) (lines : List (List ℕ)) → s.ended ≡ true → answer_at_end count (outcome_from true before s lines) ≡ Ok (table_of s.builder)
reads_ended before s count lines e = ap (answer_at_end count) (from_ended true before s lines e)

module _ (count : ℕ) where
  counted_end : (before : List Numbered) (s : LoaderState) (ended : Bool) → StandsAfter before s → s.ended ≡ ended → (s.ended ≡ false → count ≡ s.lexer.count + 0)
      → loaded s ≡ answer_at_end count (outcome_from true before s [])
  counted_end before s true stands e counted = loaded_ended before s stands e ∙ sym (reads_ended before s count [] e)
  counted_end before s false stands e counted =
      let same : s.lexer.count ≡ count = omega (arith, counted e) in
      sym (ends_here before s stands) ∙ ap (λ n. answer_at_end n (outcome_from true before s [])) same

  -- a line, and what handing in those behind it answers
  past_judged : (before : List Numbered) (s : LoaderState) (first : List ℕ) (lines : List (List ℕ)) (r : Result LoaderState LoadFault) → Judged before s first r
      → (s.ended ≡ false → count ≡ s.lexer.count + suc (length lines))
      → ((next : List Numbered) (after : LoaderState) → StandsAfter next after → (after.ended ≡ false → count ≡ after.lexer.count + length lines)
      → answer_to after lines ≡ answer_at_end count (outcome_from true next after lines))
      → past_line r (λ after. answer_to after lines) ≡ answer_at_end count (outcome_from true before s (first ∷ lines))
  past_judged before s first lines (Err fault) h counted later = sym (ap (answer_at_end count) (h true lines))
  past_judged before s first lines (Ok after) h counted later =
      later h.next after h.stands (λ n. let one = h.counts n in omega (arith, one.1, counted (h.went_on n)))
      ∙ sym (ap (answer_at_end count) (h.decides true lines))

  -- what the lines ahead decide is what handing them in answers
  reads_ahead : (lines : List (List ℕ)) (before : List Numbered) (s : LoaderState) → StandsAfter before s → (s.ended ≡ false → count ≡ s.lexer.count + length lines)
      → answer_to s lines ≡ answer_at_end count (outcome_from true before s lines)
  unfolding answer_to
  reads_ahead [] before s stands counted = counted_end before s s.ended stands refl counted
  reads_ahead (first ∷ lines) before s stands counted =
      past_judged before s first lines (loaded_line s first) (judged before s first stands) counted
      (λ next after now one. reads_ahead lines next after now one)

-- handing in the lines of a text answers what the text is
pub lines_read : (text : List ℕ) → answer_to first_loader (lines_of text) ≡ reads text
unfolding reads
lines_read text = reads_ahead (length (lines_of text)) (lines_of text) [] first_loader stands_first (λ n. omega arith)
