-- The texts of words that are read line by line: a line more, one that is refused, and the end.
use Rattle.std.proofs.Common.{◌≡◌, ℕ, suc, ◌+◌, List, [], ◌∷◌, ◌++◌, length, Option, Some, None, Result, Ok, Err}
use Rattle.std.proofs.Common.{sym, ap, subst, ◌∙◌, arith, length-append}
use Rattle.std.specs.Prelude.{false, OnOk}
use Rattle.coll_devices.specs.LineReading.{ReaderState, Advances, GivesLine}
use Rattle.coll_devices.specs.declared.stops.ReadStop.{ReadStop}
use Rattle.coll_key.specs.KeyLimits.{is_too_long}
use Rattle.coll_bench.specs.BatchReading.{FailsAs, stopped_in}
use Rattle.coll_bench.specs.BatchRuns.{ending_of}
use Rattle.coll_faults.specs.declared.faults.RunFault.{RunFault}
use Rattle.coll_word_lists.specs.WordReading.{WordsFail}
use Rattle.coll_word_lists.specs.WordTexts.{TakesText}
use Rattle.coll_word_lists.specs.Words.{line_word}
use Rattle.coll_word_lists.proofs.TextWords.{OnWay, goes_on, refused, stopped}

-- a line that is taken, where its text is put behind others
pub takes_text : (old new : List (List ℕ)) (line text : List ℕ) (r : Result (Unit {0}) RunFault) → OnOk r (new ≡ old ++ text ∷ []) → OnOk r (is_too_long text ≡ false)
    → (is_too_long text ≡ false → line_word (length old) line ≡ Ok text) → OnOk r (TakesText old line new)
takes_text old new line text (Ok done) puts short is = (text, is short, puts)
takes_text old new line text (Err ended) puts short is = tt

module _ (old new : List (List ℕ)) (line : List ℕ) (takes : TakesText old line new) where
  -- a text more
  pub text_longer : length new ≡ length old + 1
  text_longer = omega (arith, ap length takes.2, length-append old (takes.0 ∷ []))

  pub text_on : (start : Option (List ℕ)) (reader after : ReaderState) (left left_after : Option (List ℕ)) (failed failed_after : ℕ) → OnWay start reader left old
      → GivesLine reader after left left_after failed failed_after → line ≡ after.line → OnWay start after left_after new
  text_on start reader after left left_after failed failed_after way gives same =
      subst (OnWay start after left_after) (sym takes.2)
      (goes_on start reader left old way after left_after failed failed_after takes.0 gives (ap (line_word (length old)) (sym same) ∙ takes.1))

module _ (texts : List (List ℕ)) (start : Option (List ℕ)) (reader after : ReaderState) (left left_after : Option (List ℕ)) (failed failed_after : ℕ) (way : OnWay start reader left texts) where
  -- a line that is refused
  pub text_refused : (line : List ℕ) (ended : RunFault) → GivesLine reader after left left_after failed failed_after → line ≡ after.line
      → FailsAs (ending_of ended) (line_word (length texts) line) ended → ended.line ≡ length texts + 1 → (text : List ℕ) → start ≡ Some text → WordsFail (ending_of ended) text left_after ended
  text_refused line ended gives same fails number =
      refused start reader left texts way after left_after failed failed_after ended gives
      (subst (λ (line : List ℕ). FailsAs (ending_of ended) (line_word (length texts) line) ended) same fails) number

  -- a reader that stops
  pub text_stopped : (number : ℕ) (why : ReadStop) → number ≡ length texts + 1 → reader.stop ≡ None → Advances reader after left left_after failed failed_after (Err why)
      → (text : List ℕ) → start ≡ Some text → WordsFail (ending_of (stopped_in 0 number why)) text left_after (stopped_in 0 number why)
  text_stopped number why is none stops text e =
      let same : suc (length texts) ≡ number = omega (arith, is) in
      subst (λ (n : ℕ). WordsFail (ending_of (stopped_in 0 n why)) text left_after (stopped_in 0 n why)) same
      (stopped start reader left texts way after left_after failed failed_after why none stops text e)
