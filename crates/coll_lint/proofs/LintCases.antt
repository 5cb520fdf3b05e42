-- How a lint ends, by what a batch answers to the texts, and by what writing answered.
use Rattle.std.proofs.Common.{◌≡◌, inl, inr, ℕ, ◌==◌, ◌||◌, Bool, true, false, if◌then◌else◌, List, [], ◌∷◌, ◌++◌, Option, Some, None, Result, Ok, Err, refl, sym, ap, ◌∙◌, subst, append-nil}
use Rattle.std.specs.Prelude.{IfErr, IfOk}
use Rattle.std.specs.Io.KnownBytes.{Appends}
use Rattle.coll_devices.specs.Devices.{Sends}
use Rattle.coll_nodes.specs.Table.{Collation}
use Rattle.coll_texts.specs.Reading.{reads}
use Rattle.coll_bench.specs.BatchOutcome.{unless_faulty, table_or_fault, after_delta, after_deltas, after_inputs}
use Rattle.coll_bench.specs.BatchReading.{DeltaFails, InputsFail, WritesNone}
use Rattle.coll_bench.specs.BatchRuns.{Ending, ReadFailed, WriteFailed, Starved, Refused, ending_of}
use Rattle.coll_faults.specs.Faults.{fault_number}
use Rattle.coll_bench.specs.Serving.{write_failed}
use Rattle.coll_faults.specs.declared.faults.RunFault.{RunFault}
use Rattle.coll_lint.specs.LintLines.{lint_text}
use Rattle.coll_lint.specs.Lints.{AreGiven, BeginsWith, IsLintOf, LintRuns, LintsTexts, TellsFaults, given_faults, is_at_fault, is_of_no_text}
use Rattle.coll_findings.specs.ToldFaults.{AreOnce, LineFault}
use Rattle.coll_findings.specs.declared.findings.FoundFault.{FoundFault}
use Rattle.coll_findings.proofs.OnceLemmas.{once_none}
use Rattle.coll_lint.specs.declared.lints.Lint.{Lint}

-- a kind of fault that is neither of a read, of a write nor of memory
remaining : (P : Ending → Type 0) (reads lacks writes : Bool) → (reads || lacks) ≡ false → writes ≡ false
    → P (if reads then ReadFailed else (if writes then WriteFailed else (if lacks then Starved else Refused))) → P Refused
remaining P true lacks writes none unwritten p = absurd cc
remaining P false true writes none unwritten p = absurd cc
remaining P false false true none unwritten p = absurd cc
remaining P false false false none unwritten p = p

-- what reading inputs answers is what is judged, unless it is no fault of theirs
pub judges : (table_text : List ℕ) (delta_texts : List (List ℕ)) (left_after : Option (List ℕ)) (lefts_after : List (Option (List ℕ))) (ended : RunFault)
    → InputsFail (ending_of ended) table_text delta_texts left_after lefts_after ended → WritesNone ended → is_of_no_text ended ≡ false
    → after_inputs table_text delta_texts ≡ Err ended
judges table_text delta_texts left_after lefts_after ended fails unwritten none =
    let n = fault_number ended.fault in
    remaining (λ kind. InputsFail kind table_text delta_texts left_after lefts_after ended) (n == 67) (n == 70) (n == 68) none unwritten fails

-- one delta file over a table

one_delta : (table : Collation) (text : List ℕ) (r : Result Collation RunFault) → after_delta 1 table text ≡ r → after_deltas 1 table (text ∷ []) ≡ r
unfolding after_deltas
one_delta table text (Ok changed) e = ap (λ r. unless_faulty r (λ t. after_deltas 2 t [])) e
one_delta table text (Err ended) e = ap (λ r. unless_faulty r (λ t. after_deltas 2 t [])) e

-- what reading it gives
pub one_changed : (table changed : Collation) (text : List ℕ) → after_delta 1 table text ≡ Ok changed → after_deltas 1 table (text ∷ []) ≡ Ok changed
one_changed table changed text e = one_delta table text (Ok changed) e

-- what reading it answers, unless it is no fault of the file
pub judges_delta : (table : Collation) (text : List ℕ) (left : Option (List ℕ)) (ended : RunFault) → DeltaFails (ending_of ended) 1 table text left ended → WritesNone ended
    → is_of_no_text ended ≡ false → after_deltas 1 table (text ∷ []) ≡ Err ended
judges_delta table text left ended fails unwritten none =
    let n = fault_number ended.fault in
    one_delta table text (Err ended) (remaining (λ kind. DeltaFails kind 1 table text left ended) (n == 67) (n == 70) (n == 68) none unwritten fails)

-- A table, and then delta files.

given : (r : Result Collation RunFault) (table : Collation) (texts : List (List ℕ)) → unless_faulty r (λ t. after_deltas 1 t []) ≡ Ok table
    → unless_faulty r (λ t. after_deltas 1 t texts) ≡ after_deltas 1 table texts
unfolding after_deltas
given (Ok read) table texts e = let same : read ≡ table = cc in ap (λ t. after_deltas 1 t texts) same
given (Err ended) table texts e = absurd cc

-- delta files behind a table that its text gives
pub behind_table : (table_text : List ℕ) (table : Collation) (texts : List (List ℕ)) → after_inputs table_text [] ≡ Ok table → after_inputs table_text texts ≡ after_deltas 1 table texts
unfolding after_inputs
behind_table table_text table texts e = given (table_or_fault (reads table_text)) table texts e

faulty : (r : Result Collation RunFault) (ended : RunFault) (texts : List (List ℕ)) → unless_faulty r (λ t. after_deltas 1 t []) ≡ Err ended
    → unless_faulty r (λ t. after_deltas 1 t texts) ≡ Err ended
unfolding after_deltas
faulty (Ok read) ended texts e = absurd cc
faulty (Err first) ended texts e = e

-- delta files behind a table at fault change nothing
pub behind_fault : (table_text : List ℕ) (ended : RunFault) (texts : List (List ℕ)) → after_inputs table_text [] ≡ Err ended → after_inputs table_text texts ≡ Err ended
unfolding after_inputs
behind_fault table_text ended texts e = faulty (table_or_fault (reads table_text)) ended texts e

-- what is told of texts that give a table
pub accepted : (table_text : List ℕ) (delta_texts : List (List ℕ)) (r : Result Lint RunFault) (table : Collation) → after_inputs table_text delta_texts ≡ Ok table
    → IfOk r (λ lint. lint.faults ≡ []) → IfErr r (λ ended. is_of_no_text ended ≡ true) → LintsTexts table_text delta_texts r
accepted table_text delta_texts (Ok lint) table judged none lacks = (
  subst (λ o. TellsFaults o lint.faults) (sym judged) none,
  subst (λ (l : List FoundFault). AreOnce l) (sym none) once_none,
  subst (AreGiven (given_faults (after_inputs table_text []) table_text delta_texts)) (sym none) tt,
)
accepted table_text delta_texts (Err ended) table judged none lacks = lacks

-- what is told of texts that are refused, behind whose first fault these may be told
pub refused : (table_text : List ℕ) (delta_texts : List (List ℕ)) (first : RunFault) (given : List LineFault) (r : Result Lint RunFault)
    → (is_of_no_text first ≡ false → after_inputs table_text delta_texts ≡ Err first)
    → (is_of_no_text first ≡ false → given_faults (after_inputs table_text []) table_text delta_texts ≡ given)
    → IfOk r (λ lint. is_of_no_text first ≡ false) → IfOk r (λ lint. BeginsWith first lint.faults) → IfOk r (λ lint. AreOnce lint.faults)
    → IfOk r (λ lint. AreGiven given lint.faults) → IfErr r (λ ended. is_of_no_text ended ≡ true) → LintsTexts table_text delta_texts r
refused table_text delta_texts first given (Ok lint) judged gives text begins once are lacks =
    (subst (λ o. TellsFaults o lint.faults) (sym (judged text)) begins, once, subst (λ (g : List LineFault). AreGiven g lint.faults) (sym (gives text)) are)
refused table_text delta_texts first given (Err ended) judged gives text begins once are lacks = lacks

-- bytes behind those that are known
appended : (a c : Option (List ℕ)) (before bytes : List ℕ) → a ≡ Some before → Appends a c bytes → c ≡ Some (before ++ bytes)
appended None c before bytes e h = absurd (cc)
appended (Some l) None before bytes e h = absurd h
appended (Some l) (Some m) before bytes e h = let same : l ≡ before = cc in ap Some (h ∙ ap (λ l. l ++ bytes) same)

module _ (names : List (List ℕ)) (table_text : List ℕ) (delta_texts : List (List ℕ)) (taken : Option (List ℕ)) where
  -- nothing is written where there is nothing to be told
  pub stopped_runs : (ended : RunFault) → is_of_no_text ended ≡ true → LintRuns names table_text delta_texts taken taken (Err ended)
  stopped_runs ended none before e = ([], e ∙ ap Some (sym (append-nil before)), inl (none, refl))

  -- what was written, by what writing answered
  pub told_runs : (taken_after : Option (List ℕ)) (lint : Lint) (r : Result Bool RunFault) → IsLintOf table_text delta_texts lint → Sends taken taken_after (lint_text names lint) r
      → IfOk r (λ at_fault. at_fault ≡ is_at_fault lint) → IfErr r (λ ended. ended ≡ write_failed) → LintRuns names table_text delta_texts taken taken_after r
  told_runs taken_after lint (Ok at_fault) told sent ok fault before e = (lint_text names lint, appended taken taken_after before _ e sent, (lint, told, refl, ok))
  told_runs taken_after lint (Err ended) told sent ok fault before e = (sent.0, appended taken taken_after before sent.0 e sent.3, inr (fault, lint, sent.1, told, sent.2))
