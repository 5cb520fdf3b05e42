-- What is told of texts: what a batch answers to them says whether they have a fault, and which one is told first (the project's own).
use Rattle.std.specs.Prelude.{◌≡◌, ◌⊎◌, ◌<◌, ◌==◌, ◌&&◌, ◌||◌, ℕ, Bool, true, false, nat_lt, Option, Some, Result, Ok, Err}
use Rattle.std.specs.Prelude.{List, [], ◌∷◌, ◌++◌, All, length}
use Rattle.std.specs.List.{remove}
use Rattle.coll_nodes.specs.Table.{Collation}
use Rattle.coll_nodes.specs.TableLayout.{TableValue, collation}
use Rattle.coll_bench.specs.BatchOutcome.{after_deltas, after_inputs}
use Rattle.coll_faults.specs.Faults.{fault_number}
use Rattle.coll_bench.specs.Serving.{write_failed}
use Rattle.coll_faults.specs.declared.faults.RunFault.{RunFault}
use Rattle.coll_lint.specs.LintLines.{lint_text}
use Rattle.coll_findings.specs.ToldFaults.{AreOnce, LineFault, number_told, told_fault}
use Rattle.coll_surveys.specs.DeltaSurveys.{delta_faults}
use Rattle.coll_surveys.specs.TableWeights.{table_faults}
use Rattle.coll_findings.specs.declared.findings.FoundFault.{FoundFault}
use Rattle.coll_lint.specs.declared.lints.Lint.{Lint}

-- this fault is told first
abbrev pub BeginsWith : RunFault → List FoundFault → Type 0
BeginsWith first faults = (told : FoundFault) × (later : List FoundFault) × (faults ≡ told ∷ later) × (told.fault ≡ first)

-- these are the faults that a survey tells, of which at most one is left out
abbrev pub AreOthers : (old new : List FoundFault) → Type 0
AreOthers old new = (new ≡ old) ⊎ ((place : ℕ) × (place < length old) × (new ≡ remove old place))

-- this fault stands before those that a survey tells, of which at most one is left out, which is the same
abbrev pub IsPutFirst : RunFault → (old new : List FoundFault) → Type 0
IsPutFirst first old new =
    (told : FoundFault) × (later : List FoundFault) × (new ≡ told ∷ later) × (told.fault ≡ first) × AreOthers old later

-- a fault that a survey found is the one that a batch answers: it has its input and its number, and its line is that of its statement, or
-- its own
abbrev pub is_answered : RunFault → FoundFault → Bool
is_answered first found =
    ((found.fault.line == first.line) || (found.line == first.line))
    && ((found.fault.input == first.input) && (number_told found == fault_number first.fault))

-- the faults that are told where texts give a table, and there are none; or where a batch answers a fault, which is told first
abbrev pub TellsFaults : Result Collation RunFault → List FoundFault → Type 0
TellsFaults (Ok table) faults = faults ≡ []
TellsFaults (Err first) faults = BeginsWith first faults

-- a fault of a line is one of these
abbrev pub IsOneOf : LineFault → (given : List LineFault) → Type 0
IsOneOf f given = (before : List LineFault) × (later : List LineFault) × (given ≡ before ++ f ∷ later)

-- each fault that is told behind the first is one of these
abbrev pub AreGiven : (given : List LineFault) → List FoundFault → Type 0
AreGiven given [] = Unit {0}
AreGiven given (first ∷ later) = All (λ found. IsOneOf (told_fault found) given) later

-- what judging each line of texts gives, over what the lines before it left: of the table, or, where that is without fault, of the
-- delta file over it
abbrev pub given_faults : Result Collation RunFault → (table_text : List ℕ) → (delta_texts : List (List ℕ)) → List LineFault
given_faults (Err first) table_text delta_texts = table_faults table_text
given_faults (Ok table) table_text [] = []
given_faults (Ok table) table_text (delta_text ∷ later) = delta_faults table delta_text

-- what is told of texts, no fault twice, and behind the first none but those that judging their lines gives
abbrev pub IsLintOf : (table_text : List ℕ) → (delta_texts : List (List ℕ)) → Lint → Type 0
IsLintOf table_text delta_texts lint =
    TellsFaults (after_inputs table_text delta_texts) lint.faults
    × AreOnce lint.faults
    × AreGiven (given_faults (after_inputs table_text []) table_text delta_texts) lint.faults

-- a fault ended a run that is none of the texts: a read failed, or memory was refused
abbrev pub is_of_no_text : RunFault → Bool
is_of_no_text ended = (fault_number ended.fault == 67) || (fault_number ended.fault == 70)

-- there is a fault among those that are told
abbrev pub is_at_fault : Lint → Bool
is_at_fault lint = nat_lt 0 (length lint.faults)

-- what is told of texts was written, and whether they have a fault is the answer
abbrev pub WritesLint : (names : List (List ℕ)) → (table_text : List ℕ) → (delta_texts : List (List ℕ)) → (written : List ℕ) → Bool → Type 0
WritesLint names table_text delta_texts written at_fault =
    (lint : Lint) × IsLintOf table_text delta_texts lint × (written ≡ lint_text names lint) × (at_fault ≡ is_at_fault lint)

-- what a run did that ended with a fault: nothing is written, and the fault is none of the texts; or a write failed, which leaves a
-- prefix of what is told
abbrev pub LintStops : (names : List (List ℕ)) → (table_text : List ℕ) → (delta_texts : List (List ℕ)) → (written : List ℕ)
    → RunFault → Type 0
LintStops names table_text delta_texts written ended =
    ((is_of_no_text ended ≡ true) × (written ≡ []))
    ⊎ ((ended ≡ write_failed) × (lint : Lint) × (later : List ℕ) × IsLintOf table_text delta_texts lint
    × (lint_text names lint ≡ written ++ later))

-- what a run wrote, by its answer
abbrev pub LintRan : (names : List (List ℕ)) → (table_text : List ℕ) → (delta_texts : List (List ℕ)) → (written : List ℕ)
    → Result Bool RunFault → Type 0
LintRan names table_text delta_texts written (Ok at_fault) = WritesLint names table_text delta_texts written at_fault
LintRan names table_text delta_texts written (Err ended) = LintStops names table_text delta_texts written ended

-- the theorem of a lint: whatever the sink took before, what was written and what was answered are as stated for these texts
abbrev pub LintRuns : (names : List (List ℕ)) → (table_text : List ℕ) → (delta_texts : List (List ℕ))
    → (taken taken_after : Option (List ℕ)) → Result Bool RunFault → Type 0
LintRuns names table_text delta_texts taken taken_after r =
    (before : List ℕ) → taken ≡ Some before
    → (written : List ℕ) × (taken_after ≡ Some (before ++ written)) × LintRan names table_text delta_texts written r

-- what is told of texts is the answer, or a fault that is none of them
abbrev pub LintsTexts : (table_text : List ℕ) → (delta_texts : List (List ℕ)) → Result Lint RunFault → Type 0
LintsTexts table_text delta_texts (Ok lint) = IsLintOf table_text delta_texts lint
LintsTexts table_text delta_texts (Err ended) = is_of_no_text ended ≡ true

-- what a batch answers to the text of a table, unless the fault is none of it
abbrev pub JudgesTable : (table_text : List ℕ) → Result TableValue RunFault → Type 0
JudgesTable table_text (Ok read) = after_inputs table_text [] ≡ Ok (collation read)
JudgesTable table_text (Err ended) = is_of_no_text ended ≡ false → after_inputs table_text [] ≡ Err ended

-- what a batch answers to a delta file over a table, unless the fault is none of it
abbrev pub JudgesDelta : Collation → (delta_text : List ℕ) → Result (Unit {0}) RunFault → Type 0
JudgesDelta table delta_text (Ok done) = (changed : Collation) × (after_deltas 1 table (delta_text ∷ []) ≡ Ok changed)
JudgesDelta table delta_text (Err ended) = is_of_no_text ended ≡ false → after_deltas 1 table (delta_text ∷ []) ≡ Err ended
