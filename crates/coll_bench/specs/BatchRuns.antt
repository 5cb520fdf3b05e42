-- A whole run of a batch: what was written and what was answered are stated functions of what its inputs have.
use Rattle.std.specs.Prelude.{◌≡◌, ◌+◌, ◌==◌, ◌⊎◌, ℕ, zero, suc, false, if◌then◌else◌, List, [], ◌∷◌}
use Rattle.std.specs.Prelude.{◌++◌, length, map, take, slice_get, Option, Some, Result, Ok, Err}
use Rattle.coll_devices.specs.Devices.{raised}
use Rattle.coll_devices.specs.PhysicalLines.{lines_of}
use Rattle.coll_nodes.specs.Table.{Collation}
use Rattle.coll_table.specs.Loads.{IsLineWithin, IsCutBehind, StopsWithin, FaultSays}
use Rattle.coll_texts.specs.declared.load_faults.LoadCause.TheVariants as load
use Rattle.coll_texts.specs.Reading.{reads}
use Rattle.coll_requests.specs.DeltaFiles.{delta_outcome}
use Rattle.coll_requests.specs.declared.delta_files.StatementAt.{StatementAt}
use Rattle.coll_faults.specs.Faults.{fault_number}
use Rattle.coll_bench.specs.BatchOutcome.{Decision, Decided, Undecided, decision, after_deltas, batch_outcome}
use Rattle.coll_bench.specs.declared.batches.Batch.{Batch}
use Rattle.coll_faults.specs.declared.faults.RunFault.{RunFault}

-- what kind of fault ended a run: a read that failed, a write that failed, lack of memory, or something that an input or a text
-- says
pub data Ending : Type 0 where
  ReadFailed : Ending
  WriteFailed : Ending
  Starved : Ending
  Refused : Ending

-- the kind of a fault, by its number
abbrev pub ending_of_number : ℕ → Ending
ending_of_number number = if number == 67 then ReadFailed
    else (if number == 68 then WriteFailed else (if number == 70 then Starved else Refused))

-- the kind of the fault that ended a run
abbrev pub ending_of : RunFault → Ending
ending_of ended = ending_of_number (fault_number ended.fault)

-- lines that decide nothing
abbrev pub DecidesNothing : Decision → Type 0
DecidesNothing (Decided answer) = ⊥
DecidesNothing (Undecided cause) = Unit {0}

-- a read of a delta file failed, and the lines read whole before it decide nothing
abbrev pub DeltaStopsWithin : (input : ℕ) → Collation → (text : List ℕ) → (left : Option (List ℕ)) → Type 0
DeltaStopsWithin input table = IsCutBehind (λ whole. DecidesNothing (decision input table (delta_outcome false whole)))

-- a read of one of the delta files failed, with so many before it, which give a table
abbrev pub DeltasStopWithin : (before : ℕ) → Collation → (texts : List (List ℕ)) → (lefts : List (Option (List ℕ))) → Type 0
DeltasStopWithin before first texts lefts =
    (table : Collation) × (text : List ℕ) × (left : Option (List ℕ)) × (after_deltas 1 first (take before texts) ≡ Ok table)
    × (slice_get texts before ≡ Some text) × (slice_get lefts before ≡ Some left) × DeltaStopsWithin (suc before) table text left

-- a read of an input failed, and nothing before that is at fault
abbrev pub InputsStopWithin : (input : ℕ) → (table_text : List ℕ) → (delta_texts : List (List ℕ)) → (left : Option (List ℕ))
    → (lefts : List (Option (List ℕ))) → Type 0
InputsStopWithin zero table_text delta_texts left lefts = StopsWithin table_text left
InputsStopWithin (suc before) table_text delta_texts left lefts =
    (first : Collation) × (reads table_text ≡ Ok first) × DeltasStopWithin before first delta_texts lefts

-- the number of a statement that these lines of a delta file give
abbrev pub IsLineOfStatement : (lines : List (List ℕ)) → (number : ℕ) → Type 0
IsLineOfStatement lines number =
    (before : List StatementAt) × (at : StatementAt) × (later : List StatementAt)
    × ((delta_outcome false lines).statements ≡ before ++ at ∷ later) × (number ≡ at.line)

-- memory was refused at a line of a delta file: the lines handed in before it decide nothing, and the fault has the number of a line
-- up to it, or that of a statement that these lines give
abbrev pub DeltaStarvesWithin : (input : ℕ) → Collation → (text : List ℕ) → (number : ℕ) → Type 0
DeltaStarvesWithin input table text number =
    (whole : List (List ℕ)) × (line : List ℕ) × (later : List (List ℕ)) × (lines_of text ≡ whole ++ line ∷ later)
    × DecidesNothing (decision input table (delta_outcome false whole))
    × (IsLineWithin number (length whole + 1) ⊎ IsLineOfStatement (whole ++ line ∷ []) number)

-- memory was refused to a delta file: before its first line, or at one of its lines
abbrev pub DeltaStarves : (input : ℕ) → Collation → (text : List ℕ) → (number : ℕ) → Type 0
DeltaStarves input table text number = (number ≡ 0) ⊎ DeltaStarvesWithin input table text number

-- memory was refused to one of the delta files, with so many before it, which give a table
abbrev pub DeltasStarve : (before : ℕ) → Collation → (texts : List (List ℕ)) → (number : ℕ) → Type 0
DeltasStarve before first texts number =
    (table : Collation) × (text : List ℕ) × (after_deltas 1 first (take before texts) ≡ Ok table) × (slice_get texts before ≡ Some text)
    × DeltaStarves (suc before) table text number

-- memory was refused to an input, at this line of it, and nothing before that is at fault
abbrev pub InputsStarve : (input number : ℕ) → (table_text : List ℕ) → (delta_texts : List (List ℕ)) → (left : Option (List ℕ)) → Type 0
InputsStarve zero number table_text delta_texts left = FaultSays load.OutOfMemory number table_text left
InputsStarve (suc before) number table_text delta_texts left =
    (first : Collation) × (reads table_text ≡ Ok first) × DeltasStarve before first delta_texts number

-- what was written is a prefix of the output
abbrev pub WritesPrefix : Batch → (table_text : List ℕ) → (delta_texts : List (List ℕ)) → (written : List ℕ) → Type 0
WritesPrefix b table_text delta_texts written = (back : List ℕ) × (batch_outcome b table_text delta_texts ≡ Ok (written ++ back))

-- a fault of no line of the first input, as which a fault that comes with the output counts
abbrev pub IsOfNoLine : RunFault → Type 0
IsOfNoLine ended = (ended.input ≡ 0) × (ended.line ≡ 0)

-- what a run did that ended with a fault, by its kind: nothing is written where an input is at fault or a read fails; a write that
-- fails leaves a prefix of the output; and where memory is refused, this is no line's, and leaves a prefix of the output, or it is
-- that of an input, and nothing is written
abbrev pub BatchRanTo : Ending → Batch → (table_text : List ℕ) → (delta_texts : List (List ℕ)) → (left : Option (List ℕ))
    → (lefts : List (Option (List ℕ))) → (written : List ℕ) → RunFault → Type 0
BatchRanTo ReadFailed b table_text delta_texts left lefts written ended =
    (written ≡ []) × (ended.line ≡ 0) × InputsStopWithin ended.input table_text delta_texts left lefts
BatchRanTo WriteFailed b table_text delta_texts left lefts written ended =
    IsOfNoLine ended × WritesPrefix b table_text delta_texts written
BatchRanTo Starved b table_text delta_texts left lefts written ended =
    (IsOfNoLine ended × WritesPrefix b table_text delta_texts written)
    ⊎ ((written ≡ []) × InputsStarve ended.input ended.line table_text delta_texts left)
BatchRanTo Refused b table_text delta_texts left lefts written ended =
    (written ≡ []) × (batch_outcome b table_text delta_texts ≡ Err ended)

-- what a run of a batch did, by its answer
abbrev pub BatchRan : Batch → (table_text : List ℕ) → (delta_texts : List (List ℕ)) → (left : Option (List ℕ))
    → (lefts : List (Option (List ℕ))) → (written : List ℕ) → Result (Unit {0}) RunFault → Type 0
BatchRan b table_text delta_texts left lefts written (Ok done) = batch_outcome b table_text delta_texts ≡ Ok written
BatchRan b table_text delta_texts left lefts written (Err ended) =
    BatchRanTo (ending_of ended) b table_text delta_texts left lefts written ended

-- the theorem of a batch: whatever texts the inputs have, and whatever the sink took before, what was written and what was
-- answered are as stated for these texts
abbrev pub BatchRuns : Batch → (left left_after : Option (List ℕ)) → (lefts lefts_after : List (Option (List ℕ)))
    → (taken taken_after : Option (List ℕ)) → Result (Unit {0}) RunFault → Type 0
BatchRuns b left left_after lefts lefts_after taken taken_after r =
    (table_text : List ℕ) (delta_texts : List (List ℕ)) (before : List ℕ) → left ≡ Some table_text → lefts ≡ map Some delta_texts
    → taken ≡ Some before
    → (written : List ℕ) × (taken_after ≡ Some (before ++ written)) × BatchRan b table_text delta_texts left_after lefts_after written r

-- an answer without the table that it hands on
abbrev pub without_table : {T : Type 0} → Result T RunFault → Result (Unit {0}) RunFault
without_table (Ok table) = Ok tt
without_table (Err ended) = Err ended

-- the counts of the inputs, that of one of them, by its number, one higher
abbrev pub raised_at : ℕ → List ℕ → List ℕ
raised_at n [] = []
raised_at zero (count ∷ counts) = raised count ∷ counts
raised_at (suc n) (count ∷ counts) = count ∷ raised_at n counts

-- a failed read is counted by its input, and nothing else is
abbrev pub CountsInputs : {T : Type 0} → (old new : List ℕ) → Result T RunFault → Type 0
CountsInputs old new (Ok done) = new ≡ old
CountsInputs old new (Err ended) = new ≡ (if fault_number ended.fault == 67 then raised_at ended.input old else old)
