-- What reading the inputs of a batch answers, input by input, and what an answer says of the batch then.
use Rattle.std.specs.Prelude.{◌≡◌, ◌⊎◌, ◌==◌, ℕ, pred, false, if◌then◌else◌, List, [], ◌∷◌, ◌++◌, map, Option, Some, None, Result, Ok, Err}
use Rattle.coll_devices.specs.Devices.{raised}
use Rattle.coll_lex.specs.declared.faults.LexFault.TheVariants as lex
use Rattle.coll_devices.specs.declared.stops.ReadStop.{ReadStop}
use Rattle.coll_devices.specs.declared.stops.ReadStop.TheVariants as read
use Rattle.coll_nodes.specs.Table.{Collation}
use Rattle.coll_nodes.specs.TableLayout.{TableValue, collation}
use Rattle.coll_requests.specs.DeltaReading.{DeltaState, Step, delta_line}
use Rattle.coll_lex.specs.LogicalLines.{number_of}
use Rattle.coll_requests.specs.declared.delta_faults.DeltaFault.{DeltaFault}
use Rattle.coll_requests.specs.declared.delta_files.StatementAt.{StatementAt}
use Rattle.coll_faults.specs.Faults.{fault_number}
use Rattle.coll_bench.specs.BatchOutcome.{fault_in, delta_fault_in, unless_faulty, rewritten, after_delta, after_deltas, after_inputs}
use Rattle.coll_bench.specs.BatchRuns.{Ending, ReadFailed, WriteFailed, Starved, Refused, ending_of, DeltaStopsWithin, DeltasStopWithin}
use Rattle.coll_bench.specs.BatchRuns.{InputsStopWithin, DeltaStarves, DeltasStarve, InputsStarve, BatchRuns, raised_at}
use Rattle.coll_bench.specs.declared.batches.Batch.{Batch}
use Rattle.coll_faults.specs.declared.faults.Fault.TheVariants as fault
use Rattle.coll_faults.specs.declared.faults.RunFault.{RunFault}

-- what a line is taken as that was handed in: the table rewritten by the statement that it completes, if it completes one, and what
-- is stored of the file then; or a fault
abbrev pub Taken : Type 0
Taken = Result (Collation × DeltaState) RunFault

-- a line that gave a table, unless it is at fault behind the statement that it gave
abbrev pub unless_stored : (input : ℕ) → Option DeltaFault → Collation × DeltaState → Taken
unless_stored input None taken = Ok taken
unless_stored input (Some f) taken = Err (delta_fault_in input f)

-- a line by what the reader of the file makes of it
abbrev pub by_step : (input : ℕ) → Collation → Step → Taken
by_step input table (Ok (given, after)) =
    unless_faulty (rewritten input table given) (λ changed. unless_stored input after.fault (changed, after))
by_step input table (Err f) = Err (delta_fault_in input f)

-- what one more line of a delta file is taken as
unfoldable pub line_taken : (input : ℕ) → Collation → DeltaState → List ℕ → Taken
line_taken input table s line = by_step input table (delta_line s line)

-- a line led on, and from whatever reached its beginning the statement that it completes, if it completes one, reaches its end
abbrev pub LeadsOver : {S : Type 0} → (S → List StatementAt → S → Type 0) → (old new : S) → DeltaState → List ℕ → DeltaState → Type 0
LeadsOver {S} reaches old new s line after =
    (given : List StatementAt) × (delta_line s line ≡ Ok (given, after))
    × ((start : S) (before : List StatementAt) → reaches start before old → reaches start (before ++ given) new)

-- a fault of a line or of a statement, by its kind: what is answered is this, unless memory was refused
abbrev pub FailsAs : {A : Type 0} → Ending → Result A RunFault → RunFault → Type 0
FailsAs ReadFailed stated ended = ⊥
FailsAs WriteFailed stated ended = ⊥
FailsAs Starved stated ended = Unit {0}
FailsAs Refused stated ended = stated ≡ Err ended

-- the number that a fault of a statement has, if there is one
abbrev pub IsNumberOf : List StatementAt → ℕ → Type 0
IsNumberOf [] number = ⊥
IsNumberOf (at ∷ later) number = number ≡ at.line

-- the number that a fault of a line has that was handed in: that of its logical line, or of the statement that it completes
abbrev pub IsFaultNumber : DeltaState → List ℕ → ℕ → Type 0
IsFaultNumber s line number =
    (number ≡ number_of s.lexer) ⊎ ((given : List StatementAt) × (after : DeltaState) × (delta_line s line ≡ Ok (given, after))
    × IsNumberOf given number)

-- the fault of an input for which memory was refused before its first line
abbrev pub starved_in : (input : ℕ) → RunFault
starved_in input = fault_in input 0 (fault.Lex lex.OutOfMemory)

-- the fault that is answered where the reader of an input stops before the line with this number
abbrev pub stopped_in : (input number : ℕ) → ReadStop → RunFault
stopped_in input number read.LineTooLong = fault_in input number (fault.Lex lex.LineTooLong)
stopped_in input number read.ReadFault = fault_in input 0 (fault.Read read.ReadFault)

-- what a fault says of a delta file, by its kind
abbrev pub DeltaFails : Ending → (input : ℕ) → Collation → (text : List ℕ) → (left : Option (List ℕ)) → RunFault → Type 0
DeltaFails ReadFailed input table text left ended = (ended.line ≡ 0) × DeltaStopsWithin input table text left
DeltaFails WriteFailed input table text left ended = ⊥
DeltaFails Starved input table text left ended = DeltaStarves input table text ended.line
DeltaFails Refused input table text left ended = after_delta input table text ≡ Err ended

-- what an answer says of a delta file
abbrev pub ReadsDelta : (input : ℕ) → (old new : Collation) → (left left_after : Option (List ℕ)) → Result (Unit {0}) RunFault → Type 0
ReadsDelta input old new left left_after (Ok done) = (text : List ℕ) → left ≡ Some text → after_delta input old text ≡ Ok new
ReadsDelta input old new left left_after (Err ended) =
    (text : List ℕ) → left ≡ Some text → DeltaFails (ending_of ended) input old text left_after ended

-- a failed read is counted, and nothing else is
abbrev pub CountsDelta : ℕ → ℕ → Result (Unit {0}) RunFault → Type 0
CountsDelta old new (Ok done) = new ≡ old
CountsDelta old new (Err ended) = new ≡ (if fault_number ended.fault == 67 then raised old else old)

-- no write failed
abbrev pub WritesNone : RunFault → Type 0
WritesNone ended = (fault_number ended.fault == 68) ≡ false

-- what a fault says of the delta files, by its kind
abbrev pub DeltasFail : Ending → Collation → (texts : List (List ℕ)) → (lefts : List (Option (List ℕ))) → RunFault → Type 0
DeltasFail ReadFailed table texts lefts ended = (ended.line ≡ 0) × DeltasStopWithin (pred ended.input) table texts lefts
DeltasFail WriteFailed table texts lefts ended = ⊥
DeltasFail Starved table texts lefts ended = DeltasStarve (pred ended.input) table texts ended.line
DeltasFail Refused table texts lefts ended = after_deltas 1 table texts ≡ Err ended

-- what an answer says of the delta files
abbrev pub ReadsDeltas : (old new : Collation) → (lefts lefts_after : List (Option (List ℕ))) → Result (Unit {0}) RunFault → Type 0
ReadsDeltas old new lefts lefts_after (Ok done) = (texts : List (List ℕ)) → lefts ≡ map Some texts → after_deltas 1 old texts ≡ Ok new
ReadsDeltas old new lefts lefts_after (Err ended) =
    (texts : List (List ℕ)) → lefts ≡ map Some texts → DeltasFail (ending_of ended) old texts lefts_after ended

-- a failed read is counted by its delta file, and nothing else is
abbrev pub CountsDeltas : (old new : List ℕ) → Result (Unit {0}) RunFault → Type 0
CountsDeltas old new (Ok done) = new ≡ old
CountsDeltas old new (Err ended) = new ≡ (if fault_number ended.fault == 67 then raised_at (pred ended.input) old else old)

-- what a fault says of the inputs, by its kind
abbrev pub InputsFail : Ending → (table_text : List ℕ) → (delta_texts : List (List ℕ)) → (left : Option (List ℕ))
    → (lefts : List (Option (List ℕ))) → RunFault → Type 0
InputsFail ReadFailed table_text delta_texts left lefts ended =
    (ended.line ≡ 0) × InputsStopWithin ended.input table_text delta_texts left lefts
InputsFail WriteFailed table_text delta_texts left lefts ended = ⊥
InputsFail Starved table_text delta_texts left lefts ended = InputsStarve ended.input ended.line table_text delta_texts left
InputsFail Refused table_text delta_texts left lefts ended = after_inputs table_text delta_texts ≡ Err ended

-- what an answer says of the inputs
abbrev pub ReadsInputs : (left left_after : Option (List ℕ)) → (lefts lefts_after : List (Option (List ℕ))) → Result TableValue RunFault
    → Type 0
ReadsInputs left left_after lefts lefts_after (Ok table) =
    (table_text : List ℕ) (delta_texts : List (List ℕ)) → left ≡ Some table_text → lefts ≡ map Some delta_texts
    → after_inputs table_text delta_texts ≡ Ok (collation table)
ReadsInputs left left_after lefts lefts_after (Err ended) =
    (table_text : List ℕ) (delta_texts : List (List ℕ)) → left ≡ Some table_text → lefts ≡ map Some delta_texts
    → InputsFail (ending_of ended) table_text delta_texts left_after lefts_after ended

-- an answer to a batch of which the inputs gave this table, whatever they are
abbrev pub AnswersBatch : Batch → TableValue → (taken taken_after : Option (List ℕ)) → Result (Unit {0}) RunFault → Type 0
AnswersBatch b table taken taken_after r =
    (left left_after : Option (List ℕ)) (lefts lefts_after : List (Option (List ℕ)))
    → ReadsInputs left left_after lefts lefts_after (Ok table) → BatchRuns b left left_after lefts lefts_after taken taken_after r
