-- What a load answers, and what it leaves of the text and of the device's count of errors.
use Rattle.std.specs.Prelude.{◌≡◌, ◌≤◌, ◌+◌, ◌⊎◌, ℕ, false, List, ◌∷◌, ◌++◌, length, Option, Some, Result, Ok, Err, MatchResult}
use Rattle.coll_devices.specs.Devices.{raised}
use Rattle.coll_devices.specs.Limits.{most_line_bytes}
use Rattle.coll_devices.specs.PhysicalLines.{lines_of, with_feeds, IsInLine}
use Rattle.coll_lex.specs.declared.faults.LexFault.TheVariants as lex
use Rattle.coll_devices.specs.declared.stops.ReadStop.{ReadStop}
use Rattle.coll_devices.specs.declared.stops.ReadStop.TheVariants as stop
use Rattle.coll_nodes.specs.TableLayout.{TableValue, collation}
use Rattle.coll_texts.specs.BuilderStates.{at_line}
use Rattle.coll_texts.specs.Loading.{LoaderState, loaded}
use Rattle.coll_texts.specs.Reading.{Outcome, Decided, Undecided, outcome_of, reads}
use Rattle.coll_syntax.specs.declared.syntax_faults.SyntaxFault.TheVariants as syntax
use Rattle.coll_texts.specs.declared.load_faults.LoadFault.{LoadFault}
use Rattle.coll_texts.specs.declared.load_faults.LoadCause.{LoadCause}
use Rattle.coll_texts.specs.declared.load_faults.LoadCause.TheVariants.{Lex, Syntax, ReadFault, OutOfMemory}

-- lines that decide nothing
abbrev pub IsUndecided : Outcome → Type 0
IsUndecided (Decided answer) = ⊥
IsUndecided (Undecided cause) = Unit {0}

-- the fault that is answered where the reader stops before the line with this number
abbrev pub stop_fault : ℕ → ReadStop → LoadFault
stop_fault number stop.LineTooLong = at_line number (Lex lex.LineTooLong)
stop_fault number stop.ReadFault = at_line 0 ReadFault

-- a read failed behind a part of a line: the text begins with the lines read before it, each with its line feed, of which this
-- holds; behind them stand that part, which is no longer than a line may be, and the rest, which is left
abbrev pub IsCutBehind : (List (List ℕ) → Type 0) → List ℕ → Option (List ℕ) → Type 0
IsCutBehind Holds text left =
    (whole : List (List ℕ)) × (part : List ℕ) × (rest : List ℕ) × (left ≡ Some rest) × (text ≡ with_feeds whole ++ (part ++ rest))
    × (lines_of text ≡ whole ++ lines_of (part ++ rest)) × IsInLine part × (length part ≤ most_line_bytes) × Holds whole

-- a read failed, and the lines read whole before it decide nothing
abbrev pub StopsWithin : List ℕ → Option (List ℕ) → Type 0
StopsWithin = IsCutBehind (λ whole. IsUndecided (outcome_of false whole))

-- the number of one of so many lines, from 1
abbrev pub IsLineWithin : (number count : ℕ) → Type 0
IsLineWithin number count = (1 ≤ number) × (number ≤ count)

-- memory was refused at a line: the lines handed in before it decide nothing, and the fault has the number of a line up to it
abbrev pub StarvesWithin : (text : List ℕ) → (number : ℕ) → Type 0
StarvesWithin text number =
    (whole : List (List ℕ)) × (line : List ℕ) × (later : List (List ℕ)) × (lines_of text ≡ whole ++ line ∷ later)
    × IsUndecided (outcome_of false whole) × IsLineWithin number (length whole + 1)

-- memory was refused to a text: before its first line, or at one of its lines
abbrev pub Starves : (text : List ℕ) → (number : ℕ) → Type 0
Starves text number = (number ≡ 0) ⊎ StarvesWithin text number

-- what a fault says of the text, by its cause; a lack of memory has one spelling
abbrev pub FaultSays : LoadCause → ℕ → List ℕ → Option (List ℕ) → Type 0
FaultSays OutOfMemory line text left = Starves text line
FaultSays (Lex lex.OutOfMemory) line text left = ⊥
FaultSays (Syntax syntax.OutOfMemory) line text left = ⊥
FaultSays ReadFault line text left = (line ≡ 0) × StopsWithin text left
FaultSays cause line text left = reads text ≡ Err (record { line = line; cause = cause })

-- what an answer says of the text that the device had
abbrev pub Loads : Option (List ℕ) → Option (List ℕ) → Result TableValue LoadFault → Type 0
Loads old new (Ok table) = (text : List ℕ) → old ≡ Some text → reads text ≡ Ok (collation table)
Loads old new (Err fault) = (text : List ℕ) → old ≡ Some text → FaultSays fault.cause fault.line text new

-- what a loader stores answers what the text that the device had is
abbrev pub AnswersText : Option (List ℕ) → LoaderState → Type 0
AnswersText old s = (text : List ℕ) → old ≡ Some text → reads text ≡ loaded s

-- the count of errors, one higher where a read error is the cause
abbrev pub counted_by : LoadCause → ℕ → ℕ
counted_by ReadFault count = raised count
counted_by _ count = count

-- a read error is counted where it is the cause, and none elsewhere
abbrev pub CountsFault : {T : Type 0} → ℕ → ℕ → Result T LoadFault → Type 0
CountsFault old new r = MatchResult r (λ _. new ≡ old) (λ (fault : LoadFault). new ≡ counted_by fault.cause old)
