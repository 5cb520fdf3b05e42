-- A whole run of a session: what is written is a stated function of what is read.
use Rattle.std.specs.Prelude.{◌≡◌, ◌==◌, ◌≤◌, ℕ, Bool, true, false, if◌then◌else◌, List, [], ◌∷◌}
use Rattle.std.specs.Prelude.{◌++◌, map, length, Option, Some, None, Result, Ok, Err}
use Rattle.coll_devices.specs.Devices.{raised}
use Rattle.coll_devices.specs.Limits.{most_line_bytes}
use Rattle.coll_devices.specs.PhysicalLines.{lines_of, IsInLine, with_feeds}
use Rattle.coll_lex.specs.LogicalLines.{LogicalLine, first_state, logical_lines}
use Rattle.coll_lex.specs.declared.tokens.Token.{Token}
use Rattle.coll_lex.specs.declared.faults.LexFault.{LexFault}
use Rattle.coll_lex.specs.declared.faults.LexFault.TheVariants as lex
use Rattle.coll_devices.specs.declared.stops.ReadStop.TheVariants as read
use Rattle.coll_nodes.specs.Table.{Collation}
use Rattle.coll_history.specs.Histories.{History, begun}
use Rattle.coll_lex.specs.Faults.{ends_text}
use Rattle.coll_requests.specs.SessionLines.{parsed}
use Rattle.coll_faults.specs.Faults.{fault_number}
use Rattle.coll_requests.specs.Requests.{requests}
use Rattle.coll_bench.specs.Replies.{answers}
use Rattle.coll_faults.specs.declared.faults.Fault.{Fault}
use Rattle.coll_faults.specs.declared.faults.Fault.TheVariants as fault
use Rattle.coll_faults.specs.declared.faults.RunFault.{RunFault}

-- what is written for a session text behind a history, where memory was refused to these lines and these requests; the test
-- says whether the text's end is seen
unfoldable pub starved_output : (lines_starved requests_starved : List Bool) → (ends : Bool) → History → List ℕ → List ℕ
starved_output lines_starved requests_starved ends start text =
    answers start (requests ends None (map parsed (logical_lines lines_starved ends first_state (lines_of text)))) requests_starved

-- what is written for a session text over a table
unfoldable pub output : Collation → List ℕ → List ℕ
output table text = starved_output [] [] true (begun table) text

-- the line with its number, if it is the last of its text, or else one that comes later
abbrev pub last_or : ℕ → Result (List Token) LexFault → Option (ℕ × LexFault) → Option (ℕ × LexFault)
last_or number (Ok tokens) later = later
last_or number (Err f) later = if ends_text f then Some (number, f) else later

-- the first line that is too long or too many, with its number
unfoldable pub last_line : List LogicalLine → Option (ℕ × LexFault)
last_line [] = None
last_line (line ∷ lines) = last_or line.number line.tokens (last_line lines)

-- the last line of a text, if it has such a line
abbrev pub last_of : List Bool → (ends : Bool) → List ℕ → Option (ℕ × LexFault)
last_of starved ends text = last_line (logical_lines starved ends first_state (lines_of text))

-- the whole text was served
pub record RanToEnd (start : History) (text : List ℕ) (left : Option (List ℕ)) (written : List ℕ)
    (lines_starved requests_starved : List Bool) : Type 0 where
  pub output_is : written ≡ starved_output lines_starved requests_starved true start text
  pub no_last : last_of lines_starved true text ≡ None
  pub left_is : left ≡ Some []

-- a read failed: the lines read whole before it, each of which ends in a line feed, were served, and of the next a part was
-- read, which is no longer than a line may be
pub record RanToReadFault (start : History) (text : List ℕ) (left : Option (List ℕ)) (written : List ℕ)
    (lines_starved requests_starved : List Bool) (read part rest : List ℕ) : Type 0 where
  pub text_is : text ≡ read ++ (part ++ rest)
  pub in_feeds : read ≡ with_feeds (lines_of read)
  pub whole : lines_of text ≡ lines_of read ++ lines_of (part ++ rest)
  pub part_in_line : IsInLine part
  pub part_short : length part ≤ most_line_bytes
  pub left_is : left ≡ Some rest
  pub output_is : written ≡ starved_output lines_starved requests_starved false start read
  pub no_last : last_of lines_starved false read ≡ None

-- the text has a line too long, or a line too many, which was the last to be served
pub record RanToLastLine (start : History) (text : List ℕ) (written : List ℕ) (lines_starved requests_starved : List Bool) (number : ℕ)
    (f : LexFault) : Type 0 where
  pub output_is : written ≡ starved_output lines_starved requests_starved true start text
  pub last : last_of lines_starved true text ≡ Some (number, f)

-- memory was refused before the first line was read
pub record NeverRan (text : List ℕ) (left : Option (List ℕ)) (written : List ℕ) : Type 0 where
  pub nothing_written : written ≡ []
  pub nothing_read : left ≡ Some text

-- a run that ended with a fault of the lexer: lack of memory before it began, or the fault of its last line
abbrev pub RanToLexFault : History → List ℕ → Option (List ℕ) → List ℕ → ℕ → LexFault → Type 0
RanToLexFault start text left written number lex.OutOfMemory = (number ≡ 0) × NeverRan text left written
RanToLexFault start text left written number f =
    (lines_starved : List Bool) × (requests_starved : List Bool) × RanToLastLine start text written lines_starved requests_starved number f

-- a run that ended with a fault
abbrev pub RanToFault : History → List ℕ → Option (List ℕ) → List ℕ → ℕ → Fault → Type 0
RanToFault start text left written number (fault.Read read.ReadFault) =
    (number ≡ 0) × (lines_starved : List Bool) × (requests_starved : List Bool) × (read : List ℕ) × (part : List ℕ) × (rest : List ℕ)
    × RanToReadFault start text left written lines_starved requests_starved read part rest
RanToFault start text left written number (fault.Read read.LineTooLong) = ⊥
-- a write failed: a prefix of what was to be written was
RanToFault start text left written number (fault.Write stop) =
    (number ≡ 0) × (lines_starved : List Bool) × (requests_starved : List Bool) × (back : List ℕ)
    × (starved_output lines_starved requests_starved true start text ≡ written ++ back)
RanToFault start text left written number (fault.Lex f) = RanToLexFault start text left written number f
RanToFault start text left written number (fault.Syntax f) = ⊥
RanToFault start text left written number (fault.Load f) = ⊥
RanToFault start text left written number (fault.Table f) = ⊥
RanToFault start text left written number (fault.Key f) = ⊥
RanToFault start text left written number (fault.Bench f) = ⊥
RanToFault start text left written number fault.BlockOpen = ⊥
RanToFault start text left written number fault.BlockNotEnded = ⊥
RanToFault start text left written number fault.UnknownCommand = ⊥
RanToFault start text left written number fault.NoBlock = ⊥

-- what a run over a text wrote, by its answer
abbrev pub Ran : History → List ℕ → Option (List ℕ) → List ℕ → Result (Unit {0}) RunFault → Type 0
Ran start text left written (Ok done) =
    (lines_starved : List Bool) × (requests_starved : List Bool) × RanToEnd start text left written lines_starved requests_starved
Ran start text left written (Err ended) = RanToFault start text left written ended.line ended.fault

-- the theorem of a session behind a history: whatever text the source has, and whatever the sink took before, the bytes that the
-- sink took are those that are stated for the text, and nothing else
abbrev pub RunsFrom : History → (left left_after taken taken_after : Option (List ℕ)) → Result (Unit {0}) RunFault → Type 0
RunsFrom start left left_after taken taken_after r =
    (text before : List ℕ) → left ≡ Some text → taken ≡ Some before → (written : List ℕ) × (taken_after ≡ Some (before ++ written))
    × Ran start text left_after written r

-- the theorem of a session over a table: it begins with the history in which nothing has happened yet
abbrev pub Runs : Collation → (left left_after taken taken_after : Option (List ℕ)) → Result (Unit {0}) RunFault → Type 0
Runs table = RunsFrom (begun table)

-- a failed read is counted, and nothing else is
abbrev pub CountsReads : ℕ → ℕ → Result (Unit {0}) RunFault → Type 0
CountsReads old new (Ok done) = new ≡ old
CountsReads old new (Err ended) = new ≡ (if fault_number ended.fault == 67 then raised old else old)
