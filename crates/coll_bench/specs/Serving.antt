-- What serving one physical line does, from where a session stands between two lines.
use Rattle.std.specs.Prelude.{◌≡◌, ◌⊎◌, ℕ, Bool, true, false, ◌==◌, if◌then◌else◌, List, [], ◌∷◌, ◌++◌, Option, Some, None, Result, Ok, Err}
use Rattle.std.specs.Io.KnownBytes.{Appends}
use Rattle.coll_devices.specs.Devices.{AppendsPrefix, raised}
use Rattle.coll_devices.specs.LineReading.{counted}
use Rattle.coll_lex.specs.LogicalLines.{LexerState, first_state, number_of, served, state_by}
use Rattle.coll_lex.specs.declared.faults.LexFault.{LexFault}
use Rattle.coll_lex.specs.declared.faults.LexFault.TheVariants as lex
use Rattle.coll_devices.specs.declared.stops.ReadStop.{ReadStop}
use Rattle.coll_devices.specs.declared.stops.ReadStop.TheVariants as read
use Rattle.coll_devices.specs.declared.stops.WriteStop.TheVariants as write
use Rattle.coll_nodes.specs.Table.{Collation}
use Rattle.coll_history.specs.Histories.{History, SessionValue, begun}
use Rattle.coll_requests.specs.Parsing.{parsed_at}
use Rattle.coll_faults.specs.Faults.{fault_number}
use Rattle.coll_requests.specs.Taking.{TakesPhysical, line_block, line_requests, stop_at}
use Rattle.coll_bench.specs.Replies.{reply_if, history_after_if}
use Rattle.coll_faults.specs.declared.faults.Fault.{Fault}
use Rattle.coll_faults.specs.declared.faults.Fault.TheVariants as faults
use Rattle.coll_faults.specs.declared.faults.RunFault.{RunFault}
use Rattle.coll_requests.specs.declared.open_blocks.OpenBlock.{OpenBlock}
use Rattle.coll_requests.specs.declared.requests.RequestAt.{RequestAt}
use Rattle.coll_bench.specs.declared.serving.RunState.{RunState}

-- what the lexer of a session was handed, the block that it has open, and its table with its history
abbrev pub lexer_of : RunState → LexerState
lexer_of state = state.parser

abbrev pub block_of : RunState → Option OpenBlock
block_of state = state.block

abbrev pub session_of : RunState → SessionValue
session_of state = state.session

abbrev pub history_of : RunState → History
history_of state = state.session.history

-- the replies to some requests, to each of which memory was refused or not
unfoldable pub replies_to : (starved : Bool) → History → List RequestAt → List ℕ
replies_to starved h [] = []
replies_to starved h (request ∷ later) =
    reply_if starved h request.request ++ replies_to starved (history_after_if starved h request.request) later

-- the history after some requests, to each of which memory was refused or not
unfoldable pub history_after_all : (starved : Bool) → History → List RequestAt → History
history_after_all starved h [] = h
history_after_all starved h (request ∷ later) = history_after_all starved (history_after_if starved h request.request) later

-- a session at the beginning of a text, behind this history
pub record IsAtStart (state : RunState) (start : History) : Type 0 where
  pub parser : state.parser ≡ first_state
  pub block : state.block ≡ None
  pub session : state.session.history ≡ start

-- the same of a table to which nothing has happened yet
abbrev pub IsBegun : RunState → Collation → Type 0
IsBegun state table = IsAtStart state (begun table)

-- a physical line was served, and the session goes on
pub record Served (memory starved : Bool) (old new : RunState) (line : List ℕ) : Type 0 where
  pub goes_on : stop_at (parsed_at memory old.parser line) ≡ None
  pub parser : new.parser ≡ state_by old.parser (served memory old.parser line)
  pub block : new.block ≡ line_block old.block (parsed_at memory old.parser line)
  pub session : new.session.history
      ≡ history_after_all starved old.session.history (line_requests old.block (parsed_at memory old.parser line))

-- the session ends with a write that failed
abbrev pub write_failed : RunFault
write_failed = record { input = 0; line = 0; fault = faults.Write write.WriteFault }

-- the session ends at a fault of the lexer
abbrev pub stopped_at : ℕ → LexFault → RunFault
stopped_at number f = record { input = 0; line = number; fault = faults.Lex f }

-- the session ended at a fault of the lexer, with all replies written, or a write failed and a prefix of them was
abbrev pub EndsWith : ℕ → LexFault → Option (List ℕ) → Option (List ℕ) → List ℕ → RunFault → Type 0
EndsWith number f taken taken_after bytes ended =
    ((ended ≡ stopped_at number f) × Appends taken taken_after bytes) ⊎ ((ended ≡ write_failed) × AppendsPrefix taken taken_after bytes)

-- the replies to the requests that a physical line completes
abbrev pub line_replies : (memory starved : Bool) → RunState → List ℕ → List ℕ
line_replies memory starved old line = replies_to starved old.session.history (line_requests old.block (parsed_at memory old.parser line))

-- the session ended at this line: at a fault of the lexer, or since a write failed
abbrev pub EndsAtLine : (memory starved : Bool) → RunState → List ℕ → Option (List ℕ) → Option (List ℕ) → RunFault → Type 0
EndsAtLine memory starved old line taken taken_after ended =
    ((f : LexFault) × (stop_at (parsed_at memory old.parser line) ≡ Some f)
    × EndsWith (number_of old.parser) f taken taken_after (line_replies memory starved old line) ended)
    ⊎ ((stop_at (parsed_at memory old.parser line) ≡ None) × (ended ≡ write_failed)
    × AppendsPrefix taken taken_after (line_replies memory starved old line))

-- what taking a physical line did: the request that it completes is still to be answered, or the session ended
abbrev pub TakesLine : RunState → RunState → List ℕ → Option (List ℕ) → Option (List ℕ) → Result (Option RequestAt) RunFault → Type 0
TakesLine old new line taken taken_after (Ok request) =
    ((memory : Bool) × TakesPhysical memory old.parser new.parser line old.block new.block (Ok request)) × (new.session ≡ old.session)
TakesLine old new line taken taken_after (Err ended) =
    (memory : Bool) × (starved : Bool) × EndsAtLine memory starved old line taken taken_after ended

-- what serving a physical line did
abbrev pub ServesLine : RunState → RunState → List ℕ → Option (List ℕ) → Option (List ℕ) → Result (Unit {0}) RunFault → Type 0
ServesLine old new line taken taken_after (Ok done) = (memory : Bool) × (starved : Bool) × Served memory starved old new line
    × Appends taken taken_after (line_replies memory starved old line)
ServesLine old new line taken taken_after (Err ended) =
    (memory : Bool) × (starved : Bool) × EndsAtLine memory starved old line taken taken_after ended

-- the session ended for another reason than a failed read
abbrev pub ReadsNone : RunFault → Type 0
ReadsNone ended = (fault_number ended.fault == 67) ≡ false

-- the fault is that of a failed read exactly where the reader counted one
abbrev pub CountsStop : ReadStop → RunFault → Type 0
CountsStop stop ended = (failed : ℕ) → counted stop failed ≡ (if fault_number ended.fault == 67 then raised failed else failed)

-- a failed write is counted, and nothing else is
abbrev pub CountsEnd : ℕ → ℕ → RunFault → Type 0
CountsEnd old new ended = new ≡ (if fault_number ended.fault == 68 then raised old else old)

-- the same of a run that may have gone well
abbrev pub CountsWrites : ℕ → ℕ → Result (Unit {0}) RunFault → Type 0
CountsWrites old new (Ok done) = new ≡ old
CountsWrites old new (Err ended) = CountsEnd old new ended

-- all that was taken is flushed, unless a write failed
abbrev pub IsFlushedAt : Bool → RunFault → Type 0
IsFlushedAt flushed ended = (fault_number ended.fault == 68) ≡ false → flushed ≡ true

-- the same of a run that may have gone well
abbrev pub IsFlushedAfter : Bool → Result (Unit {0}) RunFault → Type 0
IsFlushedAfter flushed (Ok done) = flushed ≡ true
IsFlushedAfter flushed (Err ended) = IsFlushedAt flushed ended

-- the session ended with its text: all replies were written, or a write failed and a prefix of them was
abbrev pub FinishesWith : Option (List ℕ) → Option (List ℕ) → List ℕ → Result (Unit {0}) RunFault → Type 0
FinishesWith taken taken_after bytes (Ok done) = Appends taken taken_after bytes
FinishesWith taken taken_after bytes (Err ended) = (ended ≡ write_failed) × AppendsPrefix taken taken_after bytes

-- a run for which memory was refused before it began
abbrev pub never_ran : RunFault
never_ran = record { input = 0; line = 0; fault = faults.Lex lex.OutOfMemory }

-- a run of which a read failed
abbrev pub read_failed : RunFault
read_failed = record { input = 0; line = 0; fault = faults.Read read.ReadFault }

-- the faults that may end a session: a line too long or one too many, a read or a write that failed, and lack of memory before
-- the first line
abbrev pub EndsSession : Fault → Type 0
EndsSession (faults.Lex lex.LineTooLong) = Unit {0}
EndsSession (faults.Lex lex.TooManyLines) = Unit {0}
EndsSession (faults.Lex lex.OutOfMemory) = Unit {0}
EndsSession (faults.Read read.ReadFault) = Unit {0}
EndsSession (faults.Write write.WriteFault) = Unit {0}
EndsSession _ = ⊥

-- the fault of a line too long
abbrev pub too_long : LexFault
too_long = lex.LineTooLong

-- the session ended where no further line could be read: with the reply to a line too long, or without one
abbrev pub IsCutOff : ReadStop → ℕ → Option (List ℕ) → Option (List ℕ) → List ℕ → RunFault → Type 0
IsCutOff read.LineTooLong number taken taken_after bytes ended = EndsWith number too_long taken taken_after bytes ended
IsCutOff read.ReadFault number taken taken_after bytes ended = (ended ≡ read_failed) × (taken_after ≡ taken)
