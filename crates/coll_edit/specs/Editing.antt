-- Where an edit stands between two lines, and what a line of it does.
use Rattle.std.specs.Prelude.{◌≡◌, ◌⊎◌, ◌==◌, ◌||◌, ℕ, Bool, true, false, List, [], ◌∷◌, ◌++◌, map, Option, Some, None, Result, Ok, Err}
use Rattle.std.specs.Prelude.{option_to_list}
use Rattle.std.specs.Io.KnownBytes.{Appends}
use Rattle.coll_devices.specs.Devices.{AppendsPrefix}
use Rattle.coll_lex.specs.LogicalLines.{served, state_by}
use Rattle.coll_history.specs.Histories.{History}
use Rattle.coll_requests.specs.Parsing.{parsed_at}
use Rattle.coll_requests.specs.RequestFaults.{request_fault_number}
use Rattle.coll_requests.specs.Taking.{line_block, line_requests, stop_at}
use Rattle.coll_requests.specs.declared.requests.Request.{Request}
use Rattle.coll_requests.specs.declared.requests.Request.TheVariants as kind
use Rattle.coll_requests.specs.declared.requests.RequestAt.{RequestAt}
use Rattle.coll_requests.specs.declared.delta_files.StatementAt.{StatementAt}
use Rattle.coll_requests.specs.declared.session_lines.Command.{Command}
use Rattle.coll_requests.specs.declared.session_lines.Command.TheVariants as command
use Rattle.coll_bench.specs.Serving.{ServesLine, block_of, history_after_all, history_of, lexer_of, replies_to, write_failed}
use Rattle.coll_faults.specs.declared.faults.RunFault.{RunFault}
use Rattle.coll_bench.specs.declared.serving.RunState.{RunState}
use Rattle.coll_edit.specs.declared.editors.Editor.{Editor}
use Rattle.coll_edit.specs.declared.editors.Next.{Next}

-- the session of an edit, and whether a line of `edit` was answered
abbrev pub run_of : Editor → RunState
run_of editor = editor.run

abbrev pub has_answered : Editor → Bool
has_answered editor = editor.answered

-- these statements were put behind those that remained, and where none was taken back, none is
pub record PutsBehind (before : History) (given : List StatementAt) (after : History) : Type 0 where
  pub start : after.start ≡ before.start
  pub remaining : after.remaining ≡ before.remaining ++ map (λ (at : StatementAt). at.statement) given
  pub undone : before.undone ≡ [] → after.undone ≡ []

-- a request that a session refuses with 29 or 64, and so leaves to `edit`
abbrev pub is_left : Request → Bool
is_left (kind.Command command) = false
is_left (kind.Statement statement) = false
is_left (kind.Refused fault) = (request_fault_number fault == 29) || (request_fault_number fault == 64)

-- a line completed such a request
abbrev pub IsLeft : Option RequestAt → Type 0
IsLeft None = ⊥
IsLeft (Some request) = is_left request.request ≡ true

-- a physical line was taken by the session, which refuses with 29 or 64 what it asks for: its history stays
pub record LeavesLine (memory : Bool) (old new : RunState) (line : List ℕ) (request : RequestAt) : Type 0 where
  pub goes_on : stop_at (parsed_at memory (lexer_of old) line) ≡ None
  pub lexer : lexer_of new ≡ state_by (lexer_of old) (served memory (lexer_of old) line)
  pub block : block_of new ≡ line_block (block_of old) (parsed_at memory (lexer_of old) line)
  pub requests : line_requests (block_of old) (parsed_at memory (lexer_of old) line) ≡ request ∷ []
  pub left : is_left request.request ≡ true
  pub history : history_of new ≡ history_of old

-- what serving a line answered, whatever comes next
abbrev pub without_next : Result Next RunFault → Result (Unit {0}) RunFault
without_next (Ok next) = Ok tt
without_next (Err ended) = Err ended

-- these bytes were written, or a write failed, and a prefix of them was
abbrev pub Replies : (taken taken_after : Option (List ℕ)) → List ℕ → Result (Unit {0}) RunFault → Type 0
Replies taken taken_after bytes (Ok done) = Appends taken taken_after bytes
Replies taken taken_after bytes (Err ended) = (ended ≡ write_failed) × AppendsPrefix taken taken_after bytes

-- a command that only looks at the table
abbrev pub IsLook : Command → Type 0
IsLook (command.Key text) = Unit {0}
IsLook (command.Compare text other) = Unit {0}
IsLook _ = ⊥

-- what answering the request of a line did: what the session does; or it is one that the session leaves to `edit`, which answered it
abbrev pub AnswersRequest : Editor → Editor → Option RequestAt → (taken taken_after : Option (List ℕ)) → Result Next RunFault → Type 0
AnswersRequest old new request taken taken_after r =
    ((has_answered new ≡ has_answered old) × (starved : Bool)
    × Replies taken taken_after (replies_to starved (history_of (run_of old)) (option_to_list request)) (without_next r)
    × (history_of (run_of new) ≡ history_after_all starved (history_of (run_of old)) (option_to_list request)))
    ⊎ ((has_answered new ≡ true) × IsLeft request × (history_of (run_of new) ≡ history_of (run_of old)))

-- what serving a physical line did: what the session does; or the session refuses it with 29 or 64, and `edit` answered it
abbrev pub EditsLine : Editor → Editor → List ℕ → (taken taken_after : Option (List ℕ)) → Result Next RunFault → Type 0
EditsLine old new line taken taken_after r =
    ((has_answered new ≡ has_answered old) × ServesLine (run_of old) (run_of new) line taken taken_after (without_next r))
    ⊎ ((has_answered new ≡ true) × (memory : Bool) × (request : RequestAt) × LeavesLine memory (run_of old) (run_of new) line request)
