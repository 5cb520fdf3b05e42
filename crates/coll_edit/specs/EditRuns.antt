-- A whole run of an edit: where nothing is left to lines of `edit`, it is that of a session.
use Rattle.std.specs.Prelude.{◌≡◌, ℕ, Bool, true, false, List, map, Option, Some, None, Result}
use Rattle.std.specs.List.{list_any}
use Rattle.coll_devices.specs.PhysicalLines.{lines_of}
use Rattle.coll_lex.specs.LogicalLines.{first_state, logical_lines}
use Rattle.coll_requests.specs.SessionLines.{parsed}
use Rattle.coll_requests.specs.Requests.{requests}
use Rattle.coll_requests.specs.declared.delta_files.StatementAt.{StatementAt}
use Rattle.coll_requests.specs.declared.requests.RequestAt.{RequestAt}
use Rattle.coll_bench.specs.Runs.{RunsFrom}
use Rattle.coll_bench.specs.Serving.{block_of, history_of, lexer_of}
use Rattle.coll_faults.specs.declared.faults.RunFault.{RunFault}
use Rattle.coll_edit.specs.Editing.{PutsBehind, has_answered, is_left, run_of}
use Rattle.coll_edit.specs.declared.editors.Editor.{Editor}

-- an edit of which no line was served yet
pub record IsUnserved (editor : Editor) : Type 0 where
  pub lexer : lexer_of (run_of editor) ≡ first_state
  pub block : block_of (run_of editor) ≡ None
  pub unanswered : has_answered editor ≡ false

-- these statements were put behind those that remained of an edit, which serves no line by that
pub record Leads (start : Editor) (given : List StatementAt) (now : Editor) : Type 0 where
  pub puts : PutsBehind (history_of (run_of start)) given (history_of (run_of now))
  pub unserved : IsUnserved start → IsUnserved now

-- no line of `edit` was answered, and so the run was that of a session behind the history of the edit, which it began with
abbrev pub RunsUnanswered : (old new : Editor) → (left left_after taken taken_after : Option (List ℕ)) → Result (Unit {0}) RunFault → Type 0
RunsUnanswered old new left left_after taken taken_after r =
    has_answered new ≡ false → RunsFrom (history_of (run_of old)) left left_after taken taken_after r

-- the requests of a session text, where memory was refused to these lines
abbrev pub requests_in : (starved : List Bool) → (text : List ℕ) → List RequestAt
requests_in starved text = requests true None (map parsed (logical_lines starved true first_state (lines_of text)))

-- whether one of some requests is left to `edit`
abbrev pub leaves_one : List RequestAt → Bool
leaves_one requests = list_any (λ (request : RequestAt). is_left request.request) requests

-- no request of the text, whatever lines memory is refused to, is one that a session refuses with 29 or 64
abbrev pub LeavesNothing : (left : Option (List ℕ)) → Type 0
LeavesNothing left = (text : List ℕ) (starved : List Bool) → left ≡ Some text → leaves_one (requests_in starved text) ≡ false

-- where memory is refused to some lines of the text, one of its requests is left to `edit`
abbrev pub LeavesSome : (left : Option (List ℕ)) → Type 0
LeavesSome left = (text : List ℕ) → left ≡ Some text → (starved : List Bool) × (leaves_one (requests_in starved text) ≡ true)

-- the law of an edit: where a session would refuse nothing of the text with 29 or 64, the run is that of a session behind the history
-- of the edit, in which the statements of delta files are the first
abbrev pub RunsAsSession : Editor → (left left_after taken taken_after : Option (List ℕ)) → Result (Unit {0}) RunFault → Type 0
RunsAsSession editor left left_after taken taken_after r =
    LeavesNothing left → RunsFrom (history_of (run_of editor)) left left_after taken taken_after r
