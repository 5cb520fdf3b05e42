-- A run that is under way: what was read and written so far, and that all that may come later goes on from there.
use Rattle.std.specs.Prelude.{◌≡◌, ℕ, Bool, true, false, List, [], ◌++◌, map, Option, Some, None}
use Rattle.coll_devices.specs.PhysicalLines.{lines_of, with_feeds}
use Rattle.coll_lex.specs.LogicalLines.{LexerState, first_state, logical_lines}
use Rattle.coll_history.specs.Histories.{History}
use Rattle.coll_requests.specs.SessionLines.{parsed}
use Rattle.coll_requests.specs.OpenBlocks.{kept_requests}
use Rattle.coll_bench.specs.Replies.{answers}
use Rattle.coll_bench.specs.Runs.{last_line}
use Rattle.coll_requests.specs.declared.open_blocks.OpenBlock.{OpenBlock}
use Rattle.coll_bench.specs.declared.serving.RunState.{RunState}

-- what is written from some moment on, for further physical lines: where the lexer stands, which block is kept and the
-- history say the moment. Memory is refused to lines and requests as the choices say; the test says whether the text's
-- end is seen
unfoldable pub written_from : LexerState → Option OpenBlock → History → (lines_starved requests_starved : List Bool) → (ends : Bool)
    → List (List ℕ) → List ℕ
written_from s block h lines_starved requests_starved ends lines =
    answers h (kept_requests ends block (map parsed (logical_lines lines_starved ends s lines))) requests_starved

-- what was read are whole lines, whatever comes after them
abbrev pub IsCut : List ℕ → Type 0
IsCut read = (later : List ℕ) → lines_of (read ++ later) ≡ lines_of read ++ lines_of later

-- where the end of the input wasn't met, what was read are lines that each end in a line feed; past the end nothing is left
pub record IsCutThere (ended : Bool) (read rest : List ℕ) : Type 0 where
  pub cut : ended ≡ false → IsCut read
  pub in_feeds : ended ≡ false → read ≡ with_feeds (lines_of read)
  pub past_end : ended ≡ true → rest ≡ []

-- what was read and written of a text so far, and how it goes on for all further lines and choices; the test says whether
-- the end of the input was met
pub record IsUnderway (start : History) (text before : List ℕ) (ended : Bool) (unread taken : Option (List ℕ)) (state : RunState)
    (read rest written : List ℕ) (lines requests : List Bool) : Type 0 where
  pub text_is : text ≡ read ++ rest
  pub there : IsCutThere ended read rest
  pub unread_is : unread ≡ Some rest
  pub taken_is : taken ≡ Some (before ++ written)
  pub goes_on : (c d : List Bool) (ends : Bool) (later : List (List ℕ)) → written_from first_state None start (lines ++ c)
      (requests ++ d) ends (lines_of read ++ later) ≡ written ++ written_from state.parser state.block state.session.history c d ends later
  pub last : (c : List Bool) (ends : Bool) (later : List (List ℕ))
      → last_line (logical_lines (lines ++ c) ends first_state (lines_of read ++ later))
      ≡ last_line (logical_lines c ends state.parser later)

-- the same, of some reading and writing
abbrev pub Underway : History → List ℕ → List ℕ → (ended : Bool) → Option (List ℕ) → Option (List ℕ) → RunState → Type 0
Underway start text before ended unread taken state =
    (read : List ℕ) × (rest : List ℕ) × (written : List ℕ) × (lines : List Bool) × (requests : List Bool)
    × IsUnderway start text before ended unread taken state read rest written lines requests
