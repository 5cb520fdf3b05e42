-- The requests of the lines that an edit served so far, which are the first of those of the whole text.
use Rattle.std.proofs.Common.{◌≡◌, ℕ, Bool, true, false, List, [], ◌∷◌, ◌++◌, map, Option, Some, None, Result, Ok, refl, sym, ap, ◌∙◌, append_assoc, ⊎_elim, inl, inr}
use Rattle.std.specs.Prelude.{◌⊎◌, ◌||◌}
use Rattle.std.proofs.lemmas.Bool.{false≢true}
use Rattle.std.proofs.lemmas.List.Folds.{list_any-append}
use Rattle.std.specs.Io.KnownBytes.{Appends}
use Rattle.coll_devices.specs.PhysicalLines.{IsInLine, lines_of}
use Rattle.coll_devices.specs.LineReading.{Cuts}
use Rattle.coll_devices.proofs.PhysicalLinesLemmas.{lines_of-cut}
use Rattle.coll_lex.specs.LogicalLines.{LexerState, first_state, logical_lines, served, state_by}
use Rattle.coll_requests.specs.OpenBlocks.{kept_requests}
use Rattle.coll_requests.specs.Parsing.{parsed_at}
use Rattle.coll_requests.specs.SessionLines.{parsed}
use Rattle.coll_requests.specs.Taking.{line_block, line_requests, stop_at}
use Rattle.coll_requests.specs.declared.open_blocks.OpenBlock.{OpenBlock}
use Rattle.coll_requests.specs.declared.requests.RequestAt.{RequestAt}
use Rattle.coll_requests.proofs.BlockLemmas.{requests_kept}
use Rattle.coll_bench.specs.Runs.{RunsFrom}
use Rattle.coll_bench.specs.Serving.{IsAtStart, Served, ServesLine, block_of, history_of, lexer_of, line_replies}
use Rattle.coll_faults.specs.declared.faults.RunFault.{RunFault}
use Rattle.coll_bench.proofs.RunLemmas.{parsed_later, requests_on}
use Rattle.coll_bench.proofs.RunSteps.{unread_after}
use Rattle.coll_edit.specs.EditRuns.{IsUnserved, LeavesSome, RunsAsSession, RunsUnanswered, leaves_one, requests_in}
use Rattle.coll_edit.specs.Editing.{EditsLine, LeavesLine, has_answered, is_left, run_of, without_next}
use Rattle.coll_edit.specs.declared.editors.Editor.{Editor}
use Rattle.coll_edit.specs.declared.editors.Next.{Next}

-- what further lines ask for, from where a session stands
abbrev pub asked_from : LexerState → Option OpenBlock → (starved : List Bool) → (ends : Bool) → List (List ℕ) → List RequestAt
asked_from s block starved ends lines = kept_requests ends block (map parsed (logical_lines starved ends s lines))

-- the lines served so far have these requests, whatever comes later; and where a line of `edit` was answered, one of them is left to it
pub record HasAsked (text : List ℕ) (unread : Option (List ℕ)) (editor : Editor) (lines : List (List ℕ)) (rest : List ℕ) (starved : List Bool) (asked : List RequestAt) : Type 0 where
  pub lines_are : lines_of text ≡ lines ++ lines_of rest
  pub unread_is : unread ≡ Some rest
  pub goes_on : (c : List Bool) (ends : Bool) (later : List (List ℕ)) → asked_from first_state None (starved ++ c) ends (lines ++ later)
      ≡ asked ++ asked_from (lexer_of (run_of editor)) (block_of (run_of editor)) c ends later
  pub left : has_answered editor ≡ true → leaves_one asked ≡ true

-- the same, of some lines
abbrev pub Asked : (text : List ℕ) → (unread : Option (List ℕ)) → Editor → Type 0
Asked text unread editor = (lines : List (List ℕ)) × (rest : List ℕ) × (starved : List Bool) × (asked : List RequestAt) × HasAsked text unread editor lines rest starved asked

-- an edit of which no line was served yet stands at the start of a text
pub unserved_start : (editor : Editor) → IsUnserved editor → IsAtStart (run_of editor) (history_of (run_of editor))
unserved_start editor u = record { parser = u.lexer; block = u.block; session = refl }

-- nothing was asked for yet
pub asked_begun : (text : List ℕ) (unread : Option (List ℕ)) (editor : Editor) → IsUnserved editor → unread ≡ Some text → Asked text unread editor
asked_begun text unread editor u is = (
  [],
  text,
  [],
  [],
  record {
    lines_are = refl;
    unread_is = is;
    goes_on = λ c ends later. ap (λ (s : LexerState). asked_from s None c ends later) (sym u.lexer) ∙ ap (λ (b : Option OpenBlock). asked_from (lexer_of (run_of editor)) b c ends later) (sym u.block);
    left = λ answered. absurd (false≢true (sym u.unanswered ∙ answered));
  },
)

-- what a line asks for comes before what later ones do
asked_next : (memory : Bool) (s : LexerState) (block : Option OpenBlock) (line : List ℕ) (c : List Bool) (ends : Bool) (later : List (List ℕ)) → stop_at (parsed_at memory s line) ≡ None
    → asked_from s block (memory ∷ c) ends (line ∷ later)
    ≡ line_requests block (parsed_at memory s line) ++ asked_from (state_by s (served memory s line)) (line_block block (parsed_at memory s line)) c ends later
asked_next memory s block line c ends later goes =
    ap (kept_requests ends block) (parsed_later memory c ends s line later)
    ∙ requests_on ends block (parsed_at memory s line) (map parsed (logical_lines c ends (state_by s (served memory s line)) later)) goes

-- where the session stands behind a line, and what of its requests is left to `edit`
record StepsTo (memory : Bool) (old new : Editor) (line : List ℕ) : Type 0 where
  goes_on : stop_at (parsed_at memory (lexer_of (run_of old)) line) ≡ None
  lexer : lexer_of (run_of new) ≡ state_by (lexer_of (run_of old)) (served memory (lexer_of (run_of old)) line)
  block : block_of (run_of new) ≡ line_block (block_of (run_of old)) (parsed_at memory (lexer_of (run_of old)) line)
  left : has_answered new ≡ true → (has_answered old ≡ true) ⊎ (leaves_one (line_requests (block_of (run_of old)) (parsed_at memory (lexer_of (run_of old)) line)) ≡ true)

-- one of all is one of the first or of the later ones
left_first : (xs ys : List RequestAt) → leaves_one xs ≡ true → leaves_one (xs ++ ys) ≡ true
left_first xs ys is = list_any-append (λ (r : RequestAt). is_left r.request) xs ys ∙ ap (λ (b : Bool). b || leaves_one ys) is

left_later : (xs ys : List RequestAt) → leaves_one ys ≡ true → leaves_one (xs ++ ys) ≡ true
left_later xs ys is = list_any-append (λ (r : RequestAt). is_left r.request) xs ys ∙ ap (λ (b : Bool). leaves_one xs || b) is ∙ or_true (leaves_one xs)
  where
    or_true : (b : Bool) → (b || true) ≡ true
    or_true true = refl
    or_true false = refl

asked_step : (text : List ℕ) (ended : Bool) (unread0 unread1 : Option (List ℕ)) (old new : Editor) (line : List ℕ) (memory : Bool)
    → Asked text unread0 old → Cuts ended unread0 unread1 line → IsInLine line → StepsTo memory old new line → Asked text unread1 new
asked_step text ended unread0 unread1 old new line memory (lines, rest, starved, asked, a) cuts whole t =
    let (rest2, unread_is, cut) = unread_after ended unread0 unread1 rest line a.unread_is cuts in
    let s = lexer_of (run_of old) in
    let block = block_of (run_of old) in
    let more = line_requests block (parsed_at memory s line) in (
      lines ++ line ∷ [],
      rest2,
      starved ++ memory ∷ [],
      asked ++ more,
      record {
        lines_are = a.lines_are ∙ ap (λ (ls : List (List ℕ)). lines ++ ls) (lines_of-cut ended rest line rest2 cut whole) ∙ sym (append_assoc lines (line ∷ []) (lines_of rest2));
        unread_is = unread_is;
        goes_on = λ c ends later.
            ap (λ (ls : List (List ℕ)). asked_from first_state None ((starved ++ memory ∷ []) ++ c) ends ls) (append_assoc lines (line ∷ []) later)
            ∙ ap (λ (l : List Bool). asked_from first_state None l ends (lines ++ line ∷ later)) (append_assoc starved (memory ∷ []) c)
            ∙ a.goes_on (memory ∷ c) ends (line ∷ later)
            ∙ ap (λ (us : List RequestAt). asked ++ us) (asked_next memory s block line c ends later t.goes_on
            ∙ ap (λ (x : LexerState). more ++ asked_from x (line_block block (parsed_at memory s line)) c ends later) (sym t.lexer)
            ∙ ap (λ (b : Option OpenBlock). more ++ asked_from (lexer_of (run_of new)) b c ends later) (sym t.block))
            ∙ sym (append_assoc asked more (asked_from (lexer_of (run_of new)) (block_of (run_of new)) c ends later));
        left = λ answered. ⊎_elim (λ (before : has_answered old ≡ true). left_first asked more (a.left before)) (λ (now : leaves_one more ≡ true). left_later asked more now) (t.left answered);
      },
    )

-- the session served the line
served_steps : (old new : Editor) (line : List ℕ) (memory starved : Bool) → Served memory starved (run_of old) (run_of new) line → has_answered new ≡ has_answered old → StepsTo memory old new line
served_steps old new line memory starved s same = record { goes_on = s.goes_on; lexer = s.parser; block = s.block; left = λ answered. inl (sym same ∙ answered) }

-- the session left the line to `edit`
left_steps : (old new : Editor) (line : List ℕ) (memory : Bool) (request : RequestAt) → LeavesLine memory (run_of old) (run_of new) line request → StepsTo memory old new line
left_steps old new line memory request l = record {
  goes_on = l.goes_on;
  lexer = l.lexer;
  block = l.block;
  left = λ _. inr (ap leaves_one l.requests ∙ ap (λ (b : Bool). b || false) l.left);
}

-- one more line was served
pub asked_on : (text : List ℕ) (ended : Bool) (unread0 unread1 taken0 taken1 : Option (List ℕ)) (old new : Editor) (line : List ℕ) (next : Next) → Asked text unread0 old
    → Cuts ended unread0 unread1 line → IsInLine line → EditsLine old new line taken0 taken1 (Ok next) → Asked text unread1 new
asked_on text ended unread0 unread1 taken0 taken1 old new line next a cuts whole edits =
    ⊎_elim (λ (e : (has_answered new ≡ has_answered old) × ServesLine (run_of old) (run_of new) line taken0 taken1 (Ok tt)).
    served_on e.0 e.1)
    (λ (e : (has_answered new ≡ true) × (memory : Bool) × (request : RequestAt) × LeavesLine memory (run_of old) (run_of new) line request).
    let (answered, memory, request, l) = e in asked_step text ended unread0 unread1 old new line memory a cuts whole (left_steps old new line memory request l))
    edits
  where
    served_on : has_answered new ≡ has_answered old → ((memory : Bool) × (starved : Bool) × Served memory starved (run_of old) (run_of new) line
        × Appends taken0 taken1 (line_replies memory starved (run_of old) line)) → Asked text unread1 new
    served_on same (memory, starved, s, sent) = asked_step text ended unread0 unread1 old new line memory a cuts whole (served_steps old new line memory starved s same)

-- where memory is refused to some lines, one of the text's requests is left to `edit`
abbrev pub LeavesOne : List ℕ → Type 0
LeavesOne text = (starved : List Bool) × (leaves_one (requests_in starved text) ≡ true)

-- the requests of the whole text begin with those so far
pub asked_leaves : (text : List ℕ) (unread : Option (List ℕ)) (editor : Editor) → Asked text unread editor → has_answered editor ≡ true → LeavesOne text
asked_leaves text unread editor (lines, rest, starved, asked, a) answered =
    let more = asked_from (lexer_of (run_of editor)) (block_of (run_of editor)) [] true (lines_of rest) in
    let all : requests_in (starved ++ []) text ≡ asked ++ more =
    sym (requests_kept true None (map parsed (logical_lines (starved ++ []) true first_state (lines_of text))))
    ∙ ap (λ (ls : List (List ℕ)). asked_from first_state None (starved ++ []) true ls) a.lines_are ∙ a.goes_on [] true (lines_of rest) in
    (starved ++ [], ap leaves_one all ∙ left_first asked more (a.left answered))

-- the edit ended with a line, behind which a line of `edit` was answered
pub line_leaves : (text : List ℕ) (ended : Bool) (unread0 unread1 taken0 taken1 : Option (List ℕ)) (old new : Editor) (line : List ℕ) (r : Result Next RunFault) → Asked text unread0 old
    → Cuts ended unread0 unread1 line → IsInLine line → EditsLine old new line taken0 taken1 r → has_answered new ≡ true → LeavesOne text
line_leaves text ended unread0 unread1 taken0 taken1 old new line r a cuts whole edits answered =
    ⊎_elim (λ (e : (has_answered new ≡ has_answered old) × ServesLine (run_of old) (run_of new) line taken0 taken1 (without_next r)). asked_leaves text unread0 old a (sym e.0 ∙ answered))
    (λ (e : (has_answered new ≡ true) × (memory : Bool) × (request : RequestAt) × LeavesLine memory (run_of old) (run_of new) line request).
    let (is, memory, request, l) = e in
    asked_leaves text unread1 new (asked_step text ended unread0 unread1 old new line memory a cuts whole (left_steps old new line memory request l)) answered)
    edits

-- where nothing is left to `edit`, none of its lines was answered, and so the run is that of a session
pub as_session : (old new : Editor) (left left_after taken taken_after : Option (List ℕ)) (r : Result (Unit {0}) RunFault)
    → RunsUnanswered old new left left_after taken taken_after r → (has_answered new ≡ true → LeavesSome left) → RunsAsSession old left left_after taken taken_after r
as_session old new left left_after taken taken_after r run some nothing = by_answered (has_answered new) refl
  where
    by_answered : (b : Bool) → has_answered new ≡ b → RunsFrom (history_of (run_of old)) left left_after taken taken_after r
    by_answered false is text before left_is taken_is = run is text before left_is taken_is
    by_answered true is text before left_is taken_is = let (starved, one) = some is text left_is in absurd (false≢true (sym (nothing text starved left_is) ∙ one))
