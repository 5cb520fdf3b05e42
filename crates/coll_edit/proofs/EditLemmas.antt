-- A line of an edit: the session serves it, or leaves it to `edit`.
use Rattle.std.proofs.Common.{◌≡◌, ℕ, Bool, true, false, List, [], ◌∷◌, Option, Some, None, Result, Ok, Err, refl, sym, ap, ◌∙◌, ⊎_elim, inl, inr}
use Rattle.std.specs.Prelude.{IfOk, OnOk, option_to_list}
use Rattle.std.proofs.lemmas.Bool.{false≢true}
use Rattle.coll_devices.specs.PhysicalLines.{IsInLine}
use Rattle.coll_devices.specs.LineReading.{Cuts}
use Rattle.coll_history.specs.Histories.{History, SessionValue}
use Rattle.coll_requests.specs.declared.requests.RequestAt.{RequestAt}
use Rattle.coll_requests.specs.declared.requests.Request.TheVariants as kind
use Rattle.coll_requests.specs.declared.session_lines.Command.{Command}
use Rattle.coll_requests.specs.declared.session_lines.Command.TheVariants as command
use Rattle.coll_bench.specs.Serving.{TakesLine, ServesLine, block_of, history_after_all, history_of, lexer_of, replies_to}
use Rattle.coll_faults.specs.declared.faults.RunFault.{RunFault}
use Rattle.coll_bench.specs.declared.serving.RunState.{RunState}
use Rattle.coll_bench.proofs.ReplyLemmas.{key_leaves, order_leaves}
use Rattle.coll_bench.specs.Underway.{Underway}
use Rattle.coll_bench.proofs.RunExits.{Leaves, line_ended}
use Rattle.coll_bench.proofs.RunSteps.{underway_on}
use Rattle.coll_bench.proofs.ServingLemmas.{serves_taken, serves_failed}
use Rattle.coll_edit.specs.Editing.{AnswersRequest, EditsLine, IsLeft, IsLook, LeavesLine, Replies, has_answered, run_of, without_next}
use Rattle.coll_edit.specs.declared.editors.Editor.{Editor}
use Rattle.coll_edit.specs.declared.editors.Next.{Next}
use Rattle.coll_edit.specs.declared.editors.Next.TheVariants as after

-- what answering a request as the session does comes to
abbrev Answered : RunState → RunState → Option RequestAt → (taken taken_after : Option (List ℕ)) → Result (Unit {0}) RunFault → Type 0
Answered mid new request taken taken_after r = (starved : Bool)
    × Replies taken taken_after (replies_to starved (history_of mid) (option_to_list request)) r
    × (history_of new ≡ history_after_all starved (history_of mid) (option_to_list request))

serves : (old mid new : RunState) (line : List ℕ) (request : Option RequestAt) (taken taken_after : Option (List ℕ)) (r : Result (Unit {0}) RunFault)
    → TakesLine old mid line taken taken (Ok request) → lexer_of new ≡ lexer_of mid → block_of new ≡ block_of mid
    → Answered mid new request taken taken_after r → ServesLine old new line taken taken_after r
serves old mid new line request taken taken_after (Ok done) takes lexer block (starved, sent, history) =
    serves_taken {E = RunFault} old mid new line request taken taken taken_after (Ok done) takes refl lexer block (starved, sent, history)
serves old mid new line request taken taken_after (Err ended) takes lexer block (starved, (is, sent), history) =
    serves_failed old new line taken taken_after ended is
    (serves_taken {E = RunFault} old mid new line request taken taken taken_after (Err ended) takes refl lexer block (starved, sent, history))

leaves : (old mid new : RunState) (line : List ℕ) (request : Option RequestAt) (taken : Option (List ℕ))
    → TakesLine old mid line taken taken (Ok request) → lexer_of new ≡ lexer_of mid → block_of new ≡ block_of mid → history_of new ≡ history_of mid
    → IsLeft request → (memory : Bool) × (left : RequestAt) × LeavesLine memory old new line left
leaves old mid new line None taken takes lexer block history left = absurd left
leaves old mid new line (Some request) taken ((memory, takes), kept) lexer block history left = (
  memory,
  request,
  record {
    goes_on = takes.answers.0;
    lexer = lexer ∙ takes.stands;
    block = block ∙ takes.answers.1;
    requests = sym takes.answers.2;
    left = left;
    history = history ∙ ap (λ (s : SessionValue). s.history) kept;
  },
)

pub edits_taken : (old mid new : Editor) (line : List ℕ) (request : Option RequestAt) (taken taken_after : Option (List ℕ)) (r : Result Next RunFault)
    → TakesLine (run_of old) (run_of mid) line taken taken (Ok request) → has_answered mid ≡ has_answered old
    → lexer_of (run_of new) ≡ lexer_of (run_of mid) → block_of (run_of new) ≡ block_of (run_of mid)
    → AnswersRequest mid new request taken taken_after r → EditsLine old new line taken taken_after r
edits_taken old mid new line request taken taken_after r takes same lexer block answers =
    ⊎_elim (λ (a : (has_answered new ≡ has_answered mid) × (starved : Bool)
    × Replies taken taken_after (replies_to starved (history_of (run_of mid)) (option_to_list request)) (without_next r)
    × (history_of (run_of new) ≡ history_after_all starved (history_of (run_of mid)) (option_to_list request))).
    let (kept, starved, replies, history) = a in
    inl (kept ∙ same, serves (run_of old) (run_of mid) (run_of new) line request taken taken_after (without_next r) takes lexer block (starved, replies, history)))
    (λ (a : (has_answered new ≡ true) × IsLeft request × (history_of (run_of new) ≡ history_of (run_of mid))).
    let (memory, left, l) = leaves (run_of old) (run_of mid) (run_of new) line request taken takes lexer block a.2 a.1 in inr (a.0, memory, left, l))
    answers

-- a look at the table leaves the history
pub look_leaves : (starved : Bool) (h : History) (line : ℕ) (c : Command) → IsLook c → history_after_all starved h (record { line = line; request = kind.Command c } ∷ []) ≡ h
unfolding history_after_all
look_leaves starved h line command.Undo look = absurd look
look_leaves starved h line command.Redo look = absurd look
look_leaves starved h line command.List look = absurd look
look_leaves starved h line command.Print look = absurd look
look_leaves starved h line (command.Key text) look = key_leaves starved h text
look_leaves starved h line (command.Compare text other_text) look = order_leaves starved h text other_text
look_leaves starved h line command.History look = absurd look
look_leaves starved h line (command.Withdraw number) look = absurd look
look_leaves starved h line command.Check look = absurd look

-- an edit that goes on by a line, where no line of `edit` was answered
pub underway_edited : (start : History) (text before : List ℕ) (ended ended2 : Bool) (unread0 unread1 taken0 taken1 : Option (List ℕ)) (old new : Editor) (line : List ℕ) (next : Next)
    → (has_answered old ≡ false → Underway start text before ended unread0 taken0 (run_of old)) → ended ≡ false → Cuts ended2 unread0 unread1 line → IsInLine line
    → EditsLine old new line taken0 taken1 (Ok next) → has_answered new ≡ false → Underway start text before ended2 unread1 taken1 (run_of new)
underway_edited start text before ended ended2 unread0 unread1 taken0 taken1 old new line next u going cuts whole edits unanswered =
    ⊎_elim (λ (a : (has_answered new ≡ has_answered old) × ServesLine (run_of old) (run_of new) line taken0 taken1 (Ok tt)).
    underway_on start text before ended ended2 unread0 unread1 taken0 taken1 (run_of old) (run_of new) line (u (sym a.0 ∙ unanswered)) going cuts whole a.1)
    (λ (a : (has_answered new ≡ true) × (memory : Bool) × (request : RequestAt) × LeavesLine memory (run_of old) (run_of new) line request).
    absurd (false≢true (sym unanswered ∙ a.0)))
    edits

-- an edit that ends with the fault of a line, where no line of `edit` was answered
pub edit_ended : (start : History) (text before : List ℕ) (left : Option (List ℕ)) (ended0 ended1 : Bool) (unread0 unread1 taken0 taken1 : Option (List ℕ)) (old new : Editor) (line : List ℕ)
    (ended : RunFault)
    → (has_answered old ≡ false → Underway start text before ended0 unread0 taken0 (run_of old)) → ended0 ≡ false → Cuts ended1 unread0 unread1 line → IsInLine line
    → EditsLine old new line taken0 taken1 (Err ended) → has_answered new ≡ false → Leaves start text before left taken1 (Err ended)
edit_ended start text before left ended0 ended1 unread0 unread1 taken0 taken1 old new line ended u going cuts whole edits unanswered =
    ⊎_elim (λ (a : (has_answered new ≡ has_answered old) × ServesLine (run_of old) (run_of new) line taken0 taken1 (Err ended)).
    line_ended start text before left ended0 ended1 unread0 unread1 taken0 taken1 (run_of old) line ended (u (sym a.0 ∙ unanswered)) going cuts whole a.1)
    (λ (a : (has_answered new ≡ true) × (memory : Bool) × (request : RequestAt) × LeavesLine memory (run_of old) (run_of new) line request).
    absurd (false≢true (sym unanswered ∙ a.0)))
    edits

-- what holds anyway holds of an answer
pub on_ok : {P : Type 0} (r : Result Next RunFault) → P → OnOk r P
on_ok (Ok next) p = p
on_ok (Err ended) p = tt

-- what is told behind a line leaves the session, and whether a line of `edit` was answered
pub edits_told : (old mid new : Editor) (line : List ℕ) (taken taken_after : Option (List ℕ)) (r : Result Next RunFault) → run_of new ≡ run_of mid → has_answered new ≡ has_answered mid
    → EditsLine old mid line taken taken_after r → EditsLine old new line taken taken_after r
edits_told old mid new line taken taken_after r same answered edits = rw (same, answered) edits

pub ends_told : (b c : Bool) (r : Result Next RunFault) → c ≡ b → IfOk r (λ (next : Next). next ≡ after.End → b ≡ true) → IfOk r (λ (next : Next). next ≡ after.End → c ≡ true)
ends_told b c r same ends = rw same ends
