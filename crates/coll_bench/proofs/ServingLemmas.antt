-- Serving a line: the request that it completes is answered, or there is none.
use Rattle.std.proofs.Common.{◌≡◌, ℕ, ◌+◌, ◌<◌, ◌≤◌, min, arith, Bool, true, false, List, [], ◌∷◌, ◌++◌, Option, Some, None}
use Rattle.std.proofs.Common.{Result, Ok, Err, refl, sym, ap, ◌∙◌, subst, append-nil, append_assoc, ⊎_elim, inl, inr}
use Rattle.std.specs.Prelude.{◌⊎◌, ◌==◌, option_to_list, if◌then◌else◌}
use Rattle.std.specs.Io.KnownBytes.{Appends}
use Rattle.std.proofs.KnownBytes.{Appends-nil}
use Rattle.std.proofs.Math.Arith.{lt_of_le-ne}
use Rattle.std.proofs.Math.Nat.{min-eq_left}
use Rattle.coll_devices.specs.Devices.{AppendsPrefix, Sends, raised}
use Rattle.coll_lex.specs.Faults.{lex_fault_number, ends_text}
use Rattle.coll_devices.specs.LineReading.{counted}
use Rattle.coll_lex.specs.LogicalLines.{LexerState, number_of, first_line, fed, is_among_tokens, needs_memory, takes_memory, served, state_by}
use Rattle.coll_lex.specs.declared.tokens.Line.{Line}
use Rattle.coll_lex.specs.Limits.{most_lines}
use Rattle.coll_devices.specs.declared.stops.ReadStop.{ReadStop}
use Rattle.coll_lex.specs.declared.faults.LexFault.{LexFault}
use Rattle.coll_lex.specs.declared.faults.LexFault.TheVariants as lex
use Rattle.coll_lex.proofs.LineEnds.{fed-count, fed-room}
use Rattle.coll_lex.proofs.LineFaults.{fed-full}
use Rattle.coll_faults.specs.Faults.{fault_number, fault_of}
use Rattle.coll_history.specs.Histories.{History, SessionValue}
use Rattle.coll_requests.specs.SessionLines.{opening_of, tokens_parsed, fault_parsed}
use Rattle.coll_requests.proofs.LineStops.{tokens_go_on}
use Rattle.coll_requests.specs.Parsing.{parsed_by, parsed_in, parsed_at}
use Rattle.coll_requests.specs.Requests.{fault_at, stop_of, refusals}
use Rattle.coll_requests.specs.OpenBlocks.{kept_dropped_faults, kept_last_faults}
use Rattle.coll_bench.specs.Replies.{refused_line, refused_lines, reply, history_after, reply_if, history_after_if}
use Rattle.coll_requests.specs.Taking.{stop_at, requests_or_last, line_requests, TakesPhysical}
use Rattle.coll_bench.specs.Serving.{replies_to, history_after_all, Served, EndsSession, EndsWith, EndsAtLine, ReadsNone, CountsStop, read_failed, write_failed, line_replies}
use Rattle.coll_faults.specs.declared.faults.Fault.TheVariants as faults
use Rattle.coll_requests.specs.declared.request_faults.RequestFault.TheVariants as request
use Rattle.coll_faults.specs.declared.faults.RunFault.{RunFault}
use Rattle.coll_requests.specs.declared.open_blocks.OpenBlock.{OpenBlock}
use Rattle.coll_requests.specs.declared.session_lines.Opening.{Opening}
use Rattle.coll_requests.specs.declared.session_lines.ParsedLine.{ParsedLine}
use Rattle.coll_requests.specs.declared.requests.RequestAt.{RequestAt}
use Rattle.coll_requests.specs.declared.requests.FaultAt.{FaultAt}
use Rattle.coll_bench.specs.declared.serving.RunState.{RunState}

one_answer : (starved : Bool) (h : History) (request : RequestAt) → reply_if starved h request.request ≡ replies_to starved h (request ∷ [])
unfolding replies_to
one_answer starved h request = sym (append-nil (reply_if starved h request.request))

one_history : (starved : Bool) (h : History) (request : RequestAt) → history_after_if starved h request.request ≡ history_after_all starved h (request ∷ [])
unfolding history_after_all
one_history starved h request = refl

-- a line that completes a request
pub takes_one : {T E : Type 0} (h h2 : History) (request : RequestAt) (taken taken_after : Option (List ℕ)) (r : Result T E)
    → (starved : Bool) × Sends taken taken_after (reply_if starved h request.request) r × (h2 ≡ history_after_if starved h request.request)
    → (starved : Bool) × Sends taken taken_after (replies_to starved h (request ∷ [])) r × (h2 ≡ history_after_all starved h (request ∷ []))
takes_one h h2 request taken taken_after r (starved, sent, state) =
    (starved, subst (λ (bytes : List ℕ). Sends taken taken_after bytes r) (one_answer starved h request) sent, state ∙ one_history starved h request)

-- a line that completes none
pub takes_none : (h : History) (taken : Option (List ℕ)) → (starved : Bool) × Appends taken taken (replies_to starved h []) × (h ≡ history_after_all starved h [])
unfolding replies_to history_after_all
takes_none h taken = (false, Appends-nil taken, refl)

fault_stops : (o : Opening) (f : LexFault) → (f ≡ lex.LineTooLong) ⊎ (f ≡ lex.TooManyLines) → stop_of (fault_parsed o f) ≡ None → ⊥
fault_stops o f which none =
    let P : LexFault → Type 0 = λ g. stop_of (fault_parsed o g) ≡ None in
    ⊎_elim (λ (e : f ≡ lex.LineTooLong). let g : Some lex.LineTooLong ≡ None = subst P e none in cc)
    (λ (e : f ≡ lex.TooManyLines). let g : Some lex.TooManyLines ≡ None = subst P e none in cc)
    which

room_by : (s : LexerState) (line : List ℕ) (n : ℕ) (o : Opening) (a : Result (Option Line × LexerState) LexFault) → fed s line ≡ a → stop_at (parsed_by true n o a) ≡ None → s.count ≡ most_lines → ⊥
room_by s line n o (Ok (answer, after)) e none full = fed-room s line answer after e full
room_by s line n o (Err f) e none full = fault_stops o f (fed-full s line f e full) none

-- no memory is taken for a line too many
spared_when_full : (s : LexerState) (line : List ℕ) (a : Result (Option Line × LexerState) LexFault) → fed s line ≡ a → s.count ≡ most_lines → needs_memory a ≡ false
spared_when_full s line (Ok (answer, after)) e full = absurd (fed-room s line answer after e full)
spared_when_full s line (Err f) e full = ⊎_elim (λ (long : f ≡ lex.LineTooLong). ap is_among_tokens long) (λ (many : f ≡ lex.TooManyLines). ap is_among_tokens many) (fed-full s line f e full)

served_when_full : (memory : Bool) (s : LexerState) (line : List ℕ) → s.count ≡ most_lines → served memory s line ≡ fed s line
unfolding served takes_memory
served_when_full true s line full = ap (λ (b : Bool). if b then Err lex.OutOfMemory else fed s line) (spared_when_full s line (fed s line) refl full)
served_when_full false s line full = refl

-- a line that doesn't end the session is none too many
room_at : (memory : Bool) (s : LexerState) (line : List ℕ) → stop_at (parsed_at memory s line) ≡ None → s.count ≡ most_lines → ⊥
unfolding parsed_in
room_at memory s line none full = room_by s line (number_of s) (opening_of (first_line s line)) (served memory s line) (sym (served_when_full memory s line full)) none full

-- a line that doesn't end the session is counted
pub record CountsLine (s s2 : LexerState) : Type 0 where
  pub counts : s2.count ≡ s.count + 1
  pub room : s.count < most_lines

count_by : (s : LexerState) (line : List ℕ) (a : Result (Option Line × LexerState) LexFault) → fed s line ≡ a → (state_by s a).count ≡ min (s.count + 1) most_lines
count_by s line (Ok (answer, after)) e = fed-count s line answer after e
count_by s line (Err f) e = refl

count_cases : (memory : Bool) (s : LexerState) (line : List ℕ) → (state_by s (served memory s line)).count ≡ min (s.count + 1) most_lines
unfolding served
count_cases true s line = starved_or (takes_memory s line)
  where
    starved_or : (b : Bool) → (state_by s (if b then Err lex.OutOfMemory else fed s line)).count ≡ min (s.count + 1) most_lines
    starved_or true = refl
    starved_or false = count_by s line (fed s line) refl
count_cases false s line = count_by s line (fed s line) refl

count_of : (memory : Bool) (s s2 : LexerState) (line : List ℕ) → s2 ≡ state_by s (served memory s line) → stop_at (parsed_at memory s line) ≡ None → s.count ≤ most_lines → CountsLine s s2
count_of memory s s2 line stands none few =
    let room : s.count < most_lines = lt_of_le-ne few (room_at memory s line none) in
    let fits : s.count + 1 ≤ most_lines = omega (arith, room) in
    record { counts = ap (λ (x : LexerState). x.count) stands ∙ count_cases memory s line ∙ min-eq_left fits; room = room }

-- a line that was taken, and what then holds of its block and its request
abbrev pub Takes : (s s2 : LexerState) → List ℕ → (block block2 : Option OpenBlock) → Result (Option RequestAt) LexFault → Type 0
Takes s s2 line block block2 r = (memory : Bool) × TakesPhysical memory s s2 line block block2 r

pub counts_line : (s s2 : LexerState) (line : List ℕ) (block block2 : Option OpenBlock) (completed : Option RequestAt) → Takes s s2 line block block2 (Ok completed) → s.count ≤ most_lines
    → CountsLine s s2
counts_line s s2 line block block2 completed (memory, takes) few = count_of memory s s2 line takes.stands takes.answers.0 few

-- a line that was taken, with its reply
pub serves_taken : {E : Type 0} (old mid new : RunState) (line : List ℕ) (completed : Option RequestAt) (taken taken1 taken_after : Option (List ℕ)) (r : Result (Unit {0}) E)
    → Takes old.parser mid.parser line old.block mid.block (Ok completed) × (mid.session ≡ old.session) → taken1 ≡ taken → new.parser ≡ mid.parser → new.block ≡ mid.block
    → (starved : Bool) × Sends taken1 taken_after (replies_to starved mid.session.history (option_to_list completed)) r
    × (new.session.history ≡ history_after_all starved mid.session.history (option_to_list completed))
    → (memory : Bool) × (starved : Bool) × Served memory starved old new line × Sends taken taken_after (line_replies memory starved old line) r
serves_taken old mid new line completed taken taken1 taken_after r ((memory, takes), kept) same parser block (starved, sent, session) =
    let history : mid.session.history ≡ old.session.history = ap (λ (s : SessionValue). s.history) kept in (
      memory,
      starved,
      record {
        goes_on = takes.answers.0;
        parser = parser ∙ takes.stands;
        block = block ∙ takes.answers.1;
        session = session ∙ ap (λ (h : History). history_after_all starved h (option_to_list completed)) history ∙ ap (history_after_all starved old.session.history) takes.answers.2;
      },
      subst (λ (t : Option (List ℕ)). Sends t taken_after (line_replies memory starved old line) r) same
          (subst (λ (requests : List RequestAt). Sends taken1 taken_after (replies_to starved old.session.history requests) r) takes.answers.2
          (subst (λ (h : History). Sends taken1 taken_after (replies_to starved h (option_to_list completed)) r) history sent)),
    )

refusals_replies : (starved : Bool) (h : History) (faults : List FaultAt) → replies_to starved h (refusals faults) ≡ refused_lines faults
unfolding replies_to refused_lines reply history_after
refusals_replies starved h [] = refl
refusals_replies true h (at ∷ faults) = ap (λ (bytes : List ℕ). refused_line (fault_of at.fault) ++ bytes) (refusals_replies true h faults)
refusals_replies false h (at ∷ faults) = ap (λ (bytes : List ℕ). refused_line (fault_of at.fault) ++ bytes) (refusals_replies false h faults)

-- the replies at a line at which the session ends
pub stopped_replies : (memory starved : Bool) (old : RunState) (line : List ℕ) (x : ParsedLine) (f : LexFault) → parsed_at memory old.parser line ≡ Some x → stop_of x.parsed ≡ Some f
    → refused_lines (kept_last_faults old.block x.number f) ≡ line_replies memory starved old line
unfolding line_requests
stopped_replies memory starved old line x f at stops =
    sym (refusals_replies starved old.session.history (kept_last_faults old.block x.number f))
    ∙ ap (λ (o : Option LexFault). replies_to starved old.session.history (requests_or_last old.block x o)) (sym stops)
    ∙ ap (λ (h : Option ParsedLine). replies_to starved old.session.history (line_requests old.block h)) (sym at)

-- a line at which the session ends has the number of its logical line
stop_number : (n : ℕ) (o : Opening) (a : Result (Option Line × LexerState) LexFault) (x : ParsedLine) (f : LexFault) → parsed_by true n o a ≡ Some x → stop_of x.parsed ≡ Some f → x.number ≡ n
stop_number n o (Ok (None, after)) x f is stops = absurd cc
stop_number n o (Ok (Some line, after)) x f is stops =
    let h : tokens_parsed true o line.tokens ≡ x.parsed = cc in
    let none : stop_of (tokens_parsed true o line.tokens) ≡ None = tokens_go_on true o line.tokens in
    let some : stop_of (tokens_parsed true o line.tokens) ≡ Some f = ap stop_of h ∙ stops in
    absurd cc
stop_number n o (Err g) x f is stops = cc

number_at : (memory : Bool) (s : LexerState) (line : List ℕ) (x : ParsedLine) (f : LexFault) → parsed_at memory s line ≡ Some x → stop_of x.parsed ≡ Some f → x.number ≡ number_of s
unfolding parsed_in
number_at memory s line x f at stops = stop_number (number_of s) (opening_of (first_line s line)) (served memory s line) x f at stops

-- the last replies, at a line at which the session ends
last_replies : (memory starved : Bool) (old : RunState) (line : List ℕ) (h : Option ParsedLine) (f : LexFault) → parsed_at memory old.parser line ≡ h → stop_at h ≡ Some f
    → refused_lines (kept_last_faults old.block (number_of old.parser) f) ≡ line_replies memory starved old line
last_replies memory starved old line None f at stops = absurd cc
last_replies memory starved old line (Some x) f at stops =
    ap (λ (n : ℕ). refused_lines (kept_last_faults old.block n f)) (sym (number_at memory old.parser line x f at stops)) ∙ stopped_replies memory starved old line x f at stops

-- a line at which the session ends, with its last replies
pub serves_stop : (old : RunState) (s2 : LexerState) (block2 : Option OpenBlock) (line : List ℕ) (f : LexFault) (number : ℕ) (taken taken_after : Option (List ℕ)) (ended : RunFault)
    → Takes old.parser s2 line old.block block2 (Err f) → number ≡ number_of old.parser → EndsWith number f taken taken_after (refused_lines (kept_last_faults block2 number f)) ended
    → (memory : Bool) × (starved : Bool) × EndsAtLine memory starved old line taken taken_after ended
serves_stop old s2 block2 line f number taken taken_after ended (memory, takes) number_is ends =
    let at_number : EndsWith (number_of old.parser) f taken taken_after (refused_lines (kept_last_faults block2 (number_of old.parser) f)) ended =
    subst (λ (n : ℕ). EndsWith n f taken taken_after (refused_lines (kept_last_faults block2 n f)) ended) number_is ends in
    let replies : refused_lines (kept_last_faults block2 (number_of old.parser) f) ≡ line_replies memory false old line =
    ap (λ (b : Option OpenBlock). refused_lines (kept_last_faults b (number_of old.parser) f)) takes.answers.1
    ∙ last_replies memory false old line (parsed_at memory old.parser line) f refl takes.answers.0 in
    (memory, false, inl (f, takes.answers.0, subst (λ (bytes : List ℕ). EndsWith (number_of old.parser) f taken taken_after bytes ended) replies at_number))

-- a line of whose reply a write failed
pub serves_failed : (old new : RunState) (line : List ℕ) (taken taken_after : Option (List ℕ)) (ended : RunFault) → ended ≡ write_failed
    → (memory : Bool) × (starved : Bool) × Served memory starved old new line × AppendsPrefix taken taken_after (line_replies memory starved old line)
    → (memory : Bool) × (starved : Bool) × EndsAtLine memory starved old line taken taken_after ended
serves_failed old new line taken taken_after ended is s = (s.0, s.1, inr (s.2.goes_on, is, s.3))

-- the last replies at a line too long or too many
pub refused_lines-push : (faults : List FaultAt) (at : FaultAt) → refused_lines (faults ++ at ∷ []) ≡ refused_lines faults ++ refused_line (fault_of at.fault)
unfolding refused_lines
refused_lines-push [] at = append-nil (refused_line (fault_of at.fault))
refused_lines-push (first ∷ faults) at = ap (λ (bytes : List ℕ). refused_line (fault_of first.fault) ++ bytes) (refused_lines-push faults at)
    ∙ sym (append_assoc (refused_line (fault_of first.fault)) (refused_lines faults) (refused_line (fault_of at.fault)))

-- the last replies at a fault that isn't that of a line continued where the text ends
pub dropped_replies : (block : Option OpenBlock) (n : ℕ) (f : LexFault) → (f ≡ lex.DanglingEscape → ⊥) → refused_lines (kept_dropped_faults block) ++ refused_line (faults.Lex f)
    ≡ refused_lines (kept_last_faults block n f)
dropped_replies block n f other = sym (refused_lines-push (kept_dropped_faults block) (fault_at n (request.Lex f))) ∙ ap refused_lines (sym (last_is f other))
  where
    last_is : (f : LexFault) → (f ≡ lex.DanglingEscape → ⊥) → kept_last_faults block n f ≡ kept_dropped_faults block ++ fault_at n (request.Lex f) ∷ []
    last_is lex.DanglingEscape other = absurd (other refl)
    last_is lex.LineTooLong other = refl
    last_is lex.TooManyLines other = refl
    last_is lex.NotUtf8 other = refl
    last_is lex.OpenSymbol other = refl
    last_is lex.EmptySymbol other = refl
    last_is lex.BadName other = refl
    last_is lex.BadCodePoint other = refl
    last_is lex.OpenString other = refl
    last_is lex.CharacterConstant other = refl
    last_is lex.BadCharDirective other = refl
    last_is lex.OutOfMemory other = refl

-- no fault of the lexer is that of a read
pub lex_reads_none : (f : LexFault) → (lex_fault_number f == 67) ≡ false
lex_reads_none lex.LineTooLong = refl
lex_reads_none lex.TooManyLines = refl
lex_reads_none lex.DanglingEscape = refl
lex_reads_none lex.NotUtf8 = refl
lex_reads_none lex.OpenSymbol = refl
lex_reads_none lex.EmptySymbol = refl
lex_reads_none lex.BadName = refl
lex_reads_none lex.BadCodePoint = refl
lex_reads_none lex.OpenString = refl
lex_reads_none lex.CharacterConstant = refl
lex_reads_none lex.BadCharDirective = refl
lex_reads_none lex.OutOfMemory = refl

pub write_reads_none : (ended : RunFault) → ended ≡ write_failed → ReadsNone ended
write_reads_none ended is = ap (λ (e : RunFault). fault_number e.fault == 67) is

-- a read is counted by the fault that it ends with, and by no other
pub counts_none : (failed : ℕ) (ended : RunFault) → ReadsNone ended → failed ≡ (if fault_number ended.fault == 67 then raised failed else failed)
counts_none failed ended none = ap (λ (b : Bool). if b then raised failed else failed) (sym none)

pub counts_read : (failed : ℕ) (ended : RunFault) → ended ≡ read_failed → raised failed ≡ (if fault_number ended.fault == 67 then raised failed else failed)
counts_read failed ended is = ap (λ (b : Bool). if b then raised failed else failed) (sym (ap (λ (e : RunFault). fault_number e.fault == 67) is))

pub counts_after : (old new : ℕ) (r : ReadStop) (ended : RunFault) → new ≡ counted r old → CountsStop r ended → new ≡ (if fault_number ended.fault == 67 then raised old else old)
counts_after old new r ended is counts = is ∙ counts old

-- a fault that ends a text may end a session
pub text_ends : (f : LexFault) → ends_text f ≡ true → EndsSession (faults.Lex f)
text_ends lex.NotUtf8 e = absurd cc
text_ends lex.OpenSymbol e = absurd cc
text_ends lex.EmptySymbol e = absurd cc
text_ends lex.BadName e = absurd cc
text_ends lex.BadCodePoint e = absurd cc
text_ends lex.OpenString e = absurd cc
text_ends lex.CharacterConstant e = absurd cc
text_ends lex.DanglingEscape e = absurd cc
text_ends lex.LineTooLong e = tt
text_ends lex.BadCharDirective e = absurd cc
text_ends lex.TooManyLines e = tt
text_ends lex.OutOfMemory e = absurd cc
