-- Lack of memory shows: a line or a request to which memory was refused has its reply in the output, or is one of a block that
-- has it. Where there is no such line and no such request, the output is the stated one.
use Rattle.std.proofs.Common.{◌≡◌, ℕ, Bool, true, false, List, [], ◌∷◌, ◌++◌, map, Option, Some, None, Result, Err, refl, sym, ap, ◌∙◌, subst, append_assoc, inl, inr, ⊎_elim}
use Rattle.std.specs.Prelude.{◌⊎◌, if◌then◌else◌, option_to_list}
use Rattle.coll_devices.specs.PhysicalLines.{lines_of}
use Rattle.coll_lex.specs.LogicalLines.{LexerState, LogicalLine, number_of, first_line, first_state, first_choice, later_choices, fed, takes_memory, served, state_by, lines_by, logical_lines}
use Rattle.coll_lex.specs.declared.tokens.Line.{Line}
use Rattle.coll_lex.specs.declared.faults.LexFault.{LexFault}
use Rattle.coll_lex.specs.declared.faults.LexFault.TheVariants as lex
use Rattle.coll_history.specs.Histories.{History, begun}
use Rattle.coll_history.specs.Withdrawal.{is_numbered}
use Rattle.coll_requests.specs.SessionLines.{opening_of, parsed}
use Rattle.coll_requests.specs.Parsing.{parsed_by, parsed_in, parsed_at}
use Rattle.coll_requests.specs.Requests.{starved_at, fault_at, refused_at}
use Rattle.coll_requests.specs.OpenBlocks.{open_at, kept_ended, kept_after, kept_requests_at, kept_last_faults, kept_requests}
use Rattle.coll_bench.specs.Replies.{refused_line, reply, history_after, starved_line, reply_if, history_after_if, answers}
use Rattle.coll_requests.specs.Taking.{stop_at, line_requests, line_block}
use Rattle.coll_bench.specs.Runs.{starved_output, output, last_line, last_of}
use Rattle.coll_bench.specs.Laws.{ShowsLack, LackShows, LackShowsLast}
use Rattle.coll_bench.specs.Underway.{written_from}
use Rattle.coll_faults.specs.Faults.{fault_of}
use Rattle.coll_requests.specs.declared.request_faults.RequestFault.{RequestFault}
use Rattle.coll_requests.specs.declared.request_faults.RequestFault.TheVariants as fault
use Rattle.coll_requests.specs.declared.session_lines.Command.{Command}
use Rattle.coll_requests.specs.declared.session_lines.Command.TheVariants as command
use Rattle.coll_requests.specs.declared.open_blocks.OpenBlock.{OpenBlock}
use Rattle.coll_requests.specs.declared.open_blocks.BlockStatus.{BlockStatus}
use Rattle.coll_requests.specs.declared.open_blocks.BlockStatus.TheVariants as status
use Rattle.coll_requests.specs.declared.session_lines.Opening.{Opening}
use Rattle.coll_requests.specs.declared.session_lines.Opening.TheVariants as opening
use Rattle.coll_requests.specs.declared.session_lines.Parsed.{Parsed}
use Rattle.coll_requests.specs.declared.session_lines.Parsed.TheVariants as line
use Rattle.coll_requests.specs.declared.session_lines.ParsedLine.{ParsedLine}
use Rattle.coll_requests.specs.declared.requests.Request.{Request}
use Rattle.coll_requests.specs.declared.requests.Request.TheVariants as kind
use Rattle.coll_requests.specs.declared.requests.RequestAt.{RequestAt}
use Rattle.coll_requests.proofs.ParsingLemmas.{served_starved}
use Rattle.coll_bench.proofs.RunEnds.{last_on, last_stop}
use Rattle.coll_bench.proofs.RunLemmas.{output_kept, parsed_later, requests_on, requests_stop}

-- the refusal for lack of memory, of some line
abbrev pub starved : ℕ → RequestAt
starved n = refused_at (starved_at n)

-- it is one of these requests
abbrev pub Lacks : List RequestAt → Type 0
Lacks us = (n : ℕ) × (first : List RequestAt) × (last : List RequestAt) × (us ≡ first ++ starved n ∷ last)

lacks_first : (n : ℕ) (later : List RequestAt) → Lacks (starved n ∷ later)
lacks_first n later = (n, [], later, refl)

pub lacks_later : (prefix us : List RequestAt) → Lacks us → Lacks (prefix ++ us)
lacks_later prefix us (n, first, last, is) = (n, prefix ++ first, last, ap (λ (x : List RequestAt). prefix ++ x) is ∙ sym (append_assoc prefix first (starved n ∷ last)))

shows_later : (prefix bytes : List ℕ) → ShowsLack bytes → ShowsLack (prefix ++ bytes)
shows_later prefix bytes (before, later, is) = (prefix ++ before, later, ap (λ (x : List ℕ). prefix ++ x) is ∙ sym (append_assoc prefix before (starved_line ++ later)))

-- a refused request has its reply, whatever the choices are
refused_reply : (c : Bool) (h : History) (f : RequestFault) → reply_if c h (kind.Refused f) ≡ refused_line (fault_of f)
unfolding reply
refused_reply true h f = refl
refused_reply false h f = refl

shows_at : (h : History) (n : ℕ) (first last : List RequestAt) (choices : List Bool) → ShowsLack (answers h (first ++ starved n ∷ last) choices)
unfolding answers
shows_at h n [] last choices =
    let r = kind.Refused (fault.Lex lex.OutOfMemory) in
    let later = answers (history_after_if (first_choice choices) h r) last (later_choices choices) in
    ([], later, ap (λ (bytes : List ℕ). bytes ++ later) (refused_reply (first_choice choices) h (fault.Lex lex.OutOfMemory)))
shows_at h n (request ∷ first) last choices =
    let h2 = history_after_if (first_choice choices) h request.request in
    shows_later (reply_if (first_choice choices) h request.request) (answers h2 (first ++ starved n ∷ last) (later_choices choices)) (shows_at h2 n first last (later_choices choices))

pub answers_lack : (h : History) (us : List RequestAt) (choices : List Bool) → Lacks us → ShowsLack (answers h us choices)
answers_lack h us choices (n, first, last, is) = subst (λ (x : List RequestAt). ShowsLack (answers h x choices)) (sym is) (shows_at h n first last choices)

-- the replies where memory was refused to some requests are those where it wasn't, or show it
abbrev pub Exact : List ℕ → List ℕ → Type 0
Exact written stated = (written ≡ stated) ⊎ ShowsLack written

exact_later : (prefix written stated : List ℕ) → Exact written stated → Exact (prefix ++ written) (prefix ++ stated)
exact_later prefix written stated e = ⊎_elim (λ (same : written ≡ stated). inl (ap (λ (x : List ℕ). prefix ++ x) same)) (λ (shows : ShowsLack written). inr (shows_later prefix written shows)) e

-- a request that is answered as if memory was there
answered_step : (h : History) (request : Request) (later : List RequestAt) (choices : List Bool) → ((h2 : History) → Exact (answers h2 later choices) (answers h2 later []))
    → Exact (reply h request ++ answers (history_after h request) later choices) (reply h request ++ answers (history_after h request) later [])
answered_step h request later choices ih = exact_later (reply h request) (answers (history_after h request) later choices) (answers (history_after h request) later []) (ih (history_after h request))

-- a withdrawal takes memory where a statement remains with the number, and is answered where none does
withdraw_step : (h : History) (k : ℕ) (later : List RequestAt) (choices : List Bool) → ((h2 : History) → Exact (answers h2 later choices) (answers h2 later [])) → (remains : Bool)
    → Exact ((if remains then starved_line else reply h (kind.Command (command.Withdraw k))) ++ answers (if remains then h else history_after h (kind.Command (command.Withdraw k))) later choices)
    (reply h (kind.Command (command.Withdraw k)) ++ answers (history_after h (kind.Command (command.Withdraw k))) later [])
withdraw_step h k later choices ih true = inr ([], answers h later choices, refl)
withdraw_step h k later choices ih false = answered_step h (kind.Command (command.Withdraw k)) later choices ih

-- a command that takes no memory is answered, and one that does may show it
command_step : (h : History) (c : Command) (later : List RequestAt) (choices : List Bool) → ((h2 : History) → Exact (answers h2 later choices) (answers h2 later []))
    → Exact (reply_if true h (kind.Command c) ++ answers (history_after_if true h (kind.Command c)) later choices)
    (reply_if false h (kind.Command c) ++ answers (history_after_if false h (kind.Command c)) later [])
command_step h command.Undo later choices ih = answered_step h (kind.Command command.Undo) later choices ih
command_step h command.Redo later choices ih = answered_step h (kind.Command command.Redo) later choices ih
command_step h command.List later choices ih = answered_step h (kind.Command command.List) later choices ih
command_step h command.Print later choices ih = answered_step h (kind.Command command.Print) later choices ih
command_step h (command.Key text) later choices ih = inr ([], answers h later choices, refl)
command_step h (command.Compare text other_text) later choices ih = inr ([], answers h later choices, refl)
command_step h command.History later choices ih = answered_step h (kind.Command command.History) later choices ih
command_step h (command.Withdraw k) later choices ih = withdraw_step h k later choices ih (is_numbered h k)
command_step h command.Check later choices ih = answered_step h (kind.Command command.Check) later choices ih

answers_step : (c : Bool) (h : History) (request : Request) (later : List RequestAt) (choices : List Bool) → ((h2 : History) → Exact (answers h2 later choices) (answers h2 later []))
    → Exact (reply_if c h request ++ answers (history_after_if c h request) later choices) (reply_if false h request ++ answers (history_after_if false h request) later [])
answers_step false h request later choices ih =
    exact_later (reply_if false h request) (answers (history_after_if false h request) later choices) (answers (history_after_if false h request) later []) (ih (history_after_if false h request))
answers_step true h (kind.Command c) later choices ih = command_step h c later choices ih
answers_step true h (kind.Refused f) later choices ih = answered_step h (kind.Refused f) later choices ih
answers_step true h (kind.Statement s) later choices ih = inr ([], answers h later choices, refl)

pub answers_exact : (h : History) (us : List RequestAt) (choices : List Bool) → Exact (answers h us choices) (answers h us [])
unfolding answers
answers_exact h [] choices = inl refl
answers_exact h (request ∷ later) choices = answers_step (first_choice choices) h request.request later (later_choices choices) (λ h2. answers_exact h2 later (later_choices choices))

-- what is kept of a block, a line of which was refused for lack of memory
abbrev starved_block : ℕ → ℕ → Option OpenBlock
starved_block n w = Some (open_at n (status.Starved w))

-- the last requests of such a block
starved_last : (n w m : ℕ) (f : LexFault) → Lacks (map refused_at (kept_last_faults (starved_block n w) m f))
starved_last n w m lex.DanglingEscape = lacks_first w _
starved_last n w m lex.LineTooLong = lacks_first w _
starved_last n w m lex.TooManyLines = lacks_first w _
starved_last n w m lex.NotUtf8 = lacks_first w _
starved_last n w m lex.OpenSymbol = lacks_first w _
starved_last n w m lex.EmptySymbol = lacks_first w _
starved_last n w m lex.BadName = lacks_first w _
starved_last n w m lex.BadCodePoint = lacks_first w _
starved_last n w m lex.OpenString = lacks_first w _
starved_last n w m lex.CharacterConstant = lacks_first w _
starved_last n w m lex.BadCharDirective = lacks_first w _
starved_last n w m lex.OutOfMemory = lacks_first w _

-- such a block is answered so, wherever it ends
starved_requests : (n w : ℕ) (lines : List ParsedLine) → Lacks (kept_requests true (starved_block n w) lines)
unfolding kept_requests kept_requests_at kept_after
starved_requests n w [] = lacks_first w []
starved_requests n w (l ∷ lines) = by_parsed l.number l.parsed (starved_requests n w lines)
  where
    by_parsed : (m : ℕ) (h : Parsed) → Lacks (kept_requests true (starved_block n w) lines) → Lacks (kept_requests true (starved_block n w) (record { number = m; parsed = h } ∷ lines))
    by_parsed m (line.Stops f) next = starved_last n w m f
    by_parsed m (line.Refused opening.ReorderAfter f) next = lacks_first w _
    by_parsed m (line.Refused opening.ReorderEnd f) next = lacks_first w _
    by_parsed m (line.Refused opening.Neither f) next = next
    by_parsed m (line.Command command) next = lacks_later (refused_at (fault_at m fault.BlockOpen) ∷ []) (kept_requests true (starved_block n w) lines) next
    by_parsed m (line.BadCommand f) next = lacks_later (refused_at (fault_at m fault.BlockOpen) ∷ []) (kept_requests true (starved_block n w) lines) next
    by_parsed m (line.BlockStart target) next = lacks_first w _
    by_parsed m line.BlockEnd next = lacks_first w _
    by_parsed m (line.OrderLine order) next = next
    by_parsed m (line.Standalone a) next = next

-- a line that was refused for lack of memory
abbrev refused_line_of : ℕ → Opening → ParsedLine
refused_line_of n o = record { number = n; parsed = line.Refused o (fault.Lex lex.OutOfMemory) }

refused_lacks : (block : Option OpenBlock) (n : ℕ) (o : Opening) (lines : List ParsedLine) → Lacks (kept_requests true block (refused_line_of n o ∷ lines))
unfolding kept_requests kept_requests_at kept_after
refused_lacks None n opening.ReorderAfter lines = starved_requests n n lines
refused_lacks None n opening.ReorderEnd lines = lacks_first n _
refused_lacks None n opening.Neither lines = lacks_first n _
refused_lacks (Some block) n opening.ReorderAfter lines = lacks_later (kept_ended (Some block)) (kept_requests true (starved_block n n) lines) (starved_requests n n lines)
refused_lacks (Some block) n opening.ReorderEnd lines = ended block.status
  where
    ended : (s : BlockStatus) → Lacks (kept_requests true (Some (open_at block.line s)) (refused_line_of n opening.ReorderEnd ∷ lines))
    ended (status.Building g) = lacks_first n _
    ended (status.Spoiled at) = lacks_first n _
    ended (status.Starved w) = lacks_first w _
refused_lacks (Some block) n opening.Neither lines = stays block.status
  where
    stays : (s : BlockStatus) → Lacks (kept_requests true (Some (open_at block.line s)) (refused_line_of n opening.Neither ∷ lines))
    stays (status.Building g) = starved_requests block.line n lines
    stays (status.Spoiled at) = starved_requests block.line n lines
    stays (status.Starved w) = starved_requests block.line w lines

pub starved_line_requests : (block : Option OpenBlock) (s : LexerState) (bytes : List ℕ) (lines : List ParsedLine) → takes_memory s bytes ≡ true
    → Lacks (kept_requests true block (option_to_list (parsed_at true s bytes) ++ lines))
unfolding parsed_in
starved_line_requests block s bytes lines takes =
    subst (λ (a : Result (Option Line × LexerState) LexFault). Lacks (kept_requests true block (option_to_list (parsed_by true (number_of s) (opening_of (first_line s bytes)) a) ++ lines)))
    (sym (served_starved s bytes takes))
    (refused_lacks block (number_of s) (opening_of (first_line s bytes)) lines)

-- a line that no memory is taken for is served as if memory was there
pub spared : (choices : List Bool) (ends : Bool) (s : LexerState) (bytes : List ℕ) (lines : List (List ℕ)) → takes_memory s bytes ≡ false → logical_lines (false ∷ choices) ends s (bytes ∷ lines)
    ≡ logical_lines (true ∷ choices) ends s (bytes ∷ lines)
unfolding logical_lines served
spared choices ends s bytes lines none =
    ap (λ (b : Bool). lines_by s bytes (if b then Err lex.OutOfMemory else fed s bytes) ++ logical_lines choices ends (state_by s (if b then Err lex.OutOfMemory else fed s bytes)) lines) (sym none)

-- what the lines ask for, where memory was refused to some, is what they ask for, or shows it
abbrev ExactRequests : List RequestAt → List RequestAt → Type 0
ExactRequests asked stated = (asked ≡ stated) ⊎ Lacks asked

served_requests : (stop : Option LexFault) (block : Option OpenBlock) (x : Option ParsedLine) (lines stated : List ParsedLine) → stop_at x ≡ stop
    → ExactRequests (kept_requests true (line_block block x) lines) (kept_requests true (line_block block x) stated)
    → ExactRequests (kept_requests true block (option_to_list x ++ lines)) (kept_requests true block (option_to_list x ++ stated))
served_requests (Some f) block x lines stated is later = inl (requests_stop true block x lines f is ∙ sym (requests_stop true block x stated f is))
served_requests None block x lines stated is later =
    ⊎_elim (λ (same : kept_requests true (line_block block x) lines ≡ kept_requests true (line_block block x) stated).
    inl (requests_on true block x lines is ∙ ap (λ (us : List RequestAt). line_requests block x ++ us) same ∙ sym (requests_on true block x stated is)))
    (λ (lacks : Lacks (kept_requests true (line_block block x) lines)).
    inr (subst (λ (us : List RequestAt). Lacks us) (sym (requests_on true block x lines is)) (lacks_later (line_requests block x) (kept_requests true (line_block block x) lines) lacks)))
    later

abbrev ExactLines : List Bool → LexerState → Option OpenBlock → List (List ℕ) → Type 0
ExactLines choices s block lines = ExactRequests (kept_requests true block (map parsed (logical_lines choices true s lines))) (kept_requests true block (map parsed (logical_lines [] true s lines)))

-- where no choice is left, memory was there
parsed_later_none : (s : LexerState) (bytes : List ℕ) (lines : List (List ℕ))
    → map parsed (logical_lines [] true s (bytes ∷ lines)) ≡ option_to_list (parsed_at false s bytes) ++ map parsed (logical_lines [] true (state_by s (served false s bytes)) lines)
unfolding logical_lines
parsed_later_none s bytes lines = parsed_later false [] true s bytes lines

exact_served : (choices : List Bool) (s : LexerState) (block : Option OpenBlock) (bytes : List ℕ) (lines : List (List ℕ))
    → ExactLines choices (state_by s (served false s bytes)) (line_block block (parsed_at false s bytes)) lines → ExactLines (false ∷ choices) s block (bytes ∷ lines)
exact_served choices s block bytes lines later =
    let x = parsed_at false s bytes in
    let s2 = state_by s (served false s bytes) in
    subst (λ (hs : List ParsedLine). ExactRequests (kept_requests true block hs) (kept_requests true block (map parsed (logical_lines [] true s (bytes ∷ lines)))))
    (sym (parsed_later false choices true s bytes lines))
    (subst (λ (hs : List ParsedLine). ExactRequests (kept_requests true block (option_to_list x ++ map parsed (logical_lines choices true s2 lines))) (kept_requests true block hs))
    (sym (parsed_later_none s bytes lines))
    (served_requests (stop_at x) block x (map parsed (logical_lines choices true s2 lines)) (map parsed (logical_lines [] true s2 lines)) refl later))

exact_starved : (takes : Bool) (choices : List Bool) (s : LexerState) (block : Option OpenBlock) (bytes : List ℕ) (lines : List (List ℕ)) → takes_memory s bytes ≡ takes
    → ExactLines (false ∷ choices) s block (bytes ∷ lines) → ExactLines (true ∷ choices) s block (bytes ∷ lines)
exact_starved true choices s block bytes lines takes fine =
    inr (subst (λ (hs : List ParsedLine). Lacks (kept_requests true block hs)) (sym (parsed_later true choices true s bytes lines))
    (starved_line_requests block s bytes (map parsed (logical_lines choices true (state_by s (served true s bytes)) lines)) takes))
exact_starved false choices s block bytes lines none fine =
    subst (λ (ls : List LogicalLine). ExactRequests (kept_requests true block (map parsed ls)) (kept_requests true block (map parsed (logical_lines [] true s (bytes ∷ lines)))))
    (spared choices true s bytes lines none) fine

requests_exact : (choices : List Bool) (s : LexerState) (block : Option OpenBlock) (lines : List (List ℕ)) → ExactLines choices s block lines
unfolding logical_lines
requests_exact choices s block [] = inl refl
requests_exact [] s block (bytes ∷ lines) = inl refl
requests_exact (true ∷ choices) s block (bytes ∷ lines) =
    exact_starved (takes_memory s bytes) choices s block bytes lines refl
    (exact_served choices s block bytes lines (requests_exact choices (state_by s (served false s bytes)) (line_block block (parsed_at false s bytes)) lines))
requests_exact (false ∷ choices) s block (bytes ∷ lines) =
    exact_served choices s block bytes lines (requests_exact choices (state_by s (served false s bytes)) (line_block block (parsed_at false s bytes)) lines)

-- what is written from the beginning, by what the session keeps
written_exact : (choices : List Bool) (us_starved : List Bool) (h : History) (lines : List (List ℕ))
    → Exact (written_from first_state None h choices us_starved true lines) (written_from first_state None h [] [] true lines)
unfolding written_from
written_exact choices us_starved h lines =
    let asked = kept_requests true None (map parsed (logical_lines choices true first_state lines)) in
    let stated = kept_requests true None (map parsed (logical_lines [] true first_state lines)) in
    ⊎_elim (λ (same : asked ≡ stated). subst (λ (us : List RequestAt). Exact (answers h us us_starved) (answers h stated [])) (sym same) (answers_exact h stated us_starved))
    (λ (lacks : Lacks asked). inr (answers_lack h asked us_starved lacks))
    (requests_exact choices first_state None lines)

pub lack_shows : LackShows
unfolding output
lack_shows lines_starved requests_starved table text =
    let written = written_from first_state None (begun table) lines_starved requests_starved true (lines_of text) in
    let stated = written_from first_state None (begun table) [] [] true (lines_of text) in
    subst (λ (bytes : List ℕ). Exact bytes (starved_output [] [] true (begun table) text)) (sym (output_kept lines_starved requests_starved true (begun table) text))
    (subst (λ (bytes : List ℕ). Exact written bytes) (sym (output_kept [] [] true (begun table) text)) (written_exact lines_starved requests_starved (begun table) (lines_of text)))

-- the last line of the text, where memory was refused to some lines, is the stated one, or a request shows it
abbrev ExactLast : List Bool → LexerState → Option OpenBlock → List (List ℕ) → Type 0
ExactLast choices s block lines = (last_line (logical_lines choices true s lines) ≡ last_line (logical_lines [] true s lines))
    ⊎ Lacks (kept_requests true block (map parsed (logical_lines choices true s lines)))

pub none_chosen : (ends : Bool) (s : LexerState) (bytes : List ℕ) (lines : List (List ℕ)) → logical_lines (false ∷ []) ends s (bytes ∷ lines) ≡ logical_lines [] ends s (bytes ∷ lines)
unfolding logical_lines
none_chosen ends s bytes lines = refl

last_served : (stop : Option LexFault) (choices : List Bool) (s : LexerState) (block : Option OpenBlock) (bytes : List ℕ) (lines : List (List ℕ)) → stop_at (parsed_at false s bytes) ≡ stop
    → ExactLast choices (state_by s (served false s bytes)) (line_block block (parsed_at false s bytes)) lines → ExactLast (false ∷ choices) s block (bytes ∷ lines)
last_served (Some f) choices s block bytes lines is later =
    inl ((last_stop false s bytes choices true lines f is).line_is ∙ sym (last_stop false s bytes [] true lines f is).line_is ∙ ap last_line (none_chosen true s bytes lines))
last_served None choices s block bytes lines is later =
    let x = parsed_at false s bytes in
    let s2 = state_by s (served false s bytes) in
    ⊎_elim
    (λ (same : last_line (logical_lines choices true s2 lines) ≡ last_line (logical_lines [] true s2 lines)).
    inl (last_on false s bytes choices true lines is ∙ same ∙ sym (last_on false s bytes [] true lines is) ∙ ap last_line (none_chosen true s bytes lines)))
    (λ (lacks : Lacks (kept_requests true (line_block block x) (map parsed (logical_lines choices true s2 lines)))).
    inr (subst (λ (hs : List ParsedLine). Lacks (kept_requests true block hs)) (sym (parsed_later false choices true s bytes lines))
    (subst (λ (us : List RequestAt). Lacks us) (sym (requests_on true block x (map parsed (logical_lines choices true s2 lines)) is))
    (lacks_later (line_requests block x) (kept_requests true (line_block block x) (map parsed (logical_lines choices true s2 lines))) lacks))))
    later

last_starved : (takes : Bool) (choices : List Bool) (s : LexerState) (block : Option OpenBlock) (bytes : List ℕ) (lines : List (List ℕ)) → takes_memory s bytes ≡ takes
    → ExactLast (false ∷ choices) s block (bytes ∷ lines) → ExactLast (true ∷ choices) s block (bytes ∷ lines)
last_starved true choices s block bytes lines takes fine =
    inr (subst (λ (hs : List ParsedLine). Lacks (kept_requests true block hs)) (sym (parsed_later true choices true s bytes lines))
    (starved_line_requests block s bytes (map parsed (logical_lines choices true (state_by s (served true s bytes)) lines)) takes))
last_starved false choices s block bytes lines none fine =
    subst (λ (ls : List LogicalLine). (last_line ls ≡ last_line (logical_lines [] true s (bytes ∷ lines))) ⊎ Lacks (kept_requests true block (map parsed ls))) (spared choices true s bytes lines none)
    fine

last_exact : (choices : List Bool) (s : LexerState) (block : Option OpenBlock) (lines : List (List ℕ)) → ExactLast choices s block lines
unfolding logical_lines
last_exact choices s block [] = inl refl
last_exact [] s block (bytes ∷ lines) = inl refl
last_exact (true ∷ choices) s block (bytes ∷ lines) =
    last_starved (takes_memory s bytes) choices s block bytes lines refl
    (last_served (stop_at (parsed_at false s bytes)) choices s block bytes lines refl (last_exact choices (state_by s (served false s bytes)) (line_block block (parsed_at false s bytes)) lines))
last_exact (false ∷ choices) s block (bytes ∷ lines) =
    last_served (stop_at (parsed_at false s bytes)) choices s block bytes lines refl (last_exact choices (state_by s (served false s bytes)) (line_block block (parsed_at false s bytes)) lines)

written_lacks : (choices : List Bool) (us_starved : List Bool) (h : History) (lines : List (List ℕ)) → Lacks (kept_requests true None (map parsed (logical_lines choices true first_state lines)))
    → ShowsLack (written_from first_state None h choices us_starved true lines)
unfolding written_from
written_lacks choices us_starved h lines lacks = answers_lack h (kept_requests true None (map parsed (logical_lines choices true first_state lines))) us_starved lacks

pub lack_shows_last : LackShowsLast
lack_shows_last lines_starved requests_starved table text =
    ⊎_elim (λ (same : last_of lines_starved true text ≡ last_of [] true text). inl same)
    (λ (lacks : Lacks (kept_requests true None (map parsed (logical_lines lines_starved true first_state (lines_of text))))).
    inr (subst (λ (bytes : List ℕ). ShowsLack bytes) (sym (output_kept lines_starved requests_starved true (begun table) text))
    (written_lacks lines_starved requests_starved (begun table) (lines_of text) lacks)))
    (last_exact lines_starved first_state None (lines_of text))
