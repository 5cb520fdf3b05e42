-- The run of a session, put together over all that may come later: what one physical line writes, and what is then left
-- to be written. The one lemma that joins what the session keeps to the definition of its requests is `output_kept`.
use Rattle.std.proofs.Common.{◌≡◌, ℕ, Bool, true, List, [], ◌∷◌, ◌++◌, map, Option, Some, None, Result, Ok, Err, refl, sym, ap, ◌∙◌, append_assoc}
use Rattle.std.specs.Prelude.{option_to_list}
use Rattle.coll_devices.specs.PhysicalLines.{lines_of}
use Rattle.coll_lex.specs.LogicalLines.{LexerState, LogicalLine, first_state, number_of, first_line, served, state_by, lines_by, logical_lines}
use Rattle.coll_lex.specs.declared.tokens.Line.{Line}
use Rattle.coll_lex.specs.declared.faults.LexFault.{LexFault}
use Rattle.coll_history.specs.Histories.{History}
use Rattle.coll_requests.specs.SessionLines.{opening_of, parsed}
use Rattle.coll_requests.specs.Parsing.{parsed_by, parsed_in, parsed_at}
use Rattle.coll_requests.specs.OpenBlocks.{kept_requests_at, kept_after, kept_last_or, kept_requests}
use Rattle.coll_bench.specs.Replies.{answers, reply_if, history_after_if}
use Rattle.coll_requests.specs.Taking.{stop_at, requests_or_last, line_requests, line_block}
use Rattle.coll_bench.specs.Serving.{replies_to, history_after_all}
use Rattle.coll_bench.specs.Runs.{starved_output}
use Rattle.coll_bench.specs.Underway.{written_from}
use Rattle.coll_requests.specs.declared.open_blocks.OpenBlock.{OpenBlock}
use Rattle.coll_requests.specs.declared.session_lines.ParsedLine.{ParsedLine}
use Rattle.coll_requests.specs.declared.requests.RequestAt.{RequestAt}
use Rattle.coll_requests.proofs.BlockLemmas.{requests_kept}

-- what is written for a text is what is written from its beginning, by what the session keeps
pub output_kept : (lines_starved requests_starved : List Bool) (ends : Bool) (start : History) (text : List ℕ)
    → starved_output lines_starved requests_starved ends start text ≡ written_from first_state None start lines_starved requests_starved ends (lines_of text)
unfolding starved_output written_from
output_kept lines_starved requests_starved ends start text =
    ap (λ (us : List RequestAt). answers start us requests_starved) (sym (requests_kept ends None (map parsed (logical_lines lines_starved ends first_state (lines_of text)))))

-- a choice for each of some requests
abbrev pub choices_for : (starved : Bool) → List RequestAt → List Bool
choices_for starved requests = map (λ _. starved) requests

-- the replies to some requests, and then those to what comes later
answers-append : (starved : Bool) (h : History) (requests later : List RequestAt) (choices : List Bool)
    → answers h (requests ++ later) (choices_for starved requests ++ choices) ≡ replies_to starved h requests ++ answers (history_after_all starved h requests) later choices
unfolding answers replies_to history_after_all
answers-append starved h [] later choices = refl
answers-append starved h (request ∷ requests) later choices =
    let h2 = history_after_if starved h request.request in
    ap (λ (bytes : List ℕ). reply_if starved h request.request ++ bytes) (answers-append starved h2 requests later choices)
    ∙ sym (append_assoc (reply_if starved h request.request) (replies_to starved h2 requests) (answers (history_after_all starved h2 requests) later choices))

-- the replies to some requests alone
answers-all : (starved : Bool) (h : History) (requests : List RequestAt) (choices : List Bool) → answers h requests (choices_for starved requests ++ choices) ≡ replies_to starved h requests
unfolding answers replies_to
answers-all starved h [] choices = refl
answers-all starved h (request ∷ requests) choices =
    ap (λ (bytes : List ℕ). reply_if starved h request.request ++ bytes) (answers-all starved (history_after_if starved h request.request) requests choices)

map-append : (xs ys : List LogicalLine) → map parsed (xs ++ ys) ≡ map parsed xs ++ map parsed ys
map-append [] ys = refl
map-append (x ∷ xs) ys = ap (λ (hs : List ParsedLine). parsed x ∷ hs) (map-append xs ys)

-- what is parsed of the logical lines that an answer gives
parsed_lines : (s : LexerState) (line : List ℕ) (a : Result (Option Line × LexerState) LexFault)
    → map parsed (lines_by s line a) ≡ option_to_list (parsed_by true (number_of s) (opening_of (first_line s line)) a)
parsed_lines s line (Ok (None, after)) = refl
parsed_lines s line (Ok (Some given, after)) = refl
parsed_lines s line (Err f) = refl

-- what is parsed of a physical line, and then of those that come later
pub parsed_later : (memory : Bool) (choices : List Bool) (ends : Bool) (s : LexerState) (line : List ℕ) (later : List (List ℕ))
    → map parsed (logical_lines (memory ∷ choices) ends s (line ∷ later))
    ≡ option_to_list (parsed_at memory s line) ++ map parsed (logical_lines choices ends (state_by s (served memory s line)) later)
unfolding logical_lines parsed_in
parsed_later memory choices ends s line later =
    map-append (lines_by s line (served memory s line)) (logical_lines choices ends (state_by s (served memory s line)) later)
    ∙ ap (λ (hs : List ParsedLine). hs ++ map parsed (logical_lines choices ends (state_by s (served memory s line)) later)) (parsed_lines s line (served memory s line))

-- the requests of what was parsed of a line, and then of what comes later
pub requests_on : (ends : Bool) (block : Option OpenBlock) (h : Option ParsedLine) (later : List ParsedLine) → stop_at h ≡ None → kept_requests ends block (option_to_list h ++ later)
    ≡ line_requests block h ++ kept_requests ends (line_block block h) later
unfolding kept_requests line_requests line_block
requests_on ends block None later goes = refl
requests_on ends block (Some x) later goes =
    ap (λ (o : Option LexFault). kept_last_or o block x.number (kept_requests_at block x ++ kept_requests ends (kept_after block x) later)) goes
    ∙ ap (λ (o : Option LexFault). requests_or_last block x o ++ kept_requests ends (kept_after block x) later) (sym goes)

-- the last requests
pub requests_stop : (ends : Bool) (block : Option OpenBlock) (h : Option ParsedLine) (later : List ParsedLine) (f : LexFault) → stop_at h ≡ Some f
    → kept_requests ends block (option_to_list h ++ later) ≡ line_requests block h
unfolding kept_requests line_requests
requests_stop ends block None later f stops = absurd cc
requests_stop ends block (Some x) later f stops =
    ap (λ (o : Option LexFault). kept_last_or o block x.number (kept_requests_at block x ++ kept_requests ends (kept_after block x) later)) stops
    ∙ ap (requests_or_last block x) (sym stops)

-- a physical line that the session goes on after: its replies, and what is then left to be written
pub written_on : (memory starved : Bool) (s : LexerState) (block : Option OpenBlock) (h : History) (line : List ℕ) (c d : List Bool) (ends : Bool) (later : List (List ℕ))
    → stop_at (parsed_at memory s line) ≡ None
    → written_from s block h (memory ∷ c) (choices_for starved (line_requests block (parsed_at memory s line)) ++ d) ends (line ∷ later)
    ≡ replies_to starved h (line_requests block (parsed_at memory s line))
    ++ written_from (state_by s (served memory s line)) (line_block block (parsed_at memory s line)) (history_after_all starved h (line_requests block (parsed_at memory s line))) c d ends later
unfolding written_from
written_on memory starved s block h line c d ends later goes =
    let x = parsed_at memory s line in
    let rest = map parsed (logical_lines c ends (state_by s (served memory s line)) later) in
    ap (λ (hs : List ParsedLine). answers h (kept_requests ends block hs) (choices_for starved (line_requests block x) ++ d)) (parsed_later memory c ends s line later)
    ∙ ap (λ (us : List RequestAt). answers h us (choices_for starved (line_requests block x) ++ d)) (requests_on ends block x rest goes)
    ∙ answers-append starved h (line_requests block x) (kept_requests ends (line_block block x) rest) d

-- a physical line at which the session ends: its replies are the last
pub written_stop : (memory starved : Bool) (s : LexerState) (block : Option OpenBlock) (h : History) (line : List ℕ) (c d : List Bool) (ends : Bool) (later : List (List ℕ)) (f : LexFault)
    → stop_at (parsed_at memory s line) ≡ Some f
    → written_from s block h (memory ∷ c) (choices_for starved (line_requests block (parsed_at memory s line)) ++ d) ends (line ∷ later)
    ≡ replies_to starved h (line_requests block (parsed_at memory s line))
unfolding written_from
written_stop memory starved s block h line c d ends later f stops =
    let x = parsed_at memory s line in
    let rest = map parsed (logical_lines c ends (state_by s (served memory s line)) later) in
    ap (λ (hs : List ParsedLine). answers h (kept_requests ends block hs) (choices_for starved (line_requests block x) ++ d)) (parsed_later memory c ends s line later)
    ∙ ap (λ (us : List RequestAt). answers h us (choices_for starved (line_requests block x) ++ d)) (requests_stop ends block x rest f stops)
    ∙ answers-all starved h (line_requests block x) d
