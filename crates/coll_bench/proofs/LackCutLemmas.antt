-- Lack of memory shows of a text that is cut, too: a block that a line was refused of for lack of memory may still be open where
-- the text is cut, and has its reply in what is written wherever it ends.
use Rattle.std.proofs.Common.{◌≡◌, ℕ, Bool, true, false, List, [], ◌∷◌, ◌++◌, map, Option, Some, None, refl, sym, ap, ◌∙◌, subst, append-nil, append_assoc, inl, inr, ⊎_elim}
use Rattle.std.specs.Prelude.{◌⊎◌, ◌==◌, if◌then◌else◌}
use Rattle.coll_devices.specs.PhysicalLines.{line_feed, with_first, lines_of, with_feeds}
use Rattle.coll_lex.specs.LogicalLines.{LexerState, LogicalLine, first_state, first_choice, later_choices, takes_memory, served, state_by, logical_lines}
use Rattle.coll_lex.specs.declared.faults.LexFault.{LexFault}
use Rattle.coll_nodes.specs.Table.{Collation}
use Rattle.coll_history.specs.Histories.{History, begun}
use Rattle.coll_requests.specs.SessionLines.{parsed}
use Rattle.coll_requests.specs.Parsing.{parsed_at}
use Rattle.coll_requests.specs.OpenBlocks.{kept_requests}
use Rattle.coll_requests.specs.Taking.{stop_at, line_requests, line_block}
use Rattle.coll_requests.specs.declared.open_blocks.OpenBlock.{OpenBlock}
use Rattle.coll_requests.specs.declared.session_lines.ParsedLine.{ParsedLine}
use Rattle.coll_requests.specs.declared.requests.RequestAt.{RequestAt}
use Rattle.coll_bench.specs.Replies.{reply_if, history_after_if, starved_line, answers}
use Rattle.coll_bench.specs.Runs.{starved_output, output}
use Rattle.coll_bench.specs.Laws.{ShowsLack, LackShowsCut, LackShowsPrefix}
use Rattle.coll_bench.specs.Underway.{written_from, IsCut}
use Rattle.coll_bench.proofs.RunLemmas.{output_kept, parsed_later, requests_on, requests_stop}
use Rattle.coll_bench.proofs.LackLemmas.{Lacks, lacks_later, answers_lack, answers_exact, starved_line_requests, spared, none_chosen, lack_shows}

-- Lines that each end in a line feed are cut from what comes behind them.

abbrev EndsLine : List ℕ → List ℕ → List (List ℕ) → Type 0
EndsLine line first rest = (later : List ℕ) → lines_of (line ++ line_feed ∷ later) ≡ first ∷ (rest ++ lines_of later)

line_behind : (feed : Bool) (c : ℕ) (line first : List ℕ) (rest : List (List ℕ)) → EndsLine line first rest
    → (first2 : List ℕ) × (rest2 : List (List ℕ))
    × ((later : List ℕ) → (if feed then [] ∷ lines_of (line ++ line_feed ∷ later) else with_first c (lines_of (line ++ line_feed ∷ later))) ≡ first2 ∷ (rest2 ++ lines_of later))
line_behind true c line first rest is = ([], first ∷ rest, λ later. ap (λ (ls : List (List ℕ)). [] ∷ ls) (is later))
line_behind false c line first rest is = (c ∷ first, rest, λ later. ap (with_first c) (is later))

ends_line : (line : List ℕ) → (first : List ℕ) × (rest : List (List ℕ)) × EndsLine line first rest
unfolding lines_of
ends_line [] = ([], [], λ later. refl)
ends_line (c ∷ line) =
    let (first, rest, is) = ends_line line in
    line_behind (c == line_feed) c line first rest is

feeds_cut : (lines : List (List ℕ)) (later : List ℕ) → lines_of (with_feeds lines ++ later) ≡ lines_of (with_feeds lines) ++ lines_of later
unfolding lines_of
feeds_cut [] later = refl
feeds_cut (line ∷ lines) later =
    let (first, rest, is) = ends_line line in
    let feeds = with_feeds lines in
    let begun_by : (bytes : List ℕ) → lines_of ((line ++ line_feed ∷ []) ++ bytes) ≡ first ∷ (rest ++ lines_of bytes) = λ bytes. ap lines_of (append_assoc line (line_feed ∷ []) bytes) ∙ is bytes in
    ap lines_of (append_assoc (line ++ line_feed ∷ []) feeds later)
    ∙ begun_by (feeds ++ later)
    ∙ ap (λ (ls : List (List ℕ)). first ∷ (rest ++ ls)) (feeds_cut lines later)
    ∙ ap (λ (ls : List (List ℕ)). first ∷ ls) (sym (append_assoc rest (lines_of feeds) (lines_of later)))
    ∙ ap (λ (ls : List (List ℕ)). ls ++ lines_of later) (sym (begun_by feeds))

cut_there : (read : List ℕ) → read ≡ with_feeds (lines_of read) → IsCut read
cut_there read is later =
    subst (λ (bytes : List ℕ). lines_of (bytes ++ later) ≡ lines_of bytes ++ lines_of later) (sym is) (feeds_cut (lines_of read) later)

-- What is written for the lines before the cut stands at the front of what is written for them and further ones.

answers_prefix : (h : History) (us more : List RequestAt) (choices : List Bool) → (rest : List ℕ) × (answers h (us ++ more) choices ≡ answers h us choices ++ rest)
unfolding answers
answers_prefix h [] more choices = (answers h more choices, refl)
answers_prefix h (request ∷ us) more choices =
    let first = reply_if (first_choice choices) h request.request in
    let h2 = history_after_if (first_choice choices) h request.request in
    let (rest, is) = answers_prefix h2 us more (later_choices choices) in
    (rest, ap (λ (bytes : List ℕ). first ++ bytes) is ∙ sym (append_assoc first (answers h2 us (later_choices choices)) rest))

shows_earlier : (bytes rest : List ℕ) → ShowsLack bytes → ShowsLack (bytes ++ rest)
shows_earlier bytes rest (before, after, is) = (
  before,
  after ++ rest,
  ap (λ (b : List ℕ). b ++ rest) is ∙ append_assoc before (starved_line ++ after) rest ∙ ap (λ (b : List ℕ). before ++ b) (append_assoc starved_line after rest),
)

-- the requests of lines, under the block that is kept before them; the test says whether the text's end is seen
abbrev requests_of : (choices : List Bool) → (ends : Bool) → LexerState → Option OpenBlock → List (List ℕ) → List RequestAt
requests_of choices ends s block lines = kept_requests ends block (map parsed (logical_lines choices ends s lines))

stops_here : (memory : Bool) (choices : List Bool) (ends : Bool) (s : LexerState) (block : Option OpenBlock) (bytes : List ℕ) (lines : List (List ℕ)) (f : LexFault)
    → stop_at (parsed_at memory s bytes) ≡ Some f
    → requests_of (memory ∷ choices) ends s block (bytes ∷ lines) ≡ line_requests block (parsed_at memory s bytes)
stops_here memory choices ends s block bytes lines f is =
    ap (kept_requests ends block) (parsed_later memory choices ends s bytes lines)
    ∙ requests_stop ends block (parsed_at memory s bytes) (map parsed (logical_lines choices ends (state_by s (served memory s bytes)) lines)) f is

goes_on : (memory : Bool) (choices : List Bool) (ends : Bool) (s : LexerState) (block : Option OpenBlock) (bytes : List ℕ) (lines : List (List ℕ)) → stop_at (parsed_at memory s bytes) ≡ None
    → requests_of (memory ∷ choices) ends s block (bytes ∷ lines) ≡ line_requests block (parsed_at memory s bytes) ++ requests_of choices ends (state_by s (served memory s bytes))
    (line_block block (parsed_at memory s bytes)) lines
goes_on memory choices ends s block bytes lines is =
    ap (kept_requests ends block) (parsed_later memory choices ends s bytes lines)
    ∙ requests_on ends block (parsed_at memory s bytes) (map parsed (logical_lines choices ends (state_by s (served memory s bytes)) lines)) is

abbrev RequestsPrefix : List Bool → LexerState → Option OpenBlock → (lines later : List (List ℕ)) → Type 0
RequestsPrefix choices s block lines later = (more : List RequestAt) × (requests_of choices true s block (lines ++ later) ≡ requests_of choices false s block lines ++ more)

prefix_by : (stop : Option LexFault) (memory : Bool) (choices : List Bool) (s : LexerState) (block : Option OpenBlock) (bytes : List ℕ) (lines later : List (List ℕ))
    → stop_at (parsed_at memory s bytes) ≡ stop
    → RequestsPrefix choices (state_by s (served memory s bytes)) (line_block block (parsed_at memory s bytes)) lines later → RequestsPrefix (memory ∷ choices) s block (bytes ∷ lines) later
prefix_by (Some f) memory choices s block bytes lines later is next = (
  [],
  stops_here memory choices true s block bytes (lines ++ later) f is ∙ sym (stops_here memory choices false s block bytes lines f is)
      ∙ sym (append-nil (requests_of (memory ∷ choices) false s block (bytes ∷ lines))),
)
prefix_by None memory choices s block bytes lines later is (more, next) =
    let x = parsed_at memory s bytes in
    let first = line_requests block x in (
      more,
      goes_on memory choices true s block bytes (lines ++ later) is
          ∙ ap (λ (us : List RequestAt). first ++ us) next
          ∙ sym (append_assoc first (requests_of choices false (state_by s (served memory s bytes)) (line_block block x) lines) more)
          ∙ ap (λ (us : List RequestAt). us ++ more) (sym (goes_on memory choices false s block bytes lines is)),
    )

requests_prefix : (choices : List Bool) (s : LexerState) (block : Option OpenBlock) (lines later : List (List ℕ)) → RequestsPrefix choices s block lines later
unfolding logical_lines kept_requests
requests_prefix choices s block [] later = (requests_of choices true s block later, refl)
requests_prefix [] s block (bytes ∷ lines) later =
    prefix_by (stop_at (parsed_at false s bytes)) false [] s block bytes lines later refl
    (requests_prefix [] (state_by s (served false s bytes)) (line_block block (parsed_at false s bytes)) lines later)
requests_prefix (memory ∷ choices) s block (bytes ∷ lines) later =
    prefix_by (stop_at (parsed_at memory s bytes)) memory choices s block bytes lines later refl
    (requests_prefix choices (state_by s (served memory s bytes)) (line_block block (parsed_at memory s bytes)) lines later)

-- What the lines before the cut ask for, where memory was refused to some, is what they ask for, or further lines show it.

abbrev ExactCut : List Bool → LexerState → Option OpenBlock → List (List ℕ) → Type 0
ExactCut choices s block lines = (requests_of choices false s block lines ≡ requests_of [] false s block lines) ⊎ ((later : List (List ℕ)) → Lacks (requests_of choices true s block (lines ++ later)))

-- where no choice is left, memory was there
left_none : (s : LexerState) (block : Option OpenBlock) (bytes : List ℕ) (lines : List (List ℕ)) → requests_of (false ∷ []) false s block (bytes ∷ lines) ≡ requests_of [] false s block (bytes ∷ lines)
left_none s block bytes lines = ap (λ (ls : List LogicalLine). kept_requests false block (map parsed ls)) (none_chosen false s bytes lines)

cut_served : (stop : Option LexFault) (choices : List Bool) (s : LexerState) (block : Option OpenBlock) (bytes : List ℕ) (lines : List (List ℕ)) → stop_at (parsed_at false s bytes) ≡ stop
    → ExactCut choices (state_by s (served false s bytes)) (line_block block (parsed_at false s bytes)) lines → ExactCut (false ∷ choices) s block (bytes ∷ lines)
cut_served (Some f) choices s block bytes lines is next =
    inl (stops_here false choices false s block bytes lines f is ∙ sym (stops_here false [] false s block bytes lines f is) ∙ left_none s block bytes lines)
cut_served None choices s block bytes lines is next =
    let x = parsed_at false s bytes in
    let s2 = state_by s (served false s bytes) in
    let block2 = line_block block x in
    ⊎_elim
    (λ (same : requests_of choices false s2 block2 lines ≡ requests_of [] false s2 block2 lines).
    inl (goes_on false choices false s block bytes lines is ∙ ap (λ (us : List RequestAt). line_requests block x ++ us) same ∙ sym (goes_on false [] false s block bytes lines is)
    ∙ left_none s block bytes lines))
    (λ (lacks : (later : List (List ℕ)) → Lacks (requests_of choices true s2 block2 (lines ++ later))).
    inr (λ later. subst (λ (us : List RequestAt). Lacks us) (sym (goes_on false choices true s block bytes (lines ++ later) is))
    (lacks_later (line_requests block x) (requests_of choices true s2 block2 (lines ++ later)) (lacks later))))
    next

cut_starved : (takes : Bool) (choices : List Bool) (s : LexerState) (block : Option OpenBlock) (bytes : List ℕ) (lines : List (List ℕ)) → takes_memory s bytes ≡ takes
    → ExactCut (false ∷ choices) s block (bytes ∷ lines) → ExactCut (true ∷ choices) s block (bytes ∷ lines)
cut_starved true choices s block bytes lines takes fine =
    inr (λ later. subst (λ (hs : List ParsedLine). Lacks (kept_requests true block hs)) (sym (parsed_later true choices true s bytes (lines ++ later)))
    (starved_line_requests block s bytes (map parsed (logical_lines choices true (state_by s (served true s bytes)) (lines ++ later))) takes))
cut_starved false choices s block bytes lines none fine =
    ⊎_elim
    (λ (same : requests_of (false ∷ choices) false s block (bytes ∷ lines) ≡ requests_of [] false s block (bytes ∷ lines)).
    inl (ap (λ (ls : List LogicalLine). kept_requests false block (map parsed ls)) (sym (spared choices false s bytes lines none)) ∙ same))
    (λ (lacks : (later : List (List ℕ)) → Lacks (requests_of (false ∷ choices) true s block ((bytes ∷ lines) ++ later))).
    inr (λ later. subst (λ (ls : List LogicalLine). Lacks (kept_requests true block (map parsed ls))) (spared choices true s bytes (lines ++ later) none) (lacks later)))
    fine

cut_exact : (choices : List Bool) (s : LexerState) (block : Option OpenBlock) (lines : List (List ℕ)) → ExactCut choices s block lines
unfolding logical_lines
cut_exact choices s block [] = inl refl
cut_exact [] s block (bytes ∷ lines) = inl refl
cut_exact (true ∷ choices) s block (bytes ∷ lines) =
    cut_starved (takes_memory s bytes) choices s block bytes lines refl
    (cut_served (stop_at (parsed_at false s bytes)) choices s block bytes lines refl (cut_exact choices (state_by s (served false s bytes)) (line_block block (parsed_at false s bytes)) lines))
cut_exact (false ∷ choices) s block (bytes ∷ lines) =
    cut_served (stop_at (parsed_at false s bytes)) choices s block bytes lines refl (cut_exact choices (state_by s (served false s bytes)) (line_block block (parsed_at false s bytes)) lines)

-- The laws.

-- the requests of lines behind which the text is cut
abbrev asked_of : List Bool → List ℕ → List RequestAt
asked_of choices read = requests_of choices false first_state None (lines_of read)

-- the requests of these lines and of what comes behind them
abbrev asked_with : List Bool → (read later : List ℕ) → List RequestAt
asked_with choices read later = requests_of choices true first_state None (lines_of read ++ lines_of later)

module _ (lines_starved requests_starved : List Bool) (table : Collation) (read : List ℕ) (cut : IsCut read) where
  continued : (later : List ℕ) → starved_output lines_starved requests_starved true (begun table) (read ++ later) ≡ answers (begun table) (asked_with lines_starved read later) requests_starved
  unfolding written_from
  continued later =
      output_kept lines_starved requests_starved true (begun table) (read ++ later)
      ∙ ap (λ (ls : List (List ℕ)). answers (begun table) (requests_of lines_starved true first_state None ls) requests_starved) (cut later)

  shown_before : ShowsLack (answers (begun table) (asked_of lines_starved read) requests_starved) → (later : List ℕ)
      → ShowsLack (starved_output lines_starved requests_starved true (begun table) (read ++ later))
  shown_before shows later =
      let asked = asked_of lines_starved read in
      let (more, requests_are) = requests_prefix lines_starved first_state None (lines_of read) (lines_of later) in
      let (rest, bytes_are) = answers_prefix (begun table) asked more requests_starved in
      subst (λ (bytes : List ℕ). ShowsLack bytes) (sym (continued later ∙ ap (λ (us : List RequestAt). answers (begun table) us requests_starved) requests_are ∙ bytes_are))
      (shows_earlier (answers (begun table) asked requests_starved) rest shows)

  shown_later : ((later : List (List ℕ)) → Lacks (requests_of lines_starved true first_state None (lines_of read ++ later))) → (later : List ℕ)
      → ShowsLack (starved_output lines_starved requests_starved true (begun table) (read ++ later))
  shown_later lacks later =
      subst (λ (bytes : List ℕ). ShowsLack bytes) (sym (continued later)) (answers_lack (begun table) (asked_with lines_starved read later) requests_starved (lacks (lines_of later)))

  exact_there : (starved_output lines_starved requests_starved false (begun table) read ≡ starved_output [] [] false (begun table) read)
      ⊎ ((later : List ℕ) → ShowsLack (starved_output lines_starved requests_starved true (begun table) (read ++ later)))
  unfolding written_from
  exact_there =
      ⊎_elim
      (λ (same : asked_of lines_starved read ≡ asked_of [] read).
      ⊎_elim
      (λ (exact : answers (begun table) (asked_of lines_starved read) requests_starved ≡ answers (begun table) (asked_of lines_starved read) []).
      inl (output_kept lines_starved requests_starved false (begun table) read ∙ exact ∙ ap (λ (us : List RequestAt). answers (begun table) us []) same ∙ sym (output_kept [] [] false (begun table) read)))
      (λ (shows : ShowsLack (answers (begun table) (asked_of lines_starved read) requests_starved)). inr (shown_before shows))
      (answers_exact (begun table) (asked_of lines_starved read) requests_starved))
      (λ (lacks : (later : List (List ℕ)) → Lacks (requests_of lines_starved true first_state None (lines_of read ++ later))). inr (shown_later lacks))
      (cut_exact lines_starved first_state None (lines_of read))

pub lack_shows_cut : LackShowsCut
lack_shows_cut lines_starved requests_starved table read in_feeds = exact_there lines_starved requests_starved table read (cut_there read in_feeds)

pub lack_shows_prefix : LackShowsPrefix
lack_shows_prefix lines_starved requests_starved table text written back is =
    ⊎_elim
    (λ (same : starved_output lines_starved requests_starved true (begun table) text ≡ output table text). inl (back, sym same ∙ is))
    (λ (shows : ShowsLack (starved_output lines_starved requests_starved true (begun table) text)). inr (subst (λ (bytes : List ℕ). ShowsLack bytes) is shows))
    (lack_shows lines_starved requests_starved table text)
