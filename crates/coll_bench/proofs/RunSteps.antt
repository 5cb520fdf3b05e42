-- A run that is under way goes on by a line, or ends: one lemma for each way.
use Rattle.std.proofs.Common.{◌≡◌, ℕ, ◌<◌, Bool, true, false, List, [], ◌∷◌, ◌++◌, length, Option, Some, None, Result, Ok, Err, refl, sym, ap, ◌∙◌, subst, append-nil, append_assoc, ⊎_elim}
use Rattle.std.specs.Prelude.{◌⊎◌}
use Rattle.std.specs.Io.KnownBytes.{Appends}
use Rattle.std.specs.Result.{IfErr}
use Rattle.std.proofs.lemmas.Bool.{false≢true}
use Rattle.std.proofs.lemmas.Grind.{flat_map-append}
use Rattle.coll_devices.specs.PhysicalLines.{line_feed, IsInLine, lines_of, with_feeds}
use Rattle.coll_devices.specs.LineReading.{ReaderState, no_line, CutsLine, Cuts, GivesLine, GivesEnd, EndsAgain, StopsNow, StopsAgain, Advances, unread}
use Rattle.coll_lex.specs.LogicalLines.{LexerState, first_state, served, state_by, logical_lines}
use Rattle.coll_devices.specs.declared.stops.ReadStop.{ReadStop}
use Rattle.coll_devices.proofs.PhysicalLinesLemmas.{lines_of-nil, lines_of-ended, lines_of-part, lines_of-cut}
use Rattle.coll_history.specs.Histories.{History}
use Rattle.coll_requests.specs.Parsing.{parsed_at}
use Rattle.coll_requests.specs.Taking.{stop_at, line_requests, line_block}
use Rattle.coll_bench.specs.Serving.{IsAtStart, Served, ReadsNone, history_after_all, replies_to, line_replies}
use Rattle.coll_bench.specs.Runs.{last_line, CountsReads}
use Rattle.coll_bench.specs.Underway.{written_from, IsCut, IsCutThere, IsUnderway, Underway}
use Rattle.coll_faults.specs.declared.faults.RunFault.{RunFault}
use Rattle.coll_requests.specs.declared.open_blocks.OpenBlock.{OpenBlock}
use Rattle.coll_bench.specs.declared.serving.RunState.{RunState}
use Rattle.coll_bench.proofs.ServingLemmas.{counts_none}
use Rattle.coll_bench.proofs.RunLemmas.{choices_for, written_on}
use Rattle.coll_bench.proofs.RunEnds.{last_on}

-- nothing was read or written yet
pub underway_begun : (start : History) (text before : List ℕ) (ended : Bool) (unread taken : Option (List ℕ)) (state : RunState) → IsAtStart state start → ended ≡ false → unread ≡ Some text
    → taken ≡ Some before → Underway start text before ended unread taken state
underway_begun start text before ended unread taken state b going unread_is taken_is = (
  [],
  text,
  [],
  [],
  [],
  record {
    text_is = refl;
    there = record {
      cut = λ _ later. sym (ap (λ (ls : List (List ℕ)). ls ++ lines_of later) lines_of-nil);
      in_feeds = λ _. sym (ap with_feeds lines_of-nil);
      past_end = λ (visited : ended ≡ true). absurd (false≢true (sym going ∙ visited));
    };
    unread_is = unread_is;
    taken_is = taken_is ∙ ap Some (sym (append-nil before));
    goes_on = λ c d ends later.
        ap (λ (ls : List (List ℕ)). written_from first_state None start c d ends (ls ++ later)) lines_of-nil
        ∙ ap (λ (s : LexerState). written_from s None start c d ends later) (sym b.parser)
        ∙ ap (λ (o : Option OpenBlock). written_from state.parser o start c d ends later) (sym b.block)
        ∙ ap (λ (h : History). written_from state.parser state.block h c d ends later) (sym b.session);
    last = λ c ends later.
        ap (λ (ls : List (List ℕ)). last_line (logical_lines c ends first_state (ls ++ later))) lines_of-nil
        ∙ ap (λ (s : LexerState). last_line (logical_lines c ends s later)) (sym b.parser);
  },
)

-- the bytes read after one more line, of a text that is cut so
record NextLine (ended : Bool) (read rest rest2 line : List ℕ) (read2 : List ℕ) : Type 0 where
  text_is : read ++ rest ≡ read2 ++ rest2
  lines_are : lines_of read2 ≡ lines_of read ++ line ∷ []
  there : IsCutThere ended read2 rest2

-- one more line with its line feed
in_feeds-more : (read line : List ℕ) (lines : List (List ℕ)) → read ≡ with_feeds (lines_of read) → lines ≡ lines_of read ++ line ∷ [] → read ++ (line ++ line_feed ∷ []) ≡ with_feeds lines
in_feeds-more read line lines whole more =
    ap (λ (l : List ℕ). l ++ (line ++ line_feed ∷ [])) whole
    ∙ ap (λ (l : List ℕ). with_feeds (lines_of read) ++ l) (sym (append-nil (line ++ line_feed ∷ [])))
    ∙ sym (flat_map-append (λ (l : List ℕ). l ++ line_feed ∷ []) (lines_of read) (line ∷ []))
    ∙ ap with_feeds (sym more)

next_ended : (read rest2 line : List ℕ) → IsInLine line → IsCut read → read ≡ with_feeds (lines_of read) → NextLine false read (line ++ line_feed ∷ rest2) rest2 line (read ++ (line ++ line_feed ∷ []))
next_ended read rest2 line whole cut in_feeds =
    let ended : (later : List ℕ) → (read ++ (line ++ line_feed ∷ [])) ++ later ≡ read ++ (line ++ line_feed ∷ later) =
    λ later. append_assoc read (line ++ line_feed ∷ []) later ∙ ap (λ (l : List ℕ). read ++ l) (append_assoc line (line_feed ∷ []) later) in
    let lines : lines_of (read ++ (line ++ line_feed ∷ [])) ≡ lines_of read ++ line ∷ [] =
    cut (line ++ line_feed ∷ []) ∙ ap (λ (ls : List (List ℕ)). lines_of read ++ ls) (lines_of-ended line [] whole ∙ ap (λ (ls : List (List ℕ)). line ∷ ls) lines_of-nil) in
    record {
      text_is = sym (ended rest2);
      lines_are = lines;
      there = record {
        cut = λ _ later. ap lines_of (ended later) ∙ cut (line ++ line_feed ∷ later) ∙ ap (λ (ls : List (List ℕ)). lines_of read ++ ls) (lines_of-ended line later whole)
            ∙ sym (append_assoc (lines_of read) (line ∷ []) (lines_of later)) ∙ ap (λ (ls : List (List ℕ)). ls ++ lines_of later) (sym lines);
        in_feeds = λ _. in_feeds-more read line (lines_of (read ++ (line ++ line_feed ∷ []))) in_feeds lines;
        past_end = λ visited. absurd (false≢true visited);
      };
    }

next_last : (read line : List ℕ) → IsInLine line → 0 < length line → IsCut read → NextLine true read line [] line (read ++ line)
next_last read line whole some cut = record {
  text_is = sym (append-nil (read ++ line));
  lines_are = cut line ∙ ap (λ (ls : List (List ℕ)). lines_of read ++ ls) (lines_of-part line some whole);
  there = record { cut = λ going. absurd (false≢true (sym going)); in_feeds = λ going. absurd (false≢true (sym going)); past_end = λ _. refl };
}

next_line : (ended : Bool) (read rest rest2 line : List ℕ) → IsInLine line → CutsLine ended rest line rest2 → IsCut read → read ≡ with_feeds (lines_of read) → (read2 : List ℕ)
    × NextLine ended read rest rest2 line read2
next_line false read rest rest2 line whole cuts cut in_feeds = (
  read ++ (line ++ line_feed ∷ []),
  subst (λ (r : List ℕ). NextLine false read r rest2 line (read ++ (line ++ line_feed ∷ []))) (sym cuts) (next_ended read rest2 line whole cut in_feeds),
)
next_line true read rest rest2 line whole cuts cut in_feeds = (
  read ++ line,
  subst (λ (r : List ℕ). NextLine true read r rest2 line (read ++ line)) (sym cuts.0)
      (subst (λ (r : List ℕ). NextLine true read line r line (read ++ line)) (sym cuts.2) (next_last read line whole cuts.1 cut)),
)

-- the lines of a text, one of which comes next
pub lines_next : (ended : Bool) (read rest rest2 line : List ℕ) → IsInLine line → CutsLine ended rest line rest2 → IsCut read → lines_of (read ++ rest) ≡ lines_of read ++ line ∷ lines_of rest2
lines_next ended read rest rest2 line whole cuts cut = cut rest ∙ ap (λ (ls : List (List ℕ)). lines_of read ++ ls) (lines_of-cut ended rest line rest2 cuts whole)

-- what is unread after a line was cut off
pub unread_after : (ended : Bool) (a b : Option (List ℕ)) (rest line : List ℕ) → a ≡ Some rest → Cuts ended a b line → (rest2 : List ℕ) × (b ≡ Some rest2) × CutsLine ended rest line rest2
unread_after ended a (Some rest2) rest line is cuts = (rest2, refl, cut_at a is cuts)
  where
    cut_at : (a : Option (List ℕ)) → a ≡ Some rest → Cuts ended a (Some rest2) line → CutsLine ended rest line rest2
    cut_at None e c = absurd (cc)
    cut_at (Some all) e c = let same : all ≡ rest = cc in subst (λ (r : List ℕ). CutsLine ended r line rest2) same c
unread_after ended a None rest line is cuts = absurd (cut_none a is cuts)
  where
    cut_none : (a : Option (List ℕ)) → a ≡ Some rest → Cuts ended a None line → ⊥
    cut_none None e c = cc
    cut_none (Some all) e c = c

-- what a device took that is known, after it took more
pub appended : (a b : Option (List ℕ)) (before written bytes : List ℕ) → a ≡ Some (before ++ written) → Appends a b bytes → b ≡ Some (before ++ (written ++ bytes))
appended None b before written bytes is more = absurd (cc)
appended (Some xs) None before written bytes is more = absurd more
appended (Some xs) (Some ys) before written bytes is more =
    let same : xs ≡ before ++ written = cc in
    ap Some (more ∙ ap (λ (l : List ℕ). l ++ bytes) same ∙ append_assoc before written bytes)

-- how a run goes on from what was read and written so far, for all further lines and choices
abbrev GoesOn : History → (read written : List ℕ) → (lines requests : List Bool) → LexerState → Option OpenBlock → History → Type 0
GoesOn start read written lines requests s block h = (c d : List Bool) (ends : Bool) (later : List (List ℕ))
    → written_from first_state None start (lines ++ c) (requests ++ d) ends (lines_of read ++ later) ≡ written ++ written_from s block h c d ends later

-- the same of a text's last line
abbrev HasLast : (read : List ℕ) → List Bool → LexerState → Type 0
HasLast read lines s = (c : List Bool) (ends : Bool) (later : List (List ℕ)) → last_line (logical_lines (lines ++ c) ends first_state (lines_of read ++ later))
    ≡ last_line (logical_lines c ends s later)

pub one_more : (read read2 line : List ℕ) (later : List (List ℕ)) → lines_of read2 ≡ lines_of read ++ line ∷ [] → lines_of read2 ++ later ≡ lines_of read ++ line ∷ later
one_more read read2 line later more = ap (λ (ls : List (List ℕ)). ls ++ later) more ∙ append_assoc (lines_of read) (line ∷ []) later

goes_on_by : (start : History) (read read2 written line : List ℕ) (lines requests : List Bool) (s s2 : LexerState) (block block2 : Option OpenBlock) (h h2 : History) (memory starved : Bool)
    → GoesOn start read written lines requests s block h
    → lines_of read2 ≡ lines_of read ++ line ∷ [] → stop_at (parsed_at memory s line) ≡ None → s2 ≡ state_by s (served memory s line) → block2 ≡ line_block block (parsed_at memory s line)
    → h2 ≡ history_after_all starved h (line_requests block (parsed_at memory s line))
    → GoesOn start read2 (written ++ replies_to starved h (line_requests block (parsed_at memory s line))) (lines ++ memory ∷ [])
    (requests ++ choices_for starved (line_requests block (parsed_at memory s line))) s2 block2 h2
goes_on_by start read read2 written line lines requests s s2 block block2 h h2 memory starved goes more on s_is block_is h_is c d ends later =
    let us = line_requests block (parsed_at memory s line) in
    let first = written_from first_state None start in
    ap (λ (ls : List (List ℕ)). first ((lines ++ memory ∷ []) ++ c) ((requests ++ choices_for starved us) ++ d) ends ls) (one_more read read2 line later more)
    ∙ ap (λ (l : List Bool). first l ((requests ++ choices_for starved us) ++ d) ends (lines_of read ++ line ∷ later)) (append_assoc lines (memory ∷ []) c)
    ∙ ap (λ (l : List Bool). first (lines ++ memory ∷ c) l ends (lines_of read ++ line ∷ later)) (append_assoc requests (choices_for starved us) d)
    ∙ goes (memory ∷ c) (choices_for starved us ++ d) ends (line ∷ later)
    ∙ ap (λ (l : List ℕ). written ++ l) (written_on memory starved s block h line c d ends later on
    ∙ ap (λ (x : LexerState). replies_to starved h us ++ written_from x (line_block block (parsed_at memory s line)) (history_after_all starved h us) c d ends later) (sym s_is)
    ∙ ap (λ (b : Option OpenBlock). replies_to starved h us ++ written_from s2 b (history_after_all starved h us) c d ends later) (sym block_is)
    ∙ ap (λ (x : History). replies_to starved h us ++ written_from s2 block2 x c d ends later) (sym h_is))
    ∙ sym (append_assoc written (replies_to starved h us) (written_from s2 block2 h2 c d ends later))

has_last_by : (read read2 line : List ℕ) (lines : List Bool) (s s2 : LexerState) (memory : Bool) → HasLast read lines s → lines_of read2 ≡ lines_of read ++ line ∷ []
    → stop_at (parsed_at memory s line) ≡ None → s2 ≡ state_by s (served memory s line)
    → HasLast read2 (lines ++ memory ∷ []) s2
has_last_by read read2 line lines s s2 memory last more on s_is c ends later =
    ap (λ (ls : List (List ℕ)). last_line (logical_lines ((lines ++ memory ∷ []) ++ c) ends first_state ls)) (one_more read read2 line later more)
    ∙ ap (λ (l : List Bool). last_line (logical_lines l ends first_state (lines_of read ++ line ∷ later))) (append_assoc lines (memory ∷ []) c)
    ∙ last (memory ∷ c) ends (line ∷ later)
    ∙ last_on memory s line c ends later on
    ∙ ap (λ (x : LexerState). last_line (logical_lines c ends x later)) (sym s_is)

served_on : (start : History) (text before : List ℕ) (ended ended2 : Bool) (unread0 unread1 taken0 taken1 : Option (List ℕ)) (old new : RunState) (read rest written : List ℕ)
    (lines requests : List Bool) (memory starved : Bool) (line : List ℕ)
    → IsUnderway start text before ended unread0 taken0 old read rest written lines requests → ended ≡ false → Cuts ended2 unread0 unread1 line → IsInLine line → Served memory starved old new line
    → Appends taken0 taken1 (line_replies memory starved old line)
    → Underway start text before ended2 unread1 taken1 new
served_on start text before ended ended2 unread0 unread1 taken0 taken1 old new read rest written lines requests memory starved line u going cuts whole served more =
    let (rest2, unread_is, cut) = unread_after ended2 unread0 unread1 rest line u.unread_is cuts in
    let (read2, n) = next_line ended2 read rest rest2 line whole cut (u.there.cut going) (u.there.in_feeds going) in (
      read2,
      rest2,
      written ++ line_replies memory starved old line,
      lines ++ memory ∷ [],
      requests ++ choices_for starved (line_requests old.block (parsed_at memory old.parser line)),
      record {
        text_is = u.text_is ∙ n.text_is;
        there = n.there;
        unread_is = unread_is;
        taken_is = appended taken0 taken1 before written (line_replies memory starved old line) u.taken_is more;
        goes_on = goes_on_by start read read2 written line lines requests old.parser new.parser old.block new.block old.session.history new.session.history memory starved u.goes_on n.lines_are
            served.goes_on served.parser served.block served.session;
        last = has_last_by read read2 line lines old.parser new.parser memory u.last n.lines_are served.goes_on served.parser;
      },
    )

-- one more line was served, and the run goes on
pub underway_on : (start : History) (text before : List ℕ) (ended ended2 : Bool) (unread0 unread1 taken0 taken1 : Option (List ℕ)) (old new : RunState) (line : List ℕ)
    → Underway start text before ended unread0 taken0 old → ended ≡ false → Cuts ended2 unread0 unread1 line → IsInLine line
    → (memory : Bool) × (starved : Bool) × Served memory starved old new line × Appends taken0 taken1 (line_replies memory starved old line) → Underway start text before ended2 unread1 taken1 new
underway_on start text before ended ended2 unread0 unread1 taken0 taken1 old new line (read, rest, written, lines, requests, u) going cuts whole (memory, starved, served, more) =
    served_on start text before ended ended2 unread0 unread1 taken0 taken1 old new read rest written lines requests memory starved line u going cuts whole served more

-- what the reader did, by its answer
pub gives_line : (old new : ReaderState) (left left_after : Option (List ℕ)) (failed failed_after : ℕ) (more : Bool) → Advances old new left left_after failed failed_after (Ok more) → more ≡ true
    → GivesLine old new left left_after failed failed_after
gives_line old new left left_after failed failed_after true did is = did
gives_line old new left left_after failed failed_after false did is = absurd (cc)

pub gives_end : (old new : ReaderState) (left left_after : Option (List ℕ)) (failed failed_after : ℕ) (more : Bool) → Advances old new left left_after failed failed_after (Ok more) → more ≡ false
    → GivesEnd old new left left_after failed failed_after ⊎ EndsAgain old new left left_after failed failed_after
gives_end old new left left_after failed failed_after true did is = absurd (cc)
gives_end old new left left_after failed failed_after false did is = did

pub stops_now : (old new : ReaderState) (left left_after : Option (List ℕ)) (failed failed_after : ℕ) (stop : ReadStop) → Advances old new left left_after failed failed_after (Err stop)
    → old.stop ≡ None → StopsNow old new left left_after failed failed_after stop
stops_now old new left left_after failed failed_after stop did going =
    ⊎_elim (λ (now : StopsNow old new left left_after failed failed_after stop). now)
    (λ (again : StopsAgain old new left left_after failed failed_after stop). let stopped = again.stopped in absurd (cc)) did

-- no read failed where the end was met
pub count_at_end : (old new : ReaderState) (left left_after : Option (List ℕ)) (failed failed_after : ℕ) → GivesEnd old new left left_after failed failed_after
    ⊎ EndsAgain old new left left_after failed failed_after → failed_after ≡ failed
count_at_end old new left left_after failed failed_after end =
    ⊎_elim (λ (now : GivesEnd old new left left_after failed failed_after). now.count) (λ (again : EndsAgain old new left left_after failed failed_after). again.count) end

-- all of the text is unread by a new reader
pub unread_begun : (r : ReaderState) (left : Option (List ℕ)) (text : List ℕ) → r ≡ no_line → left ≡ Some text → unread r left ≡ Some text
unread_begun r left text is left_is = ap (λ (x : ReaderState). unread x left) is ∙ ap (λ (l : Option (List ℕ)). unread no_line l) left_is

-- no read failed so far
pub reads_kept : (f0 f1 f2 : ℕ) (r : Result (Unit {0}) RunFault) → f1 ≡ f0 → f2 ≡ f1 → IfErr r (λ ended. ReadsNone ended) → CountsReads f0 f2 r
reads_kept f0 f1 f2 (Ok done) same more none = more ∙ same
reads_kept f0 f1 f2 (Err ended) same more none = more ∙ same ∙ counts_none f0 ended none
