-- A run that is under way ends: what was then written of its whole text, one lemma for each way to end.
use Rattle.std.proofs.Common.{◌≡◌, ℕ, ◌<◌, ◌≤◌, Bool, true, false, List, [], ◌∷◌, ◌++◌, length, Option, Some, None, Result, Ok, Err, refl, sym, ap, ◌∙◌, subst, append-nil, append_assoc, inl, ⊎_elim}
use Rattle.std.specs.Prelude.{◌⊎◌}
use Rattle.std.specs.Io.KnownBytes.{Appends, Keeps, prepend_known, IsAtEnd}
use Rattle.coll_devices.specs.Devices.{AppendsPrefix}
use Rattle.coll_devices.specs.Limits.{most_line_bytes}
use Rattle.coll_devices.specs.PhysicalLines.{IsInLine, lines_of}
use Rattle.coll_devices.specs.LineReading.{ReaderState, Cuts, IsLongLine, GivesEnd, EndsAgain, StopsNow, unread}
use Rattle.coll_lex.specs.LogicalLines.{LexerState, pending, number_of, first_line, first_state, served, state_by, logical_lines}
use Rattle.coll_lex.specs.declared.faults.LexFault.{LexFault}
use Rattle.coll_lex.specs.declared.tokens.Line.{Line}
use Rattle.coll_lex.specs.declared.faults.LexFault.TheVariants as lex
use Rattle.coll_devices.specs.declared.stops.ReadStop.{ReadStop}
use Rattle.coll_devices.specs.declared.stops.ReadStop.TheVariants as stop
use Rattle.coll_faults.specs.declared.faults.RunFault.{RunFault}
use Rattle.coll_history.specs.Histories.{History}
use Rattle.coll_requests.specs.OpenBlocks.{kept_end_faults, kept_last_faults}
use Rattle.coll_bench.specs.Replies.{refused_lines}
use Rattle.coll_requests.specs.Taking.{stop_at, line_requests, line_block}
use Rattle.coll_bench.specs.Serving.{history_after_all, line_replies, write_failed, stopped_at, never_ran, read_failed, EndsWith, EndsAtLine, FinishesWith, IsCutOff}
use Rattle.coll_bench.specs.Runs.{starved_output, last_line, RanToLastLine, RanToReadFault, RanToLexFault, Ran}
use Rattle.coll_bench.specs.Underway.{written_from, IsCut, IsUnderway, Underway}
use Rattle.coll_bench.specs.declared.serving.RunState.{RunState}
use Rattle.coll_bench.proofs.RunLemmas.{output_kept, choices_for, written_on, written_stop}
use Rattle.coll_bench.proofs.RunEnds.{last_stop, written_end, written_cut, last_end, last_cut}
use Rattle.coll_bench.proofs.RunSteps.{appended, unread_after, lines_next}
use Rattle.coll_bench.proofs.ServingLemmas.{stopped_replies}
use Rattle.coll_lex.specs.Faults.{ends_text}
use Rattle.coll_requests.specs.SessionLines.{opening_of}
use Rattle.coll_requests.specs.Parsing.{parsed_by, parsed_in, parsed_at}
use Rattle.coll_requests.specs.declared.session_lines.ParsedLine.{ParsedLine}
use Rattle.coll_requests.specs.declared.session_lines.Parsed.TheVariants as parsed
use Rattle.coll_devices.proofs.PhysicalLinesLemmas.{lines_of-long}
use Rattle.coll_lex.proofs.LineEnds.{fed-too_long}

-- what a run that ends leaves behind
abbrev pub Leaves : History → (text before : List ℕ) → (left taken : Option (List ℕ)) → Result (Unit {0}) RunFault → Type 0
Leaves start text before left taken r = (written : List ℕ) × (taken ≡ Some (before ++ written)) × Ran start text left written r

-- a text whose next line is this one
abbrev GoesBy : (text read line : List ℕ) → List (List ℕ) → Type 0
GoesBy text read line later = lines_of text ≡ lines_of read ++ line ∷ later

-- a fault of a last line
lex_fault_ran : (start : History) (text : List ℕ) (left : Option (List ℕ)) (written : List ℕ) (ls us : List Bool) (number : ℕ) (f : LexFault) → ends_text f ≡ true
    → RanToLastLine start text written ls us number f → RanToLexFault start text left written number f
lex_fault_ran start text left written ls us number lex.LineTooLong last r = (ls, us, r)
lex_fault_ran start text left written ls us number lex.TooManyLines last r = (ls, us, r)
lex_fault_ran start text left written ls us number lex.DanglingEscape last r = (ls, us, r)
lex_fault_ran start text left written ls us number lex.NotUtf8 last r = (ls, us, r)
lex_fault_ran start text left written ls us number lex.OpenSymbol last r = (ls, us, r)
lex_fault_ran start text left written ls us number lex.EmptySymbol last r = (ls, us, r)
lex_fault_ran start text left written ls us number lex.BadName last r = (ls, us, r)
lex_fault_ran start text left written ls us number lex.BadCodePoint last r = (ls, us, r)
lex_fault_ran start text left written ls us number lex.OpenString last r = (ls, us, r)
lex_fault_ran start text left written ls us number lex.CharacterConstant last r = (ls, us, r)
lex_fault_ran start text left written ls us number lex.BadCharDirective last r = (ls, us, r)
lex_fault_ran start text left written ls us number lex.OutOfMemory last r = absurd (cc)

-- the whole output, of a text whose next line is this one
output_by : (start : History) (text before : List ℕ) (ended0 : Bool) (unread0 taken0 : Option (List ℕ)) (old : RunState) (read rest written : List ℕ) (lines requests : List Bool) (line : List ℕ)
    (later : List (List ℕ)) (c d : List Bool)
    → IsUnderway start text before ended0 unread0 taken0 old read rest written lines requests → GoesBy text read line later
    → starved_output (lines ++ c) (requests ++ d) true start text ≡ written ++ written_from old.parser old.block old.session.history c d true (line ∷ later)
output_by start text before ended0 unread0 taken0 old read rest written lines requests line later c d u by =
    output_kept (lines ++ c) (requests ++ d) true start text
    ∙ ap (λ (ls : List (List ℕ)). written_from first_state None start (lines ++ c) (requests ++ d) true ls) by ∙ u.goes_on c d true (line ∷ later)

-- the session ends with the line: what the whole output is
output_stop : (start : History) (text before : List ℕ) (ended0 : Bool) (unread0 taken0 : Option (List ℕ)) (old : RunState) (read rest written : List ℕ) (lines requests : List Bool) (line : List ℕ)
    (later : List (List ℕ)) (memory starved : Bool) (f : LexFault)
    → IsUnderway start text before ended0 unread0 taken0 old read rest written lines requests → GoesBy text read line later → stop_at (parsed_at memory old.parser line) ≡ Some f
    → starved_output (lines ++ memory ∷ []) (requests ++ (choices_for starved (line_requests old.block (parsed_at memory old.parser line)) ++ [])) true start text
    ≡ written ++ line_replies memory starved old line
output_stop start text before ended0 unread0 taken0 old read rest written lines requests line later memory starved f u by stops =
    output_by start text before ended0 unread0 taken0 old read rest written lines requests line later (memory ∷ [])
    (choices_for starved (line_requests old.block (parsed_at memory old.parser line)) ++ []) u by
    ∙ ap (λ (l : List ℕ). written ++ l) (written_stop memory starved old.parser old.block old.session.history line [] [] true later f stops)

-- a prefix of the bytes that were to be written was written
abbrev prefix_written : (written prefix back more : List ℕ) → (bytes : List ℕ) → bytes ≡ prefix ++ back → written ++ (bytes ++ more) ≡ (written ++ prefix) ++ (back ++ more)
prefix_written written prefix back more bytes is =
    ap (λ (l : List ℕ). written ++ (l ++ more)) is ∙ ap (λ (l : List ℕ). written ++ l) (append_assoc prefix back more) ∙ sym (append_assoc written prefix (back ++ more))

-- a write failed: a prefix of what the text's whole output goes on with was written
write_ran : (start : History) (text before : List ℕ) (left taken0 taken1 : Option (List ℕ)) (written bytes more : List ℕ) (ls us : List Bool) (ended : RunFault)
    → starved_output ls us true start text ≡ written ++ (bytes ++ more)
    → taken0 ≡ Some (before ++ written) → ended ≡ write_failed → AppendsPrefix taken0 taken1 bytes → Leaves start text before left taken1 (Err ended)
write_ran start text before left taken0 taken1 written bytes more ls us ended is taken_is failed (prefix, back, parts, more_taken) = (
  written ++ prefix,
  appended taken0 taken1 before written prefix taken_is more_taken,
  subst (λ (e : RunFault). Ran start text left (written ++ prefix) (Err e)) (sym failed) (refl, ls, us, back ++ more, is ∙ prefix_written written prefix back more bytes parts),
)

-- a last line was served whole
last_ran : (start : History) (text before : List ℕ) (left taken0 taken1 : Option (List ℕ)) (written bytes : List ℕ) (ls us : List Bool) (number : ℕ) (f : LexFault) (ended : RunFault)
    → ends_text f ≡ true → RanToLastLine start text (written ++ bytes) ls us number f
    → taken0 ≡ Some (before ++ written) → ended ≡ stopped_at number f → Appends taken0 taken1 bytes → Leaves start text before left taken1 (Err ended)
last_ran start text before left taken0 taken1 written bytes ls us number f ended last r taken_is stopped more = (
  written ++ bytes,
  appended taken0 taken1 before written bytes taken_is more,
  subst (λ (e : RunFault). Ran start text left (written ++ bytes) (Err e)) (sym stopped) (lex_fault_ran start text left (written ++ bytes) ls us number f last r),
)

-- the session ends at a line, of which memory was refused or not
stop_ran : (start : History) (text before : List ℕ) (left : Option (List ℕ)) (ended0 : Bool) (unread0 taken0 taken1 : Option (List ℕ)) (old : RunState) (read rest written : List ℕ)
    (lines requests : List Bool) (line : List ℕ) (later : List (List ℕ)) (memory starved : Bool) (f : LexFault) (ended : RunFault)
    → IsUnderway start text before ended0 unread0 taken0 old read rest written lines requests → GoesBy text read line later → stop_at (parsed_at memory old.parser line) ≡ Some f
    → EndsWith (number_of old.parser) f taken0 taken1 (line_replies memory starved old line) ended → Leaves start text before left taken1 (Err ended)
stop_ran start text before left ended0 unread0 taken0 taken1 old read rest written lines requests line later memory starved f ended u by stops ends =
    let us = requests ++ (choices_for starved (line_requests old.block (parsed_at memory old.parser line)) ++ []) in
    let bytes = line_replies memory starved old line in
    let whole = output_stop start text before ended0 unread0 taken0 old read rest written lines requests line later memory starved f u by stops in
    let l = last_stop memory old.parser line [] true later f stops in
    ⊎_elim
    (λ (e : (ended ≡ stopped_at (number_of old.parser) f) × Appends taken0 taken1 bytes).
    last_ran start text before left taken0 taken1 written bytes (lines ++ memory ∷ []) us (number_of old.parser) f ended l.last
    (record {
      output_is = sym whole;
      last = ap (λ (ls : List (List ℕ)). last_line (logical_lines (lines ++ memory ∷ []) true first_state ls)) by ∙ u.last (memory ∷ []) true (line ∷ later) ∙ l.line_is;
    }) u.taken_is e.0 e.1)
    (λ (e : (ended ≡ write_failed) × AppendsPrefix taken0 taken1 bytes).
    write_ran start text before left taken0 taken1 written bytes [] (lines ++ memory ∷ []) us ended (whole ∙ ap (λ (l : List ℕ). written ++ l) (sym (append-nil bytes))) u.taken_is e.0 e.1)
    ends

-- a write failed at a line that the session would go on after
cut_ran : (start : History) (text before : List ℕ) (left : Option (List ℕ)) (ended0 : Bool) (unread0 taken0 taken1 : Option (List ℕ)) (old : RunState) (read rest written : List ℕ)
    (lines requests : List Bool) (line : List ℕ) (later : List (List ℕ)) (memory starved : Bool) (ended : RunFault)
    → IsUnderway start text before ended0 unread0 taken0 old read rest written lines requests → GoesBy text read line later → stop_at (parsed_at memory old.parser line) ≡ None
    → ended ≡ write_failed → AppendsPrefix taken0 taken1 (line_replies memory starved old line) → Leaves start text before left taken1 (Err ended)
cut_ran start text before left ended0 unread0 taken0 taken1 old read rest written lines requests line later memory starved ended u by on failed prefix =
    let us = line_requests old.block (parsed_at memory old.parser line) in
    write_ran start text before left taken0 taken1 written (line_replies memory starved old line)
    (written_from (state_by old.parser (served memory old.parser line)) (line_block old.block (parsed_at memory old.parser line)) (history_after_all starved old.session.history us) [] [] true later)
    (lines ++ memory ∷ []) (requests ++ (choices_for starved us ++ [])) ended
    (output_by start text before ended0 unread0 taken0 old read rest written lines requests line later (memory ∷ []) (choices_for starved us ++ []) u by
    ∙ ap (λ (l : List ℕ). written ++ l) (written_on memory starved old.parser old.block old.session.history line [] [] true later on))
    u.taken_is failed prefix

ends_by : (start : History) (text before : List ℕ) (left : Option (List ℕ)) (ended0 : Bool) (unread0 taken0 taken1 : Option (List ℕ)) (old : RunState) (read rest written : List ℕ)
    (lines requests : List Bool) (line : List ℕ) (later : List (List ℕ)) (memory starved : Bool) (ended : RunFault)
    → IsUnderway start text before ended0 unread0 taken0 old read rest written lines requests → GoesBy text read line later → EndsAtLine memory starved old line taken0 taken1 ended
    → Leaves start text before left taken1 (Err ended)
ends_by start text before left ended0 unread0 taken0 taken1 old read rest written lines requests line later memory starved ended u by ends =
    ⊎_elim
    (λ (e : (f : LexFault) × (stop_at (parsed_at memory old.parser line) ≡ Some f) × EndsWith (number_of old.parser) f taken0 taken1 (line_replies memory starved old line) ended).
    stop_ran start text before left ended0 unread0 taken0 taken1 old read rest written lines requests line later memory starved e.0 ended u by e.1 e.2)
    (λ (e : (stop_at (parsed_at memory old.parser line) ≡ None) × (ended ≡ write_failed) × AppendsPrefix taken0 taken1 (line_replies memory starved old line)).
    cut_ran start text before left ended0 unread0 taken0 taken1 old read rest written lines requests line later memory starved ended u by e.0 e.1 e.2)
    ends

-- the session ended at a line
pub line_ended : (start : History) (text before : List ℕ) (left : Option (List ℕ)) (ended0 ended1 : Bool) (unread0 unread1 taken0 taken1 : Option (List ℕ)) (old : RunState) (line : List ℕ)
    (ended : RunFault) → Underway start text before ended0 unread0 taken0 old → ended0 ≡ false
    → Cuts ended1 unread0 unread1 line → IsInLine line → (memory : Bool) × (starved : Bool) × EndsAtLine memory starved old line taken0 taken1 ended → Leaves start text before left taken1 (Err ended)
line_ended start text before left ended0 ended1 unread0 unread1 taken0 taken1 old line ended (read, rest, written, lines, requests, u) going cuts whole (memory, starved, did) =
    let (rest2, unread_is, cut) = unread_after ended1 unread0 unread1 rest line u.unread_is cuts in
    ends_by start text before left ended0 unread0 taken0 taken1 old read rest written lines requests line (lines_of rest2) memory starved ended u
    (ap lines_of u.text_is ∙ lines_next ended1 read rest rest2 line whole cut (u.there.cut going)) did

-- a line too long ended the session
abbrev long_line_at : LexerState → ParsedLine
long_line_at s = record { number = number_of s; parsed = parsed.Stops lex.LineTooLong }

long_at : (s : LexerState) (line : List ℕ) → 65536 < length line → parsed_at false s line ≡ Some (long_line_at s)
unfolding parsed_in served
long_at s line long = ap (λ (a : Result (Option Line × LexerState) LexFault). parsed_by true (number_of s) (opening_of (first_line s line)) a) (fed-too_long s line long)

long_line : (read rest held more : List ℕ) → rest ≡ held ++ more → IsLongLine held → IsCut read → (line : List ℕ) × (later : List (List ℕ)) × (lines_of (read ++ rest) ≡ lines_of read ++ line ∷ later)
    × (65536 < length line)
long_line read rest held more is long cut =
    let (line, later, begins, longer) = lines_of-long held more long in
    (line, later, cut rest ∙ ap (λ (ls : List (List ℕ)). lines_of read ++ ls) (ap lines_of is ∙ begins), longer)

held_first : (held : List ℕ) (unread0 left1 : Option (List ℕ)) (rest : List ℕ) → unread0 ≡ Some rest → Keeps unread0 (prepend_known held left1) → (more : List ℕ) × (left1 ≡ Some more)
    × (rest ≡ held ++ more)
held_first held None left1 rest is keeps = absurd (cc)
held_first held (Some all) None rest is keeps = absurd keeps
held_first held (Some all) (Some more) rest is keeps = let same : all ≡ rest = cc in (more, refl, sym same ∙ sym keeps)

ends_long : (old : RunState) (line : List ℕ) (taken0 taken1 : Option (List ℕ)) (ended : RunFault) → 65536 < length line
    → EndsWith (number_of old.parser) lex.LineTooLong taken0 taken1 (refused_lines (kept_last_faults old.block (number_of old.parser) lex.LineTooLong)) ended
    → EndsAtLine false false old line taken0 taken1 ended
ends_long old line taken0 taken1 ended long ends =
    let at = long_at old.parser line long in
    inl (
      lex.LineTooLong,
      ap stop_at at,
      subst (λ (bytes : List ℕ). EndsWith (number_of old.parser) lex.LineTooLong taken0 taken1 bytes ended)
          (stopped_replies false false old line (long_line_at old.parser) lex.LineTooLong at refl) ends,
    )

pub long_ended : (start : History) (text before : List ℕ) (left : Option (List ℕ)) (ended0 : Bool) (unread0 left1 taken0 taken1 : Option (List ℕ)) (old : RunState) (held : List ℕ) (ended : RunFault)
    → Underway start text before ended0 unread0 taken0 old → ended0 ≡ false → Keeps unread0 (prepend_known held left1) → IsLongLine held
    → EndsWith (number_of old.parser) lex.LineTooLong taken0 taken1 (refused_lines (kept_last_faults old.block (number_of old.parser) lex.LineTooLong)) ended
    → Leaves start text before left taken1 (Err ended)
long_ended start text before left ended0 unread0 left1 taken0 taken1 old held ended (read, rest, written, lines, requests, u) going keeps long ends =
    let (more, left_is, rest_is) = held_first held unread0 left1 rest u.unread_is keeps in
    let (line, later, by, longer) = long_line read rest held more rest_is long (u.there.cut going) in
    ends_by start text before left ended0 unread0 taken0 taken1 old read rest written lines requests line later false false ended u (ap lines_of u.text_is ∙ by)
    (ends_long old line taken0 taken1 ended longer ends)

-- a read failed: a part of the next line was read
read_ran : (start : History) (text before : List ℕ) (ended0 : Bool) (unread0 taken0 : Option (List ℕ)) (old : RunState) (read rest written : List ℕ) (lines requests : List Bool) (held more : List ℕ)
    → IsUnderway start text before ended0 unread0 taken0 old read rest written lines requests → ended0 ≡ false → rest ≡ held ++ more → IsInLine held → length held ≤ most_line_bytes
    → RanToReadFault start text (Some more) written (lines ++ []) (requests ++ []) read held more
read_ran start text before ended0 unread0 taken0 old read rest written lines requests held more u going is whole short = record {
  text_is = u.text_is ∙ ap (λ (r : List ℕ). read ++ r) is;
  in_feeds = u.there.in_feeds going;
  whole = ap lines_of u.text_is ∙ u.there.cut going rest ∙ ap (λ (r : List ℕ). lines_of read ++ lines_of r) is;
  part_in_line = whole;
  part_short = short;
  left_is = refl;
  output_is = sym (output_kept (lines ++ []) (requests ++ []) false start read ∙ ap (λ (ls : List (List ℕ)). written_from first_state None start (lines ++ []) (requests ++ []) false ls)
      (sym (append-nil (lines_of read)))
      ∙ u.goes_on [] [] false [] ∙ ap (λ (l : List ℕ). written ++ l) (written_cut old.parser old.block old.session.history) ∙ append-nil written);
  no_last = ap (λ (ls : List (List ℕ)). last_line (logical_lines (lines ++ []) false first_state ls)) (sym (append-nil (lines_of read))) ∙ u.last [] false [] ∙ last_cut old.parser;
}

pub read_ended : (start : History) (text before : List ℕ) (ended0 : Bool) (unread0 left1 taken0 taken1 : Option (List ℕ)) (old : RunState) (held : List ℕ) (ended : RunFault)
    → Underway start text before ended0 unread0 taken0 old → ended0 ≡ false → Keeps unread0 (prepend_known held left1) → IsInLine held → length held ≤ most_line_bytes
    → (ended ≡ read_failed) × (taken1 ≡ taken0) → Leaves start text before left1 taken1 (Err ended)
read_ended start text before ended0 unread0 left1 taken0 taken1 old held ended (read, rest, written, lines, requests, u) going keeps whole short (is, kept) =
    let (more, left_is, rest_is) = held_first held unread0 left1 rest u.unread_is keeps in (
      written,
      kept ∙ u.taken_is,
      subst (λ (e : RunFault). Ran start text left1 written (Err e)) (sym is) (
        refl,
        lines ++ [],
        requests ++ [],
        read,
        held,
        more,
        subst (λ (l : Option (List ℕ)). RanToReadFault start text l written (lines ++ []) (requests ++ []) read held more) (sym left_is)
            (read_ran start text before ended0 unread0 taken0 old read rest written lines requests held more u going rest_is whole short),
      ),
    )

-- the text ended
nothing_unread : (unread0 left1 : Option (List ℕ)) (rest : List ℕ) → unread0 ≡ Some rest → Keeps unread0 (prepend_known [] left1) → IsAtEnd (prepend_known [] left1) → (rest ≡ []) × (left1 ≡ Some [])
nothing_unread unread0 None rest is keeps end = absurd (none_kept unread0 is keeps)
  where
    none_kept : (a : Option (List ℕ)) → a ≡ Some rest → Keeps a None → ⊥
    none_kept None e k = cc
    none_kept (Some all) e k = k
nothing_unread unread0 (Some more) rest is keeps end =
    let (held, left_is, rest_is) = held_first [] unread0 (Some more) rest is keeps in
    let same : held ≡ more = cc in
    (rest_is ∙ same ∙ end, ap Some end)

end_lines : (text read rest : List ℕ) → text ≡ read ++ rest → rest ≡ [] → lines_of text ≡ lines_of read ++ []
end_lines text read rest is none = ap lines_of (is ∙ ap (λ (r : List ℕ). read ++ r) none ∙ append-nil read) ∙ sym (append-nil (lines_of read))

end_output : (start : History) (text before : List ℕ) (ended0 : Bool) (unread0 taken0 : Option (List ℕ)) (old : RunState) (read rest written : List ℕ) (lines requests : List Bool)
    → IsUnderway start text before ended0 unread0 taken0 old read rest written lines requests → rest ≡ [] → starved_output (lines ++ []) (requests ++ []) true start text
    ≡ written ++ refused_lines (kept_end_faults old.block (pending old.parser))
end_output start text before ended0 unread0 taken0 old read rest written lines requests u none =
    output_kept (lines ++ []) (requests ++ []) true start text
    ∙ ap (λ (ls : List (List ℕ)). written_from first_state None start (lines ++ []) (requests ++ []) true ls) (end_lines text read rest u.text_is none)
    ∙ u.goes_on [] [] true [] ∙ ap (λ (l : List ℕ). written ++ l) (written_end old.parser old.block old.session.history)

end_ran : (start : History) (text before : List ℕ) (left1 taken0 taken1 : Option (List ℕ)) (ended0 : Bool) (unread0 : Option (List ℕ)) (old : RunState) (read rest written : List ℕ)
    (lines requests : List Bool) (r : Result (Unit {0}) RunFault)
    → IsUnderway start text before ended0 unread0 taken0 old read rest written lines requests → rest ≡ [] → left1 ≡ Some []
    → FinishesWith taken0 taken1 (refused_lines (kept_end_faults old.block (pending old.parser))) r → Leaves start text before left1 taken1 r
end_ran start text before left1 taken0 taken1 ended0 unread0 old read rest written lines requests (Ok done) u none left_is more =
    let bytes = refused_lines (kept_end_faults old.block (pending old.parser)) in (
      written ++ bytes,
      appended taken0 taken1 before written bytes u.taken_is more,
      (
        lines ++ [],
        requests ++ [],
        record {
          output_is = sym (end_output start text before ended0 unread0 taken0 old read rest written lines requests u none);
          no_last = ap (λ (ls : List (List ℕ)). last_line (logical_lines (lines ++ []) true first_state ls)) (end_lines text read rest u.text_is none) ∙ u.last [] true [] ∙ last_end old.parser;
          left_is = left_is;
        },
      ),
    )
end_ran start text before left1 taken0 taken1 ended0 unread0 old read rest written lines requests (Err ended) u none left_is (is, prefix) =
    let bytes = refused_lines (kept_end_faults old.block (pending old.parser)) in
    write_ran start text before left1 taken0 taken1 written bytes [] (lines ++ []) (requests ++ []) ended
    (end_output start text before ended0 unread0 taken0 old read rest written lines requests u none ∙ ap (λ (l : List ℕ). written ++ l) (sym (append-nil bytes))) u.taken_is is prefix

-- past the end of the input nothing is left
nothing_left : (held : List ℕ) (left left1 : Option (List ℕ)) → prepend_known held left ≡ Some [] → Keeps left left1 → left1 ≡ Some []
nothing_left held None left1 is keeps = absurd cc
nothing_left [] (Some all) None is keeps = absurd keeps
nothing_left [] (Some all) (Some more) is keeps = let none : all ≡ [] = cc in ap Some (keeps ∙ none)
nothing_left (c ∷ held) (Some all) left1 is keeps = absurd cc

-- the end was met now, or an earlier call has met it
at_end : (old new : ReaderState) (left left1 : Option (List ℕ)) (failed failed1 : ℕ) (rest : List ℕ) → unread old left ≡ Some rest → (old.ended ≡ true → rest ≡ [])
    → GivesEnd old new left left1 failed failed1 ⊎ EndsAgain old new left left1 failed failed1
    → (rest ≡ []) × (left1 ≡ Some [])
at_end old new left left1 failed failed1 rest is past end =
    ⊎_elim
    (λ (now : GivesEnd old new left left1 failed failed1).
    nothing_unread (unread old left) left1 rest is (subst (λ (h : List ℕ). Keeps (unread old left) (prepend_known h left1)) now.held now.kept)
    (subst (λ (h : List ℕ). IsAtEnd (prepend_known h left1)) now.held now.end))
    (λ (again : EndsAgain old new left left1 failed failed1). let none = past again.ended in (none, nothing_left old.held left left1 (is ∙ ap Some none) again.kept))
    end

pub text_ended : (start : History) (text before : List ℕ) (old new : ReaderState) (left left1 taken0 taken1 : Option (List ℕ)) (failed failed1 : ℕ) (state : RunState)
    (r : Result (Unit {0}) RunFault) → Underway start text before old.ended (unread old left) taken0 state
    → GivesEnd old new left left1 failed failed1 ⊎ EndsAgain old new left left1 failed failed1 → FinishesWith taken0 taken1 (refused_lines (kept_end_faults state.block (pending state.parser))) r
    → Leaves start text before left1 taken1 r
text_ended start text before old new left left1 taken0 taken1 failed failed1 state r (read, rest, written, lines, requests, u) end finishes =
    let e = at_end old new left left1 failed failed1 rest u.unread_is u.there.past_end end in
    end_ran start text before left1 taken0 taken1 old.ended (unread old left) state read rest written lines requests r u e.0 e.1 finishes

-- memory was refused before the first line was read
pub never_begun : (start : History) (text before : List ℕ) (left taken : Option (List ℕ)) (ended : RunFault) → ended ≡ never_ran → left ≡ Some text → taken ≡ Some before
    → Leaves start text before left taken (Err ended)
never_begun start text before left taken ended is left_is taken_is =
    ([], taken_is ∙ ap Some (sym (append-nil before)), subst (λ (e : RunFault). Ran start text left [] (Err e)) (sym is) (refl, record { nothing_written = refl; nothing_read = left_is }))

-- no further line could be read
pub cut_off_ended : (start : History) (text before : List ℕ) (old new : ReaderState) (left left1 taken0 taken1 : Option (List ℕ)) (failed failed1 : ℕ) (state : RunState) (stop : ReadStop)
    (ended : RunFault) → StopsNow old new left left1 failed failed1 stop
    → Underway start text before old.ended (unread old left) taken0 state → IsCutOff stop (number_of state.parser) taken0 taken1
    (refused_lines (kept_last_faults state.block (number_of state.parser) lex.LineTooLong)) ended → Leaves start text before left1 taken1 (Err ended)
cut_off_ended start text before old new left left1 taken0 taken1 failed failed1 state stop.LineTooLong ended stops u cut =
    long_ended start text before left1 old.ended (unread old left) left1 taken0 taken1 state new.held ended u stops.not_ended stops.kept stops.cause.1 cut
cut_off_ended start text before old new left left1 taken0 taken1 failed failed1 state stop.ReadFault ended stops u cut =
    read_ended start text before old.ended (unread old left) left1 taken0 taken1 state new.held ended u stops.not_ended stops.kept stops.cause.1 stops.cause.2 cut
