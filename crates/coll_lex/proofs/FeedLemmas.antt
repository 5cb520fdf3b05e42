-- The answer to one more physical line, by the scan of its logical line.
use Rattle.std.proofs.Common.{Result, ◌≡◌, ◌≢◌, ℕ, ◌+◌, ◌<◌, ◌≤◌, ◌&&◌, nat_lt, Bool, true, false, if◌then◌else◌, List, [], ◌∷◌, ◌++◌, map, length}
use Rattle.std.proofs.Common.{All, chars, IsUtf8, Option, Some, None, option_map, Ok, Err, refl, ap, sym, ◌∙◌, subst, append_assoc, arith}
use Rattle.std.specs.Option.{ForSome}
use Rattle.std.specs.Str.{is_utf8}
use Rattle.std.specs.declared.alloc.Global.{Global}
use Rattle.std.proofs.lemmas.List.{append-nil}
use Rattle.std.proofs.lemmas.List.Elements.{All-nil, All-cons, All-append}
use Rattle.std.proofs.lemmas.Bool.Decides.{nat_tests}
use Rattle.std.proofs.lemmas.Str.{is_utf8-from_IsUtf8, IsUtf8-from_is_utf8}
use Rattle.coll_devices.specs.PhysicalLines.{without_return}
use Rattle.coll_lex.specs.Marked.{Mark, marks, is_joined, joined_marks}
use Rattle.coll_lex.specs.Tokens.{before_close, atoms, Stop, AtFault, AtComment, AtEnd, InSymbol, InString, Reading, quoted, word_run, reading, reading_of}
use Rattle.coll_lex.specs.Directives.{directive}
use Rattle.coll_lex.specs.LogicalLines.{OpenLine, LexerState, dropped, line_of, continued, answer_at, answer_to, needs_memory}
use Rattle.coll_lex.specs.LogicalLines.{takes_memory, reading_in, answer_in, line_fault, fed_as, fed_text, fed, bytes_before}
use Rattle.coll_lex.specs.Scanning.{fresh, reading_left, left_in_mode, TakesLine, RefusesLine, gathers_by, GathersLine, IsInWord, is_continued, goes_on, word_token, ending_in, ending}
use Rattle.coll_lex.specs.Lexer.{lines_in, line_in, empty_line, added, IsSoundOpen}
use Rattle.coll_lex.specs.declared.tokens.Chars.{Chars}
use Rattle.coll_lex.specs.declared.tokens.Piece.{Piece}
use Rattle.coll_lex.specs.declared.tokens.Token.{Token}
use Rattle.coll_lex.specs.declared.tokens.Line.{Line}
use Rattle.coll_devices.specs.Limits.{most_line_bytes}
use Rattle.coll_lex.specs.Limits.{most_lines}
use Rattle.coll_lex.specs.declared.faults.LexFault.{LexFault}
use Rattle.coll_lex.specs.declared.faults.LexFault.TheVariants.{NotUtf8, OpenSymbol, OpenString, LineTooLong}
use Rattle.coll_lex.specs.declared.scanning.Scan.{Scan}
use Rattle.coll_lex.specs.declared.scanning.Mode.{Mode}
use Rattle.coll_lex.specs.declared.scanning.Mode.TheVariants as mode
use Rattle.coll_lex.specs.declared.logical_lines.Open.{Open}
use Rattle.coll_lex.proofs.ScanRows.{differs}
use Rattle.coll_lex.proofs.LineFaults.{stop_among, reading_in_faults}

-- the tests before a line is read

pub line_passes : (count bytes : ℕ) → bytes ≤ most_line_bytes → count ≢ most_lines → line_fault count bytes ≡ None
line_passes count bytes short more =
    let within : nat_lt most_line_bytes bytes ≡ false = grind (arith, nat_tests) in
    rw (within, differs count most_lines more) refl

long_fails : (t : Bool) (rest : Option LexFault) → (if t then Some LineTooLong else rest) ≡ None → t ≡ false
long_fails true rest e = cc
long_fails false rest e = refl

-- a line that passes the tests is short enough
pub passes_short : (count bytes : ℕ) → line_fault count bytes ≡ None → bytes ≤ most_line_bytes
passes_short count bytes e =
    let t = long_fails (nat_lt most_line_bytes bytes) _ e in
    grind (arith, nat_tests)

not_text : (t : Bool) (line : List ℕ) → is_utf8 line ≡ t → (IsUtf8 line → ⊥) → is_utf8 line ≡ false
not_text true line e h = absurd (h (IsUtf8-from_is_utf8 line e))
not_text false line e h = e

pub fed_faulty : (s : LexerState) (line : List ℕ) (bytes : ℕ) (fault : LexFault) → bytes ≡ bytes_before s + length line → line_fault s.count bytes ≡ Some fault → fed s line ≡ Err fault
unfolding fed
fed_faulty s line bytes fault e f = rw (← e, f) refl

-- the reading of the physical lines of an open line, and of one more

joined_marks-push : (escape : ℕ) (lines : List (List ℕ)) (line : List ℕ) → joined_marks escape (map chars (lines ++ line ∷ []))
    ≡ joined_marks escape (map chars lines) ++ marks escape false (chars line)
unfolding joined_marks
joined_marks-push escape [] line = append-nil (marks escape false (chars line))
joined_marks-push escape (l ∷ ls) line = ap (λ ms. marks escape false (chars l) ++ ms) (joined_marks-push escape ls line)
    ∙ sym (append_assoc (marks escape false (chars l)) (joined_marks escape (map chars ls)) (marks escape false (chars line)))

-- a scan has read these physical lines
pub record ReadsLines (special : Chars) (lines : List (List ℕ)) (s : Scan) : Type 0 where
  pub reads : (ms : List Mark) → reading_of special.comment (joined_marks special.escape (map chars lines) ++ ms) ≡ reading_left special.comment s ms

pub sound_reads : (special : Chars) (o : Open) → IsSoundOpen special o → ReadsLines special (lines_in o.lines.items) o.scan
sound_reads special o h = record { reads = h.reads }

pub fresh_reads : (special : Chars) (alloc : Global) → ReadsLines special [] (fresh alloc)
unfolding joined_marks reading_left
fresh_reads special alloc = record { reads = λ ms. refl }

pub fresh_from : (special : Chars) (alloc : Global) (s : Scan) → s ≡ fresh alloc → ReadsLines special [] s
fresh_from special alloc s e = rw e (fresh_reads special alloc)

-- the marked text of one more physical line, and what follows it
marks_more : (special : Chars) (o : OpenLine) (s : Scan) (line : List ℕ) (ms : List Mark) → ReadsLines special o.lines s
    → reading_of special.comment (joined_marks special.escape (map chars (o.lines ++ line ∷ [])) ++ ms)
    ≡ reading_left special.comment s (marks special.escape false (chars line) ++ ms)
marks_more special o s line ms h =
    rw (joined_marks-push special.escape o.lines line, append_assoc (joined_marks special.escape (map chars o.lines)) (marks special.escape false (chars line)) ms)
    (h.reads (marks special.escape false (chars line) ++ ms))

reading_more : (special : Chars) (o : OpenLine) (s : Scan) (line : List ℕ) → ReadsLines special o.lines s
    → reading_in special (o.lines ++ line ∷ []) ≡ reading_left special.comment s (marks special.escape false (chars line) ++ [])
unfolding reading_in
reading_more special o s line h =
    ap (reading_of special.comment) (sym (append-nil (joined_marks special.escape (map chars (o.lines ++ line ∷ []))))) ∙ marks_more special o s line [] h

-- a fault in this physical line

fault_answered : (next : LexerState) (o : OpenLine) (joined : Bool) (r : Reading) (fault : LexFault) → r.stop ≡ AtFault fault → answer_to next o joined r ≡ Err fault
fault_answered next o joined r fault e = rw e refl

pub text_refused : (next : LexerState) (o : OpenLine) (s : Scan) (line : List ℕ) (bytes : ℕ) (fault : LexFault) → ReadsLines next.special o.lines s → RefusesLine next.special s (chars line) fault
    → answer_in next (added o line bytes) line ≡ Err fault
text_refused next o s line bytes fault h t =
    fault_answered next (added o line bytes) _ _ fault (rw (reading_more next.special o s line h) (t.stops []))

-- lack of memory

-- a reading that has a token or is cut short
pub gathered : (next : LexerState) (o : OpenLine) (joined : Bool) (tokens : List Token) (stop : Stop) → gathers_by tokens stop ≡ true → stop_among stop ≡ true
    → needs_memory (answer_at next o joined tokens stop) ≡ true
gathered next o joined tokens (AtFault fault) e f = f
gathered next o joined [] AtComment e f = cc
gathered next o joined (t ∷ ts) AtComment e f = refl
gathered next o true tokens AtEnd e f = refl
gathered next o false [] AtEnd e f = cc
gathered next o false (t ∷ ts) AtEnd e f = refl
gathered next o true tokens InSymbol e f = refl
gathered next o false tokens InSymbol e f = refl
gathered next o true tokens InString e f = refl
gathered next o false tokens InString e f = refl

-- memory is refused in the scan of a line
pub text_starved : (next : LexerState) (o : OpenLine) (s : Scan) (line : List ℕ) (bytes : ℕ) → ReadsLines next.special o.lines s → GathersLine next.special s (chars line)
    → needs_memory (answer_in next (added o line bytes) line) ≡ true
text_starved next o s line bytes h t =
    let lines = o.lines ++ line ∷ [] in
    let r = reading_in next.special lines in
    gathered next (added o line bytes) (is_joined next.special.escape (chars line)) r.tokens r.stop (rw (reading_more next.special o s line h) (t.reads []))
    (reading_in_faults next.special lines)

-- the end of the physical line

-- where a mode ends
abbrev pub stop_in : Mode → Stop
stop_in mode.Plain = AtEnd
stop_in mode.Symbol = InSymbol
stop_in mode.Text = InString
stop_in mode.SymbolInText = InSymbol
stop_in mode.Comment = AtComment

-- the tokens that a mode leaves at the end
abbrev pub tokens_in : Mode → List ℕ → List Token
tokens_in mode.Plain partial = word_token partial
tokens_in mode.Symbol partial = []
tokens_in mode.Text partial = []
tokens_in mode.SymbolInText partial = []
tokens_in mode.Comment partial = []

left_at_end : (comment : ℕ) (m : Mode) (partial : List ℕ) (pieces : List Piece) → left_in_mode comment m partial pieces [] ≡ record { tokens = tokens_in m partial; stop = stop_in m }
unfolding reading atoms word_run quoted before_close
left_at_end comment mode.Plain [] pieces = refl
left_at_end comment mode.Plain (c ∷ cs) pieces = rw (append-nil cs) refl
left_at_end comment mode.Symbol partial pieces = refl
left_at_end comment mode.Text partial pieces = refl
left_at_end comment mode.SymbolInText partial pieces = refl
left_at_end comment mode.Comment partial pieces = refl

pub after_at_end : (comment : ℕ) (s : Scan) → reading_left comment s [] ≡ record { tokens = s.tokens ++ tokens_in s.mode s.partial; stop = stop_in s.mode }
unfolding reading_left
after_at_end comment s = rw (left_at_end comment s.mode s.partial s.pieces) refl

text_read : (special : Chars) (o : OpenLine) (s : Scan) (line : List ℕ) (scan : Scan) → ReadsLines special o.lines s → TakesLine special s (chars line) scan
    → reading_in special (o.lines ++ line ∷ []) ≡ record { tokens = scan.tokens ++ tokens_in scan.mode scan.partial; stop = stop_in scan.mode }
text_read special o s line scan h t = reading_more special o s line h ∙ (t.reads [] ∙ after_at_end special.comment scan)

-- the reading of a line that ends in a mode
abbrev ended : Mode → (partial : List ℕ) → List Token → Reading
ended m partial tokens = record { tokens = tokens ++ tokens_in m partial; stop = stop_in m }

given : (next : LexerState) (o : OpenLine) (m : Mode) (joined : Bool) (partial : List ℕ) (tokens ts : List Token)
    → (joined && is_continued m) ≡ false → ending_in m partial tokens ≡ Ok ts → answer_to next o joined (ended m partial tokens) ≡ Ok (line_of o.number ts, next)
given next o mode.Plain true partial tokens ts f e = cc
given next o mode.Plain false partial tokens ts f e = let same : tokens ++ word_token partial ≡ ts = cc in rw same refl
given next o mode.Symbol joined partial tokens ts f e = cc
given next o mode.Text joined partial tokens ts f e = cc
given next o mode.SymbolInText joined partial tokens ts f e = cc
given next o mode.Comment joined partial tokens ts f e = let same : tokens ≡ ts = cc in rw (append-nil tokens, same) refl

refused : (next : LexerState) (o : OpenLine) (m : Mode) (joined : Bool) (partial : List ℕ) (tokens : List Token) (fault : LexFault)
    → (joined && is_continued m) ≡ false → ending_in m partial tokens ≡ Err fault → answer_to next o joined (ended m partial tokens) ≡ Err fault
refused next o mode.Plain joined partial tokens fault f e = cc
refused next o mode.Symbol true partial tokens fault f e = cc
refused next o mode.Symbol false partial tokens fault f e = let same : OpenSymbol ≡ fault = cc in rw same refl
refused next o mode.Text true partial tokens fault f e = cc
refused next o mode.Text false partial tokens fault f e = let same : OpenString ≡ fault = cc in rw same refl
refused next o mode.SymbolInText true partial tokens fault f e = cc
refused next o mode.SymbolInText false partial tokens fault f e = let same : OpenSymbol ≡ fault = cc in rw same refl
refused next o mode.Comment joined partial tokens fault f e = cc

kept : (next : LexerState) (o : OpenLine) (m : Mode) (joined : Bool) (partial : List ℕ) (tokens : List Token)
    → (joined && is_continued m) ≡ true → answer_to next o joined (ended m partial tokens) ≡ continued next o
kept next o mode.Plain true partial tokens f = refl
kept next o mode.Plain false partial tokens f = cc
kept next o mode.Symbol true partial tokens f = refl
kept next o mode.Symbol false partial tokens f = cc
kept next o mode.Text true partial tokens f = refl
kept next o mode.Text false partial tokens f = cc
kept next o mode.SymbolInText true partial tokens f = refl
kept next o mode.SymbolInText false partial tokens f = cc
kept next o mode.Comment true partial tokens f = cc
kept next o mode.Comment false partial tokens f = cc

-- where a comment stands at the end, it makes no difference what the line ends with
ended_alike : (next : LexerState) (o : OpenLine) (m : Mode) (a b : Bool) (partial : List ℕ) (tokens : List Token) → (is_continued m ≡ true → a ≡ b)
    → answer_to next o b (ended m partial tokens) ≡ answer_to next o a (ended m partial tokens)
ended_alike next o mode.Plain a b partial tokens e = rw (e refl) refl
ended_alike next o mode.Symbol a b partial tokens e = rw (e refl) refl
ended_alike next o mode.Text a b partial tokens e = rw (e refl) refl
ended_alike next o mode.SymbolInText a b partial tokens e = rw (e refl) refl
ended_alike next o mode.Comment a b partial tokens e = refl

-- the answer by the scan after the line
answer_by : (next : LexerState) (o : OpenLine) (s : Scan) (line : List ℕ) (bytes : ℕ) (scan : Scan) → ReadsLines next.special o.lines s → TakesLine next.special s (chars line) scan
    → answer_in next (added o line bytes) line ≡ answer_to next (added o line bytes) scan.escaped (ended scan.mode scan.partial scan.tokens)
answer_by next o s line bytes scan h t =
    rw (text_read next.special o s line scan h t)
    (ended_alike next (added o line bytes) scan.mode scan.escaped (is_joined next.special.escape (chars line)) scan.partial scan.tokens t.ends)

-- a line that ends its logical line
pub text_ends : (next : LexerState) (o : OpenLine) (s : Scan) (line : List ℕ) (bytes : ℕ) (scan : Scan) (tokens : List Token) → ReadsLines next.special o.lines s → TakesLine next.special s (chars line) scan
    → goes_on scan ≡ false → ending scan ≡ Ok tokens → answer_in next (added o line bytes) line ≡ Ok (line_of o.number tokens, next)
text_ends next o s line bytes scan tokens h t f e =
    answer_by next o s line bytes scan h t ∙ given next (added o line bytes) scan.mode scan.escaped scan.partial scan.tokens tokens f e

worded : (next : LexerState) (o : OpenLine) (m : Mode) (joined : Bool) (partial : List ℕ) (tokens : List Token)
    → m ≡ mode.Plain → 0 < length partial → needs_memory (answer_to next o joined (ended m partial tokens)) ≡ true
worded next o mode.Plain true partial tokens e f = refl
worded next o mode.Plain false [] tokens e f = absurd (omega (arith, f))
worded next o mode.Plain false (c ∷ cs) [] e f = refl
worded next o mode.Plain false (c ∷ cs) (t ∷ ts) e f = refl
worded next o mode.Symbol joined partial tokens e f = cc
worded next o mode.Text joined partial tokens e f = cc
worded next o mode.SymbolInText joined partial tokens e f = cc
worded next o mode.Comment joined partial tokens e f = cc

-- memory is refused for the word that a line ends with
pub text_word_starved : (next : LexerState) (o : OpenLine) (s : Scan) (line : List ℕ) (bytes : ℕ) (scan : Scan) → ReadsLines next.special o.lines s → TakesLine next.special s (chars line) scan
    → IsInWord scan → needs_memory (answer_in next (added o line bytes) line) ≡ true
text_word_starved next o s line bytes scan h t w =
    rw (answer_by next o s line bytes scan h t) (worded next (added o line bytes) scan.mode scan.escaped scan.partial scan.tokens w.outside w.begun)

-- a line that ends with a symbol or a string open
pub text_ends_open : (next : LexerState) (o : OpenLine) (s : Scan) (line : List ℕ) (bytes : ℕ) (scan : Scan) (fault : LexFault) → ReadsLines next.special o.lines s → TakesLine next.special s (chars line) scan
    → goes_on scan ≡ false → ending scan ≡ Err fault → answer_in next (added o line bytes) line ≡ Err fault
text_ends_open next o s line bytes scan fault h t f e =
    answer_by next o s line bytes scan h t ∙ refused next (added o line bytes) scan.mode scan.escaped scan.partial scan.tokens fault f e

-- a line that is joined
pub text_goes_on : (next : LexerState) (o : OpenLine) (s : Scan) (line : List ℕ) (bytes : ℕ) (scan : Scan) → ReadsLines next.special o.lines s → TakesLine next.special s (chars line) scan
    → goes_on scan ≡ true → answer_in next (added o line bytes) line ≡ continued next (added o line bytes)
text_goes_on next o s line bytes scan h t f =
    answer_by next o s line bytes scan h t ∙ kept next (added o line bytes) scan.mode scan.escaped scan.partial scan.tokens f

-- memory is refused for a line that is joined
pub text_joined_starved : (next : LexerState) (o : OpenLine) (s : Scan) (line : List ℕ) (bytes : ℕ) (scan : Scan) → ReadsLines next.special o.lines s → TakesLine next.special s (chars line) scan
    → goes_on scan ≡ true → needs_memory (answer_in next (added o line bytes) line) ≡ true
text_joined_starved next o s line bytes scan h t f = rw (text_goes_on next o s line bytes scan h t f) refl

-- an open line stays sound

after_unescaped : (comment : ℕ) (s : Scan) (ms : List Mark) → reading_left comment s ms ≡ reading_left comment (record s { escaped = false }) ms
unfolding reading_left
after_unescaped comment s ms = refl

pub sound_more : (special : Chars) (o : OpenLine) (s : Scan) (new : Open) (line : List ℕ) (bytes : ℕ) (scan : Scan) → ReadsLines special o.lines s → All IsUtf8 o.lines → TakesLine special s (chars line) scan
    → IsUtf8 line → line_in new ≡ added o line bytes → new.scan ≡ record scan { escaped = false } → o.bytes + bytes ≤ most_line_bytes → IsSoundOpen special new
sound_more special o s new line bytes scan h texts t text e f short =
    let lines : lines_in new.lines.items ≡ o.lines ++ line ∷ [] = ap (λ (l : OpenLine). l.lines) e in
    let sum : new.bytes ≡ o.bytes + bytes = ap (λ (l : OpenLine). l.bytes) e in
    record {
      reads = λ ms. rw (lines, f) (marks_more special o s line ms h ∙ (t.reads ms ∙ after_unescaped special.comment scan ms));
      text = rw lines (All-append IsUtf8 o.lines (line ∷ []) texts (All-cons IsUtf8 line [] text (All-nil IsUtf8)));
      unescaped = rw f refl;
      short = omega arith;
    }

pub none_open : (o : Option Open) (P : Open → Type 0) → option_map line_in o ≡ None → ForSome o P
none_open None P e = λ x is. absurd (cc)
none_open (Some o) P e = absurd (cc)

pub some_open : (o : Open) (P : Open → Type 0) → P o → ForSome (Some o) P
some_open o P h = λ x is. subst P (same x is) h
  where
    same : (x : Open) → Some o ≡ Some x → o ≡ x
    same x is = cc

-- the answer to the next physical line of an open line, and to the first one of a logical line

-- the answer to a line that passes the first tests
abbrev passed : LexerState → OpenLine → List ℕ → Option (Result Chars LexFault) → Result (Option Line × LexerState) LexFault
passed s o line asked = fed_text (dropped s) (added o (without_return line) (length line)) (without_return line) asked

passed_next : (s : LexerState) (line : List ℕ) (o : Open) → Some (line_in o) ≡ s.line → line_fault s.count (o.bytes + length line) ≡ None → fed s line ≡ passed s (line_in o) line None
unfolding fed
passed_next s line o e f = rw (← e, f) refl

passed_first : (s : LexerState) (line : List ℕ) → None ≡ s.line → line_fault s.count (0 + length line) ≡ None
    → fed s line ≡ passed s (empty_line (s.count + 1)) line (directive s.special (without_return line))
unfolding fed
passed_first s line e f = rw (← e, f) refl

-- bytes that are no text

pub fed_next_no_text : (s : LexerState) (line : List ℕ) (o : Open) → Some (line_in o) ≡ s.line → line_fault s.count (o.bytes + length line) ≡ None → (IsUtf8 (without_return line) → ⊥)
    → fed s line ≡ Err NotUtf8
fed_next_no_text s line o e f wrong = passed_next s line o e f ∙ rw (not_text (is_utf8 (without_return line)) (without_return line) refl wrong) refl

pub fed_first_no_text : (s : LexerState) (line : List ℕ) → None ≡ s.line → line_fault s.count (0 + length line) ≡ None → (IsUtf8 (without_return line) → ⊥) → fed s line ≡ Err NotUtf8
fed_first_no_text s line e f wrong = passed_first s line e f ∙ rw (not_text (is_utf8 (without_return line)) (without_return line) refl wrong) refl

-- whether memory may be taken for a line is seen by the answer to it
pub taken_as : (s : LexerState) (line : List ℕ) → takes_memory s line ≡ needs_memory (fed s line)
unfolding takes_memory
taken_as s line = refl

-- bytes that are text

pub fed_next : (s : LexerState) (line : List ℕ) (o : Open) → Some (line_in o) ≡ s.line → line_fault s.count (o.bytes + length line) ≡ None → IsUtf8 (without_return line)
    → fed s line ≡ answer_in (dropped s) (added (line_in o) (without_return line) (length line)) (without_return line)
fed_next s line o e f text = passed_next s line o e f ∙ rw (is_utf8-from_IsUtf8 (without_return line) text) refl

pub fed_first : (s : LexerState) (line : List ℕ) → None ≡ s.line → line_fault s.count (0 + length line) ≡ None → IsUtf8 (without_return line)
    → fed s line ≡ fed_as (dropped s) (added (empty_line (s.count + 1)) (without_return line) (length line)) (without_return line) (directive s.special (without_return line))
fed_first s line e f text = passed_first s line e f ∙ rw (is_utf8-from_IsUtf8 (without_return line) text) refl
