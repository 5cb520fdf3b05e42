-- A text of words that is read line by line: what is known of it after some lines, and what each end of the reading says of it.
use Rattle.std.proofs.Common.{◌≡◌, ℕ, suc, ◌+◌, ◌<◌, ◌≤◌, ◌==◌, nat_lt, Bool, true, false, if◌then◌else◌, List, [], ◌∷◌, ◌++◌, length, chars, Option, Some, None, Result, Ok, Err, ◌⊎◌}
use Rattle.std.proofs.Common.{inr, refl, sym, ap, subst, ◌∙◌, arith, append_assoc, append-nil, length-append}
use Rattle.std.proofs.lemmas.Bool.{lt-ltb, le-ltb, ne_eqb}
use Rattle.std.proofs.lemmas.List.{length-map, map-append}
use Rattle.std.proofs.lemmas.List.Elements.{All-append, All-cons, All-nil}
use Rattle.std.specs.Prelude.{OnOk}
use Rattle.std.specs.Str.{IsUtf8, is_utf8}
use Rattle.std.proofs.lemmas.Str.{is_utf8-from_IsUtf8, IsUtf8-from_is_utf8}
use Rattle.coll_elements.proofs.Tests.{by_test}
use Rattle.coll_key.specs.KeyLimits.{is_too_long}
use Rattle.coll_key.specs.declared.key_faults.KeyFault.TheVariants as key
use Rattle.coll_devices.specs.Limits.{most_line_bytes}
use Rattle.coll_devices.specs.LineReading.{ReaderState, no_line, Advances, GivesLine, GivesEnd, EndsAgain, StopsNow, StopsAgain}
use Rattle.coll_devices.specs.PhysicalLines.{lines_of, without_return}
use Rattle.coll_devices.specs.declared.stops.ReadStop.{ReadStop}
use Rattle.coll_devices.specs.declared.stops.ReadStop.TheVariants as stop
use Rattle.coll_lex.specs.Limits.{most_lines}
use Rattle.coll_lex.specs.declared.faults.LexFault.TheVariants as lex
use Rattle.coll_table.proofs.TextSteps.{ReadSoFar, gives_first, stops_long, none_given, cut_behind, said_ahead, said_before, read_on, said_at_end}
use Rattle.coll_bench.specs.BatchOutcome.{fault_in, unless_faulty}
use Rattle.coll_bench.specs.BatchReading.{FailsAs, stopped_in}
use Rattle.coll_bench.specs.BatchRuns.{Ending, ReadFailed, WriteFailed, Starved, Refused, ending_of}
use Rattle.coll_faults.specs.declared.faults.Fault.TheVariants as fault
use Rattle.coll_faults.specs.declared.faults.RunFault.{RunFault}
use Rattle.coll_word_lists.specs.KeyedWords.{KeyedWord, AreKeyedBy, texts_of}
use Rattle.coll_word_lists.specs.Words.{unless_at_fault, unless_long, word_at, line_word, behind, words_from, words_of}
use Rattle.coll_word_lists.specs.WordReading.{AreWords, PutsWord, StarvesWithin, TakesLine, WordsFail}

-- what a text's words are
abbrev Words : Type 0
Words = Result (List (List ℕ)) RunFault

-- the words of all lines, whether the text ends with them or not
abbrev said : Bool → List (List ℕ) → Words
said ends lines = words_from 0 lines

-- what is said by further lines, where these words came before
abbrev said_behind : (words : List (List ℕ)) → Bool → List (List ℕ) → Words
said_behind words ends lines = behind words (words_from (length words) lines)

-- words behind none
behind_none : (later : Words) → behind [] later ≡ later
behind_none (Ok words) = refl
behind_none (Err f) = refl

-- a word more
behind_more : (words : List (List ℕ)) (word : List ℕ) (later : Words) → behind words (behind (word ∷ []) later) ≡ behind (words ++ word ∷ []) later
behind_more words word (Ok later) = ap Ok (sym (append_assoc words (word ∷ []) later))
behind_more words word (Err f) = refl

-- no line, and one line more
words_none : (before : ℕ) → words_from before [] ≡ Ok []
unfolding words_from
words_none before = refl

words_more : (before : ℕ) (line : List ℕ) (lines : List (List ℕ)) (taken : Result (List ℕ) RunFault) → line_word before line ≡ taken
    → words_from before (line ∷ lines) ≡ unless_faulty taken (λ word. behind (word ∷ []) (words_from (suc before) lines))
unfolding words_from
words_more before line lines taken e = ap (λ (r : Result (List ℕ) RunFault). unless_faulty r (λ word. behind (word ∷ []) (words_from (suc before) lines))) e

-- the word of a line that is short enough, and one of the most lines
pub word_of_line : (before : ℕ) (line : List ℕ) → length line ≤ most_line_bytes → before < most_lines → line_word before line ≡ word_at (suc before) (without_return line)
unfolding line_word
word_of_line before line short few = no_fault (nat_lt most_line_bytes (length line)) (before == most_lines) (not_long line short) (not_last before few)
  where
    not_long : (line : List ℕ) → length line ≤ most_line_bytes → nat_lt most_line_bytes (length line) ≡ false
    not_long line short = le-ltb most_line_bytes (length line) short

    not_last : (before : ℕ) → before < most_lines → (before == most_lines) ≡ false
    not_last before few = ne_eqb before most_lines (λ same. omega arith)

    no_fault : (long last : Bool) → long ≡ false → last ≡ false
        → unless_at_fault (suc before) (if long then Some lex.LineTooLong else (if last then Some lex.TooManyLines else None)) (word_at (suc before) (without_return line))
        ≡ word_at (suc before) (without_return line)
    no_fault false false long last = refl
    no_fault false true long last = absurd cc
    no_fault true last long other = absurd cc

-- a line that is too long
line_long : (before : ℕ) (line : List ℕ) → most_line_bytes < length line → line_word before line ≡ Err (fault_in 0 (suc before) (fault.Lex lex.LineTooLong))
unfolding line_word
line_long before line long =
    ap (λ (b : Bool). unless_at_fault (suc before) (if b then Some lex.LineTooLong else (if before == most_lines then Some lex.TooManyLines else None)) (word_at (suc before) (without_return line)))
    (lt-ltb most_line_bytes (length line) long)

-- the line behind the most lines
over_last : (line : List ℕ) → length line ≤ most_line_bytes → line_word most_lines line ≡ Err (fault_in 0 (suc most_lines) (fault.Lex lex.TooManyLines))
unfolding line_word
over_last line short =
    ap (λ (b : Bool). unless_at_fault (suc most_lines) (if b then Some lex.LineTooLong else (if most_lines == most_lines then Some lex.TooManyLines else None))
    (word_at (suc most_lines) (without_return line)))
    (le-ltb most_line_bytes (length line) short)

module _ (before number : ℕ) (line text : List ℕ) (is : number ≡ before + 1) (short : length line ≤ most_line_bytes) where
  -- a line too many
  pub line_over : before ≤ most_lines → most_lines < number → line_word before line ≡ Err (fault_in 0 number (fault.Lex lex.TooManyLines))
  line_over few over =
      let last : before ≡ most_lines = omega (arith, is, few, over) in
      ap (λ (n : ℕ). line_word n line) last ∙ over_last line short ∙ ap (λ (n : ℕ). Err (fault_in 0 n (fault.Lex lex.TooManyLines))) (omega (arith, is, last))

  -- a line that is one of the most lines
  module _ (few : number ≤ most_lines) where
    word_here : line_word before line ≡ word_at number (without_return line)
    word_here =
        word_of_line before line short (omega (arith, is, few))
        ∙ ap (λ (n : ℕ). word_at n (without_return line)) (omega (arith, is))

    -- it is a text
    pub line_text : text ≡ without_return line → IsUtf8 (without_return line) → line_word before line ≡ unless_long number (chars text)
    line_text same utf8 =
        word_here
        ∙ ap (λ (b : Bool). if b then unless_long number (chars (without_return line)) else Err (fault_in 0 number (fault.Lex lex.NotUtf8))) (is_utf8-from_IsUtf8 (without_return line) utf8)
        ∙ ap (λ (bytes : List ℕ). unless_long number (chars bytes)) (sym same)

    -- and one that has a key
    pub line_of_word : text ≡ without_return line → IsUtf8 (without_return line) → is_too_long (chars text) ≡ false → line_word before line ≡ Ok (chars text)
    line_of_word same utf8 keyed =
        line_text same utf8 ∙ ap (λ (b : Bool). if b then Err (fault_in 0 number (fault.Key key.TextTooLong)) else Ok (chars text)) keyed

    -- it isn't
    pub line_not_utf8 : (IsUtf8 (without_return line) → ⊥) → line_word before line ≡ Err (fault_in 0 number (fault.Lex lex.NotUtf8))
    line_not_utf8 none =
        word_here
        ∙ ap (λ (b : Bool). if b then unless_long number (chars (without_return line)) else Err (fault_in 0 number (fault.Lex lex.NotUtf8)))
        (by_test (λ (b : Bool). b ≡ false) (is_utf8 (without_return line)) (λ on. absurd (none (IsUtf8-from_is_utf8 (without_return line) on))) (λ off. refl))

-- a line that is taken, where its word is put behind others
pub takes : (keys : List ℕ → List ℕ) (old new : List KeyedWord) (line text : List ℕ) (r : Result (Unit {0}) RunFault) → OnOk r (PutsWord keys old text new) → OnOk r (is_too_long text ≡ false)
    → (is_too_long text ≡ false → line_word (length old) line ≡ Ok text) → OnOk r (TakesLine keys old line new)
takes keys old new line text (Ok done) puts keyed is = (text, is keyed, puts)
takes keys old new line text (Err ended) puts keyed is = tt

-- whatever text the device had, the lines read so far are these words
pub record OnWay (start : Option (List ℕ)) (reader : ReaderState) (left : Option (List ℕ)) (words : List (List ℕ)) : Type 0 where
  pub read : (text : List ℕ) → start ≡ Some text → ReadSoFar said (said_behind words) false (length words) text reader left

-- before the first line
pub sets_out : (start : Option (List ℕ)) → OnWay start no_line start []
sets_out start = record {
  read = λ text e. record { lines = none_given text start e; count = λ n. refl; decides = λ ends more. sym (behind_none (words_from 0 more)) };
}

module _ (start : Option (List ℕ)) (reader : ReaderState) (left : Option (List ℕ)) (words : List (List ℕ)) (way : OnWay start reader left words) where
  -- what the text's words are, by the lines unread
  from_here : (text : List ℕ) (e : start ≡ Some text) (lines : List (List ℕ)) → lines_of (way.read text e).lines.rest ≡ lines → words_of text ≡ behind words (words_from (length words) lines)
  from_here text e lines ahead = said_ahead said (said_behind words) false (length words) text reader left (way.read text e) lines ahead

  -- no line so far is at fault
  are_words : (text : List ℕ) (e : start ≡ Some text) → AreWords (way.read text e).lines.whole
  are_words text e =
      (words ++ [], said_before said (said_behind words) false (length words) text reader left (way.read text e) ∙ ap (behind words) (words_none (length words)))

  -- a line at fault decides
  decided_so : (text : List ℕ) (e : start ≡ Some text) (line : List ℕ) (later : List (List ℕ)) (ended : RunFault) → lines_of (way.read text e).lines.rest ≡ line ∷ later
      → line_word (length words) line ≡ Err ended → words_of text ≡ Err ended
  decided_so text e line later ended ahead taken = from_here text e (line ∷ later) ahead ∙ ap (behind words) (words_more (length words) line later (Err ended) taken)

  module _ (new : ReaderState) (left_after : Option (List ℕ)) (failed failed_after : ℕ) where
    -- a line more that was taken
    pub goes_on : (word : List ℕ) → GivesLine reader new left left_after failed failed_after → line_word (length words) new.line ≡ Ok word → OnWay start new left_after (words ++ word ∷ [])
    goes_on word gives taken = record {
      read = λ text e.
          read_on said (said_behind words) false (length words) text reader left (way.read text e) new left_after failed failed_after (said_behind (words ++ word ∷ [])) false
          (length (words ++ word ∷ [])) gives refl (λ n. length-append words (word ∷ [])) leads;
    }
      where
        one_more : suc (length words) ≡ length (words ++ word ∷ [])
        one_more = omega (arith, length-append words (word ∷ []))

        leads : (ends : Bool) (more : List (List ℕ)) → said_behind words ends (new.line ∷ more) ≡ said_behind (words ++ word ∷ []) ends more
        leads ends more =
            ap (behind words) (words_more (length words) new.line more (Ok word) taken) ∙ behind_more words word (words_from (suc (length words)) more)
            ∙ ap (λ (n : ℕ). behind (words ++ word ∷ []) (words_from n more)) one_more

    -- a line more to which memory was refused
    starved : (number : ℕ) → GivesLine reader new left left_after failed failed_after → number ≡ length words + 1 → (text : List ℕ) → start ≡ Some text → StarvesWithin text number
    starved number gives same text e =
        let at = way.read text e in
        let first = gives_first reader new left left_after failed failed_after at.lines.rest at.lines.unread gives in (
          at.lines.whole,
          new.line,
          lines_of first.rest,
          at.lines.lines ∙ ap (λ lines. at.lines.whole ++ lines) first.first,
          are_words text e,
          omega (arith, same, at.count refl),
        )

    -- a line more that was refused
    refused_by : (kind : Ending) (ended : RunFault) → GivesLine reader new left left_after failed failed_after → FailsAs kind (line_word (length words) new.line) ended
        → ended.line ≡ length words + 1 → (text : List ℕ) → start ≡ Some text → WordsFail kind text left_after ended
    refused_by ReadFailed ended gives h number text e = absurd h
    refused_by WriteFailed ended gives h number text e = h
    refused_by Starved ended gives h number text e = inr (starved ended.line gives number text e)
    refused_by Refused ended gives h number text e =
        let at = way.read text e in
        let first = gives_first reader new left left_after failed failed_after at.lines.rest at.lines.unread gives in
        decided_so text e new.line (lines_of first.rest) ended first.first h

    pub refused : (ended : RunFault) → GivesLine reader new left left_after failed failed_after → FailsAs (ending_of ended) (line_word (length words) new.line) ended
        → ended.line ≡ length words + 1 → (text : List ℕ) → start ≡ Some text → WordsFail (ending_of ended) text left_after ended
    refused ended = refused_by (ending_of ended) ended

    -- a line more that is longer than a line may be
    stopped_long : reader.stop ≡ None → StopsNow reader new left left_after failed failed_after stop.LineTooLong ⊎ StopsAgain reader new left left_after failed failed_after stop.LineTooLong
        → (text : List ℕ) → start ≡ Some text
        → words_of text ≡ Err (stopped_in 0 (suc (length words)) stop.LineTooLong)
    stopped_long none stops text e =
        let at = way.read text e in
        let long = stops_long reader new left left_after failed failed_after at.lines.rest at.lines.unread none stops in
        decided_so text e long.line long.later (stopped_in 0 (suc (length words)) stop.LineTooLong) long.first (line_long (length words) long.line long.long)

    -- a read that failed
    stopped_short : reader.stop ≡ None → StopsNow reader new left left_after failed failed_after stop.ReadFault ⊎ StopsAgain reader new left left_after failed failed_after stop.ReadFault
        → (text : List ℕ) → start ≡ Some text
        → WordsFail ReadFailed text left_after (stopped_in 0 (suc (length words)) stop.ReadFault)
    stopped_short none stops text e = (
      refl,
      cut_behind text reader new left left_after failed failed_after (way.read text e).lines AreWords (are_words text e) none stops,
    )

    -- a reader that stops
    pub stopped : (why : ReadStop) → reader.stop ≡ None → Advances reader new left left_after failed failed_after (Err why) → (text : List ℕ) → start ≡ Some text
        → WordsFail (ending_of (stopped_in 0 (suc (length words)) why)) text left_after (stopped_in 0 (suc (length words)) why)
    stopped stop.LineTooLong none stops = stopped_long none stops
    stopped stop.ReadFault none stops = stopped_short none stops

    -- no line more
    pub all_read : GivesEnd reader new left left_after failed failed_after ⊎ EndsAgain reader new left left_after failed failed_after → (text : List ℕ) → start ≡ Some text → words_of text ≡ Ok words
    all_read ends text e =
        said_at_end said (said_behind words) false (length words) text reader left (way.read text e) new left_after failed failed_after ends
        ∙ ap (behind words) (words_none (length words))
        ∙ ap Ok (append-nil words)

-- Words with their keys.

module _ (keys : List ℕ → List ℕ) where
  -- they are as many as without
  length_texts : (words : List KeyedWord) → length (texts_of words) ≡ length words
  length_texts words = length-map words (λ (word : KeyedWord). word.text)

  module _ (old new : List KeyedWord) (line : List ℕ) (takes : TakesLine keys old line new) where
    -- a line more has a word more
    texts_more : texts_of new ≡ texts_of old ++ takes.0 ∷ []
    texts_more =
        ap texts_of takes.2.1 ∙ map-append (λ (word : KeyedWord). word.text) old (takes.2.0 ∷ []) ∙ ap (λ (text : List ℕ). texts_of old ++ text ∷ []) takes.2.2

    -- the key is that of the text
    abbrev HasKey : KeyedWord → Type 0
    HasKey word = word.key ≡ keys word.text

    pub keyed_more : AreKeyedBy keys old → AreKeyedBy keys new
    keyed_more all =
        subst (AreKeyedBy keys) (sym takes.2.1)
        (All-append HasKey old (takes.2.0 ∷ []) all (All-cons HasKey takes.2.0 [] takes.2.3 (All-nil HasKey)))

    pub one_longer : length new ≡ length old + 1
    one_longer = omega (arith, ap length takes.2.1, length-append old (takes.2.0 ∷ []))

    pub word_on : (start : Option (List ℕ)) (reader after : ReaderState) (left left_after : Option (List ℕ)) (failed failed_after : ℕ) → OnWay start reader left (texts_of old)
        → GivesLine reader after left left_after failed failed_after → line ≡ after.line → OnWay start after left_after (texts_of new)
    word_on start reader after left left_after failed failed_after way gives same =
        subst (OnWay start after left_after) (sym texts_more)
        (goes_on start reader left (texts_of old) way after left_after failed failed_after takes.0 gives
        (ap (λ (n : ℕ). line_word n after.line) (length_texts old) ∙ ap (line_word (length old)) (sym same) ∙ takes.1))

  module _ (words : List KeyedWord) (start : Option (List ℕ)) (reader after : ReaderState) (left left_after : Option (List ℕ)) (failed failed_after : ℕ)
      (way : OnWay start reader left (texts_of words)) where
    -- a line that is refused
    pub word_refused : (line : List ℕ) (ended : RunFault) → GivesLine reader after left left_after failed failed_after → line ≡ after.line
        → FailsAs (ending_of ended) (line_word (length words) line) ended → ended.line ≡ length words + 1 → (text : List ℕ) → start ≡ Some text → WordsFail (ending_of ended) text left_after ended
    word_refused line ended gives same fails number =
        refused start reader left (texts_of words) way after left_after failed failed_after ended gives
        (subst (λ (n : ℕ). FailsAs (ending_of ended) (line_word n after.line) ended) (sym (length_texts words))
        (subst (λ (line : List ℕ). FailsAs (ending_of ended) (line_word (length words) line) ended) same fails))
        (omega (arith, number, length_texts words))

    -- a reader that stops
    pub word_stopped : (number : ℕ) (why : ReadStop) → number ≡ length words + 1 → reader.stop ≡ None → Advances reader after left left_after failed failed_after (Err why)
        → (text : List ℕ) → start ≡ Some text → WordsFail (ending_of (stopped_in 0 number why)) text left_after (stopped_in 0 number why)
    word_stopped number why is none stops text e =
        let same : suc (length (texts_of words)) ≡ number = omega (arith, is, length_texts words) in
        subst (λ (n : ℕ). WordsFail (ending_of (stopped_in 0 n why)) text left_after (stopped_in 0 n why)) same
        (stopped start reader left (texts_of words) way after left_after failed failed_after why none stops text e)

    -- no line more
    pub words_read : GivesEnd reader after left left_after failed failed_after ⊎ EndsAgain reader after left left_after failed failed_after → (text : List ℕ) → start ≡ Some text
        → words_of text ≡ Ok (texts_of words)
    words_read = all_read start reader left (texts_of words) way after left_after failed failed_after
