-- Texts of a line that are read token by token where they stand.
use Rattle.std.proofs.Common.{◌≡◌, ◌≢◌, ℕ, zero, suc, ◌+◌, ◌<◌, ◌≤◌, ◌==◌, ◌||◌, not, nat_lt, inl, Bool, true, false, List, [], ◌∷◌, ◌++◌, length, take, drop, get_or}
use Rattle.std.proofs.Common.{chars, IsUtf8, Option, Some, None, Result, Ok, refl, ap, sym, ◌∙◌, arith}
use Rattle.std.specs.Option.{option_map}
use Rattle.std.specs.Bool.{OnTrue}
use Rattle.std.specs.Prelude.{is_some}
use Rattle.std.specs.List.{list_all}
use Rattle.std.specs.declared.alloc.Global.{Global}
use Rattle.std.proofs.Math.Seq.{take-append_seam}
use Rattle.std.proofs.lemmas.Bool.{and_from, and_parts}
use Rattle.std.proofs.lemmas.Bool.Decides.{nat_tests}
use Rattle.std.proofs.lemmas.List.{append-nil, drop_more, length-append, take_all, take-append-drop}
use Rattle.std.specs.Str.{IsCharBoundary}
use Rattle.std.proofs.lemmas.Str.{chars-nil, IsCharBoundary-from_take, IsUtf8-from_ascii}
use Rattle.coll_devices.specs.PhysicalLines.{without_return}
use Rattle.coll_lex.specs.Blanks.{is_blank}
use Rattle.coll_lex.specs.Directives.{directive}
use Rattle.coll_lex.specs.LogicalLines.{LexerState, dropped, answer_to, line_fault, reading_in}
use Rattle.coll_lex.specs.Lexer.{empty_line, added, line_in}
use Rattle.coll_lex.specs.Marked.{marks, ends_escaped, is_joined, joined_marks}
use Rattle.coll_lex.specs.PlainTexts.{IsNext, IsOver, IsPlainLine, IsWholeWord, plain_reading}
use Rattle.coll_lex.specs.Runs.{is_blank_byte, begins_comment, is_keyword_byte, is_word_byte, begins_with_separator, TakesRun, BeginsWithSymbol, GivesSymbol}
use Rattle.coll_lex.specs.Scanning.{fresh, reading_left}
use Rattle.coll_lex.specs.Tokens.{AtComment, atoms, reading, stopped, symbol_of, token_of, with_token}
use Rattle.coll_lex.specs.declared.faults.LexFault.{LexFault}
use Rattle.coll_lex.specs.declared.logical_lines.Open.{Open}
use Rattle.coll_lex.specs.declared.scanning.Scan.{Scan}
use Rattle.coll_lex.specs.declared.scanning.Mode.TheVariants as mode
use Rattle.coll_lex.specs.declared.tokens.Chars.{Chars}
use Rattle.coll_lex.specs.declared.tokens.Piece.{Piece}
use Rattle.coll_lex.specs.declared.tokens.Token.{Token}
use Rattle.coll_lex.specs.declared.tokens.Token.TheVariants as token
use Rattle.coll_lex.proofs.FeedLemmas.{after_at_end, fed_first}
use Rattle.coll_lex.proofs.ScanRows.{IsNoSeparator, comment_outside}
use Rattle.coll_lex.proofs.RunLemmas.{blank_passed, closed, first_stands, run_more, run_none, run_one, semicolon_taken, separator_first, some_begins, symbol_shortens, symbol_taken, word_chars, word_closed, word_run_taken}

module _ (special : Chars) (alloc : Global) where
  -- a scan that has read nothing but this token
  abbrev holding : Token → Scan
  holding t = record (fresh alloc) { tokens = t ∷ [] }

  -- what a run from the beginning leaves to read
  run_reads : (text rest : List ℕ) (t : Token) → TakesRun special (fresh alloc) text (holding t) rest → plain_reading special text ≡ with_token t (plain_reading special rest)
  unfolding reading_left
  run_reads text rest t h =
      rw (append-nil (marks special.escape false (chars text)), append-nil (marks special.escape false (chars rest))) at (h.reads [])

  run_next : (text rest : List ℕ) (t : Token) → TakesRun special (fresh alloc) text (holding t) rest → length rest < length text → IsNext special text t rest
  run_next text rest t h shorter = record { reads = run_reads text rest t h; ends = h.ends; shorter = shorter }

  -- a symbol
  piece_given : (r : Result Piece LexFault) (p : Piece) (t : Token) → r ≡ Ok p → t ≡ token_of p → GivesSymbol (fresh alloc) r (holding t)
  piece_given r p t e f = rw (e, f) refl

  pub next_symbol : (text name rest : List ℕ) (p : Piece) (t : Token) → BeginsWithSymbol special.escape text name rest → symbol_of (chars name) ≡ Ok p → t ≡ token_of p → IsNext special text t rest
  next_symbol text name rest p t h e f =
      run_next text rest t (symbol_taken special (fresh alloc) (holding t) text name rest refl refl h (piece_given (symbol_of (chars name)) p t e f))
      (symbol_shortens special.escape text name rest h)

  -- a semicolon
  pub next_semicolon : (text rest : List ℕ) → begins_with_separator special.escape text ≡ true → get_or text 0 0 ≡ 59 → rest ≡ drop 1 text → IsNext special text token.Semicolon rest
  next_semicolon text rest sep is e =
      let stands = first_stands text (some_begins special.escape text sep) in
      let first : text ≡ get_or text 0 0 ∷ rest = rw e stands in
      let shorter : length rest < length text = omega (arith, ap length first) in
      run_next text rest token.Semicolon
      (semicolon_taken special (fresh alloc) (holding token.Semicolon) text rest (get_or text 0 0) refl refl refl first (separator_first special text rest (get_or text 0 0) sep first) is refl) shorter

  -- a word
  word_ends : (word : List ℕ) (c : ℕ) (cs : List ℕ) → word ≡ c ∷ cs → list_all (is_word_byte special) word ≡ true → plain_reading special word ≡ with_token (token.Word word) (plain_reading special [])
  unfolding reading_left marks reading atoms
  word_ends word c cs e h =
      let run = word_run_taken special (fresh alloc) word [] refl refl h in
      let read = rw (append-nil word, append-nil (marks special.escape false (chars word))) at (run.reads []) in
      let left = rw (chars-nil) at read in
      left ∙ rw (after_at_end special.comment (record (fresh alloc) { partial = word }), chars-nil, e) refl

  word_joins : (word : List ℕ) → list_all (is_word_byte special) word ≡ true → is_joined special.escape (chars word) ≡ is_joined special.escape (chars [])
  word_joins word h = let run = word_run_taken special (fresh alloc) word [] refl refl h in rw (append-nil word) at run.ends

  longer : (word rest : List ℕ) → 0 < length word → length rest < length (word ++ rest)
  longer word rest some = omega (arith, length-append word rest, some)

  word_next : (word rest : List ℕ) (c : ℕ) (cs : List ℕ) → word ≡ c ∷ cs → list_all (is_word_byte special) word ≡ true → 0 < length word → (b : Bool) → begins_with_separator special.escape rest ≡ b
      → (length rest == 0 || b) ≡ true → IsNext special (word ++ rest) (token.Word word) rest
  word_next word [] c cs e h some b sep ended =
      rw (append-nil word) (record { reads = word_ends word c cs e h; ends = word_joins word h; shorter = rw (append-nil word) at (longer word [] some) })
  word_next word (r ∷ rs) c cs e h some true sep ended =
      let rest = r ∷ rs in
      let gathered = record (fresh alloc) { partial = word } in
      let run : TakesRun special (fresh alloc) (word ++ rest) (closed gathered) rest =
      run_more special (fresh alloc) gathered (closed gathered) (word ++ rest) rest rest (word_run_taken special (fresh alloc) word rest refl refl h) (word_closed special gathered rest refl refl sep) in
      let same : closed gathered ≡ holding (token.Word word) = rw e refl in
      run_next (word ++ rest) rest (token.Word word) (rw same at run) (longer word rest some)
  word_next word (r ∷ rs) c cs e h some false sep ended = absurd (grind (arith, nat_tests))

  pub next_word : (text word rest : List ℕ) → IsWholeWord special text word rest → IsNext special text (token.Word (chars word)) rest
  next_word text [] rest h = absurd (omega (arith, h.some))
  next_word text (c ∷ cs) rest h =
      rw (h.is, word_chars special (c ∷ cs) h.plain) (word_next (c ∷ cs) rest c cs refl h.plain h.some (begins_with_separator special.escape rest) refl h.ended)

  -- a blank
  pub blank_reads : (text rest : List ℕ) → begins_with_separator special.escape text ≡ true → is_blank (get_or text 0 0) ≡ true → rest ≡ drop 1 text
      → TakesRun special (fresh alloc) text (fresh alloc) rest
  blank_reads text rest sep blank e =
      let stands = first_stands text (some_begins special.escape text sep) in
      let first : text ≡ get_or text 0 0 ∷ rest = rw e stands in
      blank_passed special (fresh alloc) text rest (get_or text 0 0) refl refl refl first (separator_first special text rest (get_or text 0 0) sep first) blank

  pub blank_same : (text rest : List ℕ) → TakesRun special (fresh alloc) text (fresh alloc) rest → plain_reading special rest ≡ plain_reading special text
  unfolding reading_left
  blank_same text rest h =
      sym (rw (append-nil (marks special.escape false (chars text)), append-nil (marks special.escape false (chars rest))) at (h.reads []))

  -- what is left of a line that is over

  blank_byte : (b : ℕ) → is_blank_byte special.escape b ≡ true → (is_blank b ≡ true) × (b ≢ special.escape)
  blank_byte b h =
      let parts = and_parts (is_blank b) (not (b == special.escape)) h in
      let other : b ≢ special.escape = grind (arith, nat_tests) in
      (parts.0, other)

  blanks_passed : (blanks rest : List ℕ) → list_all (is_blank_byte special.escape) blanks ≡ true → TakesRun special (fresh alloc) (blanks ++ rest) (fresh alloc) rest
  blanks_passed [] rest h = run_none special (fresh alloc) rest
  blanks_passed (b ∷ bs) rest h =
      let parts = and_parts (is_blank_byte special.escape b) (list_all (is_blank_byte special.escape) bs) h in
      let blank = blank_byte b parts.0 in
      run_more special (fresh alloc) (fresh alloc) (fresh alloc) (b ∷ (bs ++ rest)) (bs ++ rest) rest
      (blank_passed special (fresh alloc) (b ∷ (bs ++ rest)) (bs ++ rest) b refl refl refl refl (record { is = inl blank.0; no_escape = blank.1 }) blank.0) (blanks_passed bs rest parts.1)

  nothing_over : (rest : List ℕ) → (length rest == 0) ≡ true → IsOver special rest
  unfolding marks atoms reading ends_escaped
  nothing_over [] e = record { none = rw chars-nil refl; whole = record { whole = rw chars-nil refl } }
  nothing_over (c ∷ cs) e = absurd (grind (arith, nat_tests))

  record IsCommentByte (c : ℕ) : Type 0 where
    ascii : nat_lt c 128 ≡ true
    is : c ≡ special.comment
    no_escape : c ≢ special.escape
    no_separator : IsNoSeparator c

  comment_byte : (c : ℕ) → begins_comment special c ≡ true → IsCommentByte c
  comment_byte c h = record {
    ascii = grind (arith, nat_tests);
    is = grind (arith, nat_tests);
    no_escape = grind (arith, nat_tests);
    no_separator = record { no_bracket = grind (arith, nat_tests); no_blank = grind (arith, nat_tests); no_semicolon = grind (arith, nat_tests); no_comma = grind (arith, nat_tests) };
  }

  comment_stops : (c : ℕ) (rest : List ℕ) → begins_comment special c ≡ true → plain_reading special (c ∷ rest) ≡ stopped AtComment
  unfolding reading_left
  comment_stops c rest h =
      let byte = comment_byte c h in
      let run = run_one special (fresh alloc) (record (fresh alloc) { mode = mode.Comment }) c rest byte.ascii refl byte.no_escape (comment_outside special.comment (fresh alloc) c refl byte.is byte.no_separator) in
      rw (append-nil (marks special.escape false (chars (c ∷ rest)))) at (run.reads [])

  comment_over : (c : ℕ) (rest : List ℕ) → begins_comment special c ≡ true → IsOver special (c ∷ rest)
  comment_over c rest h =
      let stops = comment_stops c rest h in
      record { none = rw stops refl; whole = record { whole = rw stops tt } }

  over_behind : (text rest : List ℕ) → TakesRun special (fresh alloc) text (fresh alloc) rest → IsOver special rest → IsOver special text
  over_behind text rest h o =
      let same = blank_same text rest h in
      record { none = rw (← same) o.none; whole = record { whole = rw (← same, h.ends) o.whole.whole } }

  pub over_all : (text : List ℕ) (n : ℕ) → list_all (is_blank_byte special.escape) (take n text) ≡ true → length text ≤ n → IsOver special text
  over_all text n h within =
      let blanks = rw (take_all n text within) at h in
      over_behind text [] (rw (append-nil text) at (blanks_passed text [] blanks)) (nothing_over [] refl)

  pub over_from : (text : List ℕ) (n : ℕ) → list_all (is_blank_byte special.escape) (take n text) ≡ true → n < length text → begins_comment special (get_or text n 0) ≡ true → IsOver special text
  over_from text n h within comment =
      let rest = get_or text n 0 ∷ drop (n + 1) text in
      let cut : take n text ++ rest ≡ text = rw (← drop_more text n 0 within) (take-append-drop n text) in
      over_behind text rest (rw cut at (blanks_passed (take n text) rest h)) (comment_over (get_or text n 0) (drop (n + 1) text) comment)

-- keywords

keyword_small : (word : List ℕ) (i : ℕ) → list_all is_keyword_byte word ≡ true → get_or word i 0 < 128
keyword_small [] i h = omega arith
keyword_small (b ∷ bs) zero h = let byte = (and_parts (is_keyword_byte b) (list_all is_keyword_byte bs) h).0 in grind (arith, nat_tests)
keyword_small (b ∷ bs) (suc i) h = keyword_small bs i (and_parts (is_keyword_byte b) (list_all is_keyword_byte bs) h).1

-- a text may be cut behind a keyword
pub keyword_cut : (text word : List ℕ) → IsUtf8 text → text ≡ word ++ drop (length word) text → list_all is_keyword_byte word ≡ true → IsCharBoundary text (length word)
keyword_cut text word u e h =
    let long = ap length e in
    let within : length word ≤ length text = omega (arith, length-append word (drop (length word) text)) in
    let same : take (length word) text ≡ word = rw e (take-append_seam word (drop (length word) text)) in
    IsCharBoundary-from_take text (length word) u within (rw same (IsUtf8-from_ascii word (λ i. keyword_small word i h)))

keyword_byte : (special : Chars) (b : ℕ) → is_keyword_byte b ≡ true → is_keyword_byte special.comment ≡ false → is_keyword_byte special.escape ≡ false → is_word_byte special b ≡ true
keyword_byte special b h c e = grind (arith, nat_tests)

-- a keyword is a word where neither of the two characters is in it
keyword_word : (special : Chars) (word : List ℕ) → list_all is_keyword_byte word ≡ true → is_keyword_byte special.comment ≡ false → is_keyword_byte special.escape ≡ false
    → list_all (is_word_byte special) word ≡ true
keyword_word special [] h c e = refl
keyword_word special (b ∷ bs) h c e =
    let parts = and_parts (is_keyword_byte b) (list_all is_keyword_byte bs) h in
    and_from (is_word_byte special b) (list_all (is_word_byte special) bs) (keyword_byte special b parts.0 c e) (keyword_word special bs parts.1 c e)

pub told : (b : Bool) (P : Type 0) → (b ≡ true → P) → OnTrue b P
told true P h = h refl
told false P h = tt

pub whole_keyword : (special : Chars) (text word rest : List ℕ) → text ≡ word ++ rest → 0 < length word → list_all is_keyword_byte word ≡ true → is_keyword_byte special.comment ≡ false
    → is_keyword_byte special.escape ≡ false → (length rest == 0 || begins_with_separator special.escape rest) ≡ true → IsWholeWord special text word rest
whole_keyword special text word rest is some h c e ended = record {
  is = is;
  some = some;
  plain = keyword_word special word h c e;
  ended = ended;
}

-- where a line begins

pub none_opened : (o : Option Open) → is_some o ≡ false → None ≡ option_map line_in o
none_opened None e = refl
none_opened (Some o) e = cc

line_read : (special : Chars) (text : List ℕ) → reading_in special (text ∷ []) ≡ plain_reading special text
unfolding reading_in joined_marks
line_read special text = rw (append-nil (marks special.escape false (chars text))) refl

line_answered : (s : LexerState) (line text : List ℕ) → answer_to (dropped s) (added (empty_line (s.count + 1)) text (length line)) (is_joined s.special.escape (chars text)) (reading_in s.special (text ∷ []))
    ≡ answer_to (dropped s) (added (empty_line (s.count + 1)) text (length line)) (is_joined s.special.escape (chars text)) (plain_reading s.special text)
line_answered s line text = rw (line_read s.special text) refl

pub plain_line : (s : LexerState) (line : List ℕ) → None ≡ s.line → line_fault s.count (0 + length line) ≡ None → IsUtf8 (without_return line) → None ≡ directive s.special (without_return line)
    → IsPlainLine s line (without_return line)
plain_line s line alone passes text plain =
    record { answered = fed_first s line alone passes text ∙ rw (← plain) (line_answered s line (without_return line)) }
