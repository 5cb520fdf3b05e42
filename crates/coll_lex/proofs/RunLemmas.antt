-- Runs of bytes that a scan takes at once: what each leaves to read.
use Rattle.std.proofs.Common.{◌≡◌, ◌≢◌, ℕ, ◌+◌, ◌-◌, ◌<◌, ◌≤◌, zero, suc, ◌==◌, ◌||◌, ◌&&◌, not, ◌⊎◌, nat_lt, Bool, true, false, List, [], ◌∷◌, ◌++◌, length, take, drop, get_or}
use Rattle.std.proofs.Common.{IsUtf8, Result, Ok, Err, refl, ap, sym, ◌∙◌, subst, append_assoc, arith, inl, inr}
use Rattle.std.specs.List.{list_all, slice_range}
use Rattle.std.specs.Str.{chars, IsCharBoundary}
use Rattle.std.proofs.lemmas.Bool.{and_parts, and_from, or_cases}
use Rattle.std.proofs.lemmas.Bool.Decides.{nat_tests}
use Rattle.std.proofs.lemmas.List.{append-nil, take-append-drop, drop_more, length-append, length-take-le}
use Rattle.std.proofs.lemmas.Str.{IsCharBoundary-after_ascii, IsCharBoundary-from_take, IsUtf8-from_ascii, chars-nil}
use Rattle.coll_lex.specs.Marked.{Plain}
use Rattle.coll_lex.specs.Blanks.{is_blank}
use Rattle.coll_lex.specs.Limits.{most_name_chars}
use Rattle.coll_lex.specs.Tokens.{is_control, is_name, symbol_of, token_of}
use Rattle.coll_lex.proofs.SymbolLemmas.{short_is_name, long_is_no_name}
use Rattle.coll_lex.specs.Scanning.{reading_left, TakesMark, Refuses, Gathers, TakesPart, RefusesPart, GathersPart, word_token}
use Rattle.coll_lex.specs.Runs.{is_graphic, is_name_byte, is_word_byte, is_separator, begins_with_separator, TakesRun, BeginsWithSymbol, GivesSymbol, GivesPiece}
use Rattle.coll_lex.specs.declared.tokens.Chars.{Chars}
use Rattle.coll_lex.specs.declared.tokens.Token.{Token}
use Rattle.coll_lex.specs.declared.tokens.Token.TheVariants as token
use Rattle.coll_lex.specs.declared.tokens.Piece.{Piece}
use Rattle.coll_lex.specs.declared.faults.LexFault.{LexFault}
use Rattle.coll_lex.specs.declared.scanning.Scan.{Scan}
use Rattle.coll_lex.specs.declared.scanning.Mode.TheVariants as mode
use Rattle.coll_lex.proofs.ScanRows.{differs, IsNoSeparator, word_grows, blank_outside, semicolon_outside, comma_outside, text_symbol_begins, text_symbol_grows, text_symbol_ends, text_symbol_refused, symbol_begins_outside, symbol_grows, symbol_ends, symbol_refused}
use Rattle.coll_lex.proofs.ScanLines.{plain_taken, plain_refused, plain_gathers}
use Rattle.coll_lex.proofs.GatherLemmas.{bracket_gathers, letter_gathers, semicolon_gathers, comma_gathers, gathers_in_text}

-- where a whole symbol stands in a text

pub after_close : (text inside : List ℕ) (first n : ℕ) → IsUtf8 text → text ≡ first ∷ inside → n < length inside → get_or inside n 0 ≡ 62 → IsCharBoundary text (n + 2)
after_close text inside first n u e within closes =
    let same : get_or text (suc n) 0 ≡ 62 = ap (λ bs. get_or bs (suc n) 0) e ∙ closes in
    let at : get_or text (suc n) 0 < 128 = omega (arith, same) in
    let long : length text ≡ suc (length inside) = ap length e in
    let there : suc n < length text = omega (arith, within, long) in
    let two : suc n + 1 ≡ n + 2 = omega arith in
    subst (IsCharBoundary text) two (IsCharBoundary-after_ascii text (suc n) u there at)

pub name_stands : (text inside : List ℕ) (first n : ℕ) → text ≡ first ∷ inside → slice_range text 1 (n + 1) ≡ take n inside
name_stands text inside first n e =
    let same : (n + 1) - 1 ≡ n = omega arith in
    rw (e, same) refl

pub rest_stands : (text inside : List ℕ) (first n : ℕ) → text ≡ first ∷ inside → drop (n + 2) text ≡ drop (n + 1) inside
rest_stands text inside first n e =
    let same : n + 2 ≡ suc (n + 1) = omega arith in
    ap (λ k. drop k text) same ∙ ap (drop (suc (n + 1))) e

some_taken : (inside name : List ℕ) (n : ℕ) → 0 < n → n < length inside → name ≡ take n inside → 0 < length name
some_taken inside name n more within name_is =
    let fits : n ≤ length inside = omega (arith, within) in
    let long = length-take-le n inside fits in
    rw (name_is, long) more

pub symbol_stands : (escape : ℕ) (text inside name rest : List ℕ) (n : ℕ) → text ≡ 60 ∷ inside → 0 < n → n < length inside → get_or inside n 0 ≡ 62 → list_all (is_name_byte escape) (take n inside) ≡ true
    → escape ≢ 60 → escape ≢ 62 → name ≡ take n inside → rest ≡ drop (n + 1) inside → BeginsWithSymbol escape text name rest
symbol_stands escape text inside name rest n e more within closes plain f g name_is rest_is = record {
  some = some_taken inside name n more within name_is;
  is = e ∙ ap (λ bs. 60 ∷ bs) (sym (take-append-drop n inside) ∙ rw (name_is, rest_is) (ap (λ bs. take n inside ++ bs) (drop_more inside n 0 within ∙ rw closes refl)));
  plain = rw name_is plain;
  no_opening = λ same. f (sym same);
  no_closing = λ same. g (sym same);
}

-- runs, and parts, one after another

pub run_part : (special : Chars) (old new : Scan) (text rest : List ℕ) → TakesRun special old text new rest → TakesPart special old text new rest
run_part special old new text rest t = record { reads = t.reads; ends = inl t.ends }

pub run_none : (special : Chars) (s : Scan) (text : List ℕ) → TakesRun special s text s text
run_none special s text = record { reads = λ ms. refl; ends = refl }

pub run_more : (special : Chars) (old mid new : Scan) (text left rest : List ℕ) → TakesRun special old text mid left → TakesRun special mid left new rest → TakesRun special old text new rest
run_more special old mid new text left rest f t = record { reads = λ ms. f.reads ms ∙ t.reads ms; ends = f.ends ∙ t.ends }

-- states that leave the same are alike
run_back : (special : Chars) (a b new : Scan) (text rest : List ℕ) → TakesRun special a text new rest → TakesRun special b text new rest → TakesRun special a text b text
run_back special a b new text rest f t = record { reads = λ ms. f.reads ms ∙ sym (t.reads ms); ends = f.ends ∙ sym t.ends }

run_refused : (special : Chars) (old mid : Scan) (text left : List ℕ) (fault : LexFault) → TakesRun special old text mid left → RefusesPart special mid left fault → RefusesPart special old text fault
run_refused special old mid text left fault f t = record { stops = λ ms. rw (f.reads ms) (t.stops ms) }

-- the first character of a text, where it is ASCII

ascii_first : (b : ℕ) (bs : List ℕ) → nat_lt b 128 ≡ true → chars (b ∷ bs) ≡ b ∷ chars bs
unfolding chars
ascii_first b [] e = rw e refl
ascii_first b (c ∷ cs) e = rw e refl

below : (b : ℕ) → nat_lt b 128 ≡ true → b < 128
below b h = grind (arith, nat_tests)

-- a plain character that the scan takes
pub run_one : (special : Chars) (s new : Scan) (b : ℕ) (rest : List ℕ) → nat_lt b 128 ≡ true → s.escaped ≡ false → b ≢ special.escape → TakesMark special.comment s (Plain b) new → TakesRun special s (b ∷ rest) new rest
run_one special s new b rest h e f t =
    let taken = plain_taken special s new b e f t in
    let first = ascii_first b rest h in
    record { reads = λ ms. rw first (taken.reads (chars rest) ms); ends = rw first (taken.ends (chars rest)) }

-- a plain character that the scan refuses
one_refused : (special : Chars) (s : Scan) (b : ℕ) (rest : List ℕ) (fault : LexFault) → nat_lt b 128 ≡ true → s.escaped ≡ false → b ≢ special.escape → Refuses special.comment s (Plain b) fault
    → RefusesPart special s (b ∷ rest) fault
one_refused special s b rest fault h e f t =
    let refused = plain_refused special s b fault e f t in
    let first = ascii_first b rest h in
    record { stops = λ ms. rw first (refused.stops (chars rest) ms) }

one_gathers : (special : Chars) (s : Scan) (b : ℕ) (rest : List ℕ) → nat_lt b 128 ≡ true → s.escaped ≡ false → b ≢ special.escape → Gathers special.comment s (Plain b) → GathersPart special s (b ∷ rest)
one_gathers special s b rest h e f t =
    let gathers = plain_gathers special s b e f t in
    let first = ascii_first b rest h in
    record { reads = λ ms. rw first (gathers.reads (chars rest) ms) }

-- symbols

record IsNameByte (escape b : ℕ) : Type 0 where
  graphic : is_graphic b ≡ true
  ascii : nat_lt b 128 ≡ true
  no_closing : (b == 62) ≡ false
  no_escape : b ≢ escape

name_byte : (escape b : ℕ) → is_name_byte escape b ≡ true → IsNameByte escape b
name_byte escape b h = record { graphic = grind (arith, nat_tests); ascii = grind (arith, nat_tests); no_closing = grind (arith, nat_tests); no_escape = grind (arith, nat_tests) }

-- the bytes of a name are its characters
pub name_chars : (escape : ℕ) (name : List ℕ) → list_all (is_name_byte escape) name ≡ true → chars name ≡ name
name_chars escape [] h = chars-nil
name_chars escape (b ∷ bs) h =
    let parts = and_parts (is_name_byte escape b) (list_all (is_name_byte escape) bs) h in
    ascii_first b bs (name_byte escape b parts.0).ascii ∙ ap (λ cs. b ∷ cs) (name_chars escape bs parts.1)

-- a symbol's name, byte by byte
name_run : (special : Chars) (s : Scan) (name rest : List ℕ) → s.mode ≡ mode.Symbol → s.escaped ≡ false → list_all (is_name_byte special.escape) name ≡ true
    → TakesRun special s (name ++ rest) (record s { partial = s.partial ++ name }) rest
name_run special s [] rest m e h = rw (append-nil s.partial) (run_none special s rest)
name_run special s (b ∷ bs) rest m e h =
    let parts = and_parts (is_name_byte special.escape b) (list_all (is_name_byte special.escape) bs) h in
    let byte = name_byte special.escape b parts.0 in
    let next = record s { partial = s.partial ++ b ∷ [] } in
    run_more special s next (record s { partial = s.partial ++ b ∷ bs }) (b ∷ (bs ++ rest)) (bs ++ rest) rest
    (run_one special s next b (bs ++ rest) byte.ascii e byte.no_escape (symbol_grows special.comment s (Plain b) m byte.no_closing))
    (rw (← append_assoc s.partial (b ∷ []) bs) (name_run special next bs rest m e parts.1))

-- the state with a symbol begun, and with its name gathered
abbrev begun : Scan → Scan
begun s = record s { mode = mode.Symbol; partial = []; tokens = s.tokens ++ word_token s.partial }

abbrev named : Scan → List ℕ → Scan
named s name = record s { mode = mode.Symbol; partial = name; tokens = s.tokens ++ word_token s.partial }

symbol_named : (special : Chars) (s : Scan) (text name rest : List ℕ) → s.mode ≡ mode.Plain → s.escaped ≡ false → BeginsWithSymbol special.escape text name rest → TakesRun special s text (named s name) (62 ∷ rest)
symbol_named special s text name rest m e h =
    rw h.is
    (run_more special s (begun s) (named s name) (60 ∷ (name ++ 62 ∷ rest)) (name ++ 62 ∷ rest) (62 ∷ rest)
    (run_one special s (begun s) 60 (name ++ 62 ∷ rest) refl e h.no_opening (symbol_begins_outside special.comment s m))
    (name_run special (begun s) name (62 ∷ rest) refl e h.plain))

symbol_given : (special : Chars) (s new : Scan) (text name rest : List ℕ) (r : Result Piece LexFault) → s.mode ≡ mode.Plain → s.escaped ≡ false → BeginsWithSymbol special.escape text name rest
    → symbol_of name ≡ r → GivesSymbol s r new → TakesRun special s text new rest
symbol_given special s new text name rest (Ok p) m e h f g =
    let ended = record s { mode = mode.Plain; partial = []; tokens = (s.tokens ++ word_token s.partial) ++ token_of p ∷ [] } in
    let same : ended ≡ new = rw (g, m) refl in
    subst (λ n. TakesRun special s text n rest) same
    (run_more special s (named s name) ended text (62 ∷ rest) rest (symbol_named special s text name rest m e h)
    (run_one special (named s name) ended 62 rest refl e h.no_closing (symbol_ends special.comment (named s name) p refl f)))
symbol_given special s new text name rest (Err fault) m e h f g = absurd g

-- a whole symbol
pub symbol_taken : (special : Chars) (s new : Scan) (text name rest : List ℕ) → s.mode ≡ mode.Plain → s.escaped ≡ false → BeginsWithSymbol special.escape text name rest
    → GivesSymbol s (symbol_of (chars name)) new → TakesRun special s text new rest
symbol_taken special s new text name rest m e h g =
    let same = name_chars special.escape name h.plain in
    (symbol_given special s new text name rest (symbol_of (chars name)) m e h (ap symbol_of (sym same)) g)

pub symbol_at_fault : (special : Chars) (s : Scan) (text name rest : List ℕ) (fault : LexFault) → s.mode ≡ mode.Plain → s.escaped ≡ false → BeginsWithSymbol special.escape text name rest
    → symbol_of (chars name) ≡ Err fault → RefusesPart special s text fault
symbol_at_fault special s text name rest fault m e h f =
    let same = name_chars special.escape name h.plain in
    run_refused special s (named s name) text (62 ∷ rest) fault (symbol_named special s text name rest m e h)
    (one_refused special (named s name) 62 rest fault refl e h.no_closing (symbol_refused special.comment (named s name) fault refl (ap symbol_of (sym same) ∙ f)))

pub symbol_starved : (special : Chars) (s : Scan) (text name rest : List ℕ) → s.mode ≡ mode.Plain → s.escaped ≡ false → BeginsWithSymbol special.escape text name rest → GathersPart special s text
symbol_starved special s text name rest m e h = rw h.is (one_gathers special s 60 (name ++ 62 ∷ rest) refl e h.no_opening (bracket_gathers special.comment s m))

-- what follows a symbol is shorter
pub symbol_shortens : (escape : ℕ) (text name rest : List ℕ) → BeginsWithSymbol escape text name rest → length rest < length text
symbol_shortens escape text name rest h =
    let long = ap length h.is in
    let parts = length-append name (62 ∷ rest) in
    omega arith

-- words

record IsWordByte (special : Chars) (b : ℕ) : Type 0 where
  ascii : nat_lt b 128 ≡ true
  no_escape : b ≢ special.escape
  no_separator : IsNoSeparator b
  no_comment : (b == special.comment) ≡ false
  no_quotation : (b == 34) ≡ false

word_byte : (special : Chars) (b : ℕ) → is_word_byte special b ≡ true → IsWordByte special b
word_byte special b h = record {
  ascii = grind (arith, nat_tests);
  no_escape = grind (arith, nat_tests);
  no_separator = record { no_bracket = grind (arith, nat_tests); no_blank = grind (arith, nat_tests); no_semicolon = grind (arith, nat_tests); no_comma = grind (arith, nat_tests) };
  no_comment = grind (arith, nat_tests);
  no_quotation = grind (arith, nat_tests);
}

-- the bytes of a word are its characters
pub word_chars : (special : Chars) (word : List ℕ) → list_all (is_word_byte special) word ≡ true → chars word ≡ word
word_chars special [] h = chars-nil
word_chars special (b ∷ bs) h =
    let parts = and_parts (is_word_byte special b) (list_all (is_word_byte special) bs) h in
    ascii_first b bs (word_byte special b parts.0).ascii ∙ ap (λ cs. b ∷ cs) (word_chars special bs parts.1)

-- a word, byte by byte
pub word_run_taken : (special : Chars) (s : Scan) (word rest : List ℕ) → s.mode ≡ mode.Plain → s.escaped ≡ false → list_all (is_word_byte special) word ≡ true
    → TakesRun special s (word ++ rest) (record s { partial = s.partial ++ word }) rest
word_run_taken special s [] rest m e h = rw (append-nil s.partial) (run_none special s rest)
word_run_taken special s (b ∷ bs) rest m e h =
    let parts = and_parts (is_word_byte special b) (list_all (is_word_byte special) bs) h in
    let byte = word_byte special b parts.0 in
    let next = record s { partial = s.partial ++ b ∷ [] } in
    run_more special s next (record s { partial = s.partial ++ b ∷ bs }) (b ∷ (bs ++ rest)) (bs ++ rest) rest
    (run_one special s next b (bs ++ rest) byte.ascii e byte.no_escape (word_grows special.comment s b m byte.no_separator byte.no_comment byte.no_quotation))
    (rw (← append_assoc s.partial (b ∷ []) bs) (word_run_taken special next bs rest m e parts.1))

-- a word is put to the one so far
pub word_taken : (special : Chars) (s new : Scan) (text : List ℕ) (n : ℕ) → s.mode ≡ mode.Plain → s.escaped ≡ false → list_all (is_word_byte special) (take n text) ≡ true
    → new ≡ record s { partial = s.partial ++ chars (take n text) } → TakesPart special s text new (drop n text)
word_taken special s new text n m e h g =
    let cut : take n text ++ drop n text ≡ text = take-append-drop n text in
    let run = rw cut at (word_run_taken special s (take n text) (drop n text) m e h) in
    rw (g, word_chars special (take n text) h) (run_part special s _ text (drop n text) run)

word_gathers : (special : Chars) (s : Scan) (b : ℕ) (bs : List ℕ) → s.mode ≡ mode.Plain → s.escaped ≡ false → is_word_byte special b ≡ true → GathersPart special s (b ∷ bs)
word_gathers special s b bs m e h =
    let byte = word_byte special b h in
    one_gathers special s b bs byte.ascii e byte.no_escape (letter_gathers special.comment s b m byte.no_separator byte.no_comment byte.no_quotation)

pub word_starved : (special : Chars) (s : Scan) (text : List ℕ) (n : ℕ) → s.mode ≡ mode.Plain → s.escaped ≡ false → list_all (is_word_byte special) (take n text) ≡ true → 0 < n → 0 < length text → GathersPart special s text
word_starved special s [] n m e h some more = absurd (omega (arith, more))
word_starved special s (b ∷ bs) zero m e h some more = absurd (omega (arith, some))
word_starved special s (b ∷ bs) (suc n) m e h some more = word_gathers special s b bs m e (and_parts (is_word_byte special b) (list_all (is_word_byte special) (take n bs)) h).0

pub word_made : (special : Chars) (text : List ℕ) (n : ℕ) → list_all (is_word_byte special) (take n text) ≡ true → 0 < n → n ≤ length text
    → word_token (chars (take n text)) ≡ token.Word (chars (take n text)) ∷ []
word_made special text n h some within =
    let long = length-take-le n text within in
    made (chars (take n text)) (rw (word_chars special (take n text) h, long) some)
  where
    made : (word : List ℕ) → 0 < length word → word_token word ≡ token.Word word ∷ []
    made [] e = absurd (omega (arith, e))
    made (c ∷ cs) e = refl

-- where a text may be cut behind its first byte

pub first_cut : (text bs : List ℕ) (b : ℕ) → IsUtf8 text → text ≡ b ∷ bs → b < 128 → IsCharBoundary text 1
first_cut text bs b u e h =
    let first : get_or text 0 0 ≡ b = ap (λ l. get_or l 0 0) e in
    let long : length text ≡ suc (length bs) = ap length e in
    let at : get_or text 0 0 < 128 = omega (arith, first) in
    let some : 0 < length text = omega (arith, long) in
    IsCharBoundary-after_ascii text 0 u some at

pub behind_first : (text bs rest : List ℕ) (b c : ℕ) → text ≡ b ∷ bs → b ≡ c → rest ≡ drop 1 text → text ≡ c ∷ rest
behind_first text bs rest b c e same is = e ∙ rw (same, is, e) refl

-- separators

pub record IsSeparator (escape b : ℕ) : Type 0 where
  pub is : (is_blank b ≡ true) ⊎ ((b ≡ 59) ⊎ (b ≡ 44))
  pub no_escape : b ≢ escape

separator_is : (b : ℕ) → (is_blank b || (b == 59) || (b == 44)) ≡ true → (is_blank b ≡ true) ⊎ ((b ≡ 59) ⊎ (b ≡ 44))
separator_is b h = elim (or_cases (is_blank b || (b == 59)) (b == 44) h) [ inl e ↦ first e | inr e ↦ inr (inr (grind (arith, nat_tests))) ]
  where
    first : (is_blank b || (b == 59)) ≡ true → (is_blank b ≡ true) ⊎ ((b ≡ 59) ⊎ (b ≡ 44))
    first e = elim (or_cases (is_blank b) (b == 59) e) [ inl f ↦ inl f | inr f ↦ inr (inl (grind (arith, nat_tests))) ]

separator_byte : (escape b : ℕ) → is_separator escape b ≡ true → IsSeparator escape b
separator_byte escape b h =
    let parts = and_parts (is_blank b || (b == 59) || (b == 44)) (not (b == escape)) h in
    let other : b ≢ escape = grind (arith, nat_tests) in
    record { is = separator_is b parts.0; no_escape = other }

-- the state with the word so far made a token
abbrev pub closed : Scan → Scan
closed s = record s { partial = []; tokens = s.tokens ++ word_token s.partial }

closed_same : (s : Scan) → s.partial ≡ [] → closed s ≡ s
closed_same s e = rw (e, append-nil s.tokens) refl

no_bracket : (b : ℕ) → is_blank b ≡ true → b ≢ 60
no_bracket b h = grind (arith, nat_tests)

blank_ascii : (b : ℕ) → is_blank b ≡ true → nat_lt b 128 ≡ true
blank_ascii b h = grind (arith, nat_tests)

pub blank_run : (special : Chars) (s : Scan) (b : ℕ) (rest : List ℕ) → s.mode ≡ mode.Plain → s.escaped ≡ false → is_blank b ≡ true → b ≢ special.escape → TakesRun special s (b ∷ rest) (closed s) rest
blank_run special s b rest m e blank h = run_one special s (closed s) b rest (blank_ascii b blank) e h (blank_outside special.comment s b m (no_bracket b blank) blank)

-- the state with a separator put behind the word so far
abbrev separated : Scan → Token → Scan
separated s t = record s { partial = []; tokens = (s.tokens ++ word_token s.partial) ++ t ∷ [] }

semicolon_run : (special : Chars) (s : Scan) (rest : List ℕ) → s.mode ≡ mode.Plain → s.escaped ≡ false → 59 ≢ special.escape → TakesRun special s (59 ∷ rest) (separated s token.Semicolon) rest
semicolon_run special s rest m e h = run_one special s _ 59 rest refl e h (semicolon_outside special.comment s m)

comma_run : (special : Chars) (s : Scan) (rest : List ℕ) → s.mode ≡ mode.Plain → s.escaped ≡ false → 44 ≢ special.escape → TakesRun special s (44 ∷ rest) (separated s token.Comma) rest
comma_run special s rest m e h = run_one special s _ 44 rest refl e h (comma_outside special.comment s m)

-- the first byte of a text that begins with a separator
pub separator_first : (special : Chars) (text bs : List ℕ) (b : ℕ) → begins_with_separator special.escape text ≡ true → text ≡ b ∷ bs → IsSeparator special.escape b
separator_first special text bs b h e = let first = rw e at h in separator_byte special.escape b first

pub some_begins : (escape : ℕ) (text : List ℕ) → begins_with_separator escape text ≡ true → 0 < length text
some_begins escape [] h = absurd (cc)
some_begins escape (b ∷ bs) h = omega arith

pub first_stands : (text : List ℕ) → 0 < length text → text ≡ get_or text 0 0 ∷ drop 1 text
first_stands [] some = absurd (omega (arith, some))
first_stands (b ∷ bs) some = refl

separator_small : (b : ℕ) → ((b ≡ 59) ⊎ (b ≡ 44)) → b < 128
separator_small b (inl e) = omega (arith, e)
separator_small b (inr e) = omega (arith, e)

small_separator : (b : ℕ) → (is_blank b ≡ true) ⊎ ((b ≡ 59) ⊎ (b ≡ 44)) → b < 128
small_separator b (inl e) = below b (blank_ascii b e)
small_separator b (inr e) = separator_small b e

-- a text may be cut behind the separator that it begins with
pub separator_cut : (special : Chars) (text : List ℕ) → IsUtf8 text → begins_with_separator special.escape text ≡ true → IsCharBoundary text 1
separator_cut special text u h =
    let e = first_stands text (some_begins special.escape text h) in
    first_cut text (drop 1 text) (get_or text 0 0) u e (small_separator (get_or text 0 0) (separator_first special text (drop 1 text) (get_or text 0 0) h e).is)

-- from a mark on, the reading has a token
pub mark_gathers : (special : Chars) (s : Scan) (text : List ℕ) → s.mode ≡ mode.Plain → s.escaped ≡ false → begins_with_separator special.escape text ≡ true → is_blank (get_or text 0 0) ≡ false
    → GathersPart special s text
mark_gathers special s text m e h other =
    let stands = first_stands text (some_begins special.escape text h) in
    let first = separator_first special text (drop 1 text) (get_or text 0 0) h stands in
    subst (λ t. GathersPart special s t) (sym stands) (by_mark (get_or text 0 0) first.is other first.no_escape)
  where
    mark : (b : ℕ) → (b ≡ 59) ⊎ (b ≡ 44) → b ≢ special.escape → GathersPart special s (b ∷ drop 1 text)
    mark b (inl is) h = let k = rw is at h in rw is (one_gathers special s 59 (drop 1 text) refl e k (semicolon_gathers special.comment s m))
    mark b (inr is) h = let k = rw is at h in rw is (one_gathers special s 44 (drop 1 text) refl e k (comma_gathers special.comment s m))

    by_mark : (b : ℕ) → (is_blank b ≡ true) ⊎ ((b ≡ 59) ⊎ (b ≡ 44)) → is_blank b ≡ false → b ≢ special.escape → GathersPart special s (b ∷ drop 1 text)
    by_mark b (inl is) f h = absurd (cc)
    by_mark b (inr is) f h = mark b is h

-- a separator where no word has begun

pub blank_passed : (special : Chars) (s : Scan) (text rest : List ℕ) (b : ℕ) → s.mode ≡ mode.Plain → s.escaped ≡ false → s.partial ≡ [] → text ≡ b ∷ rest → IsSeparator special.escape b → is_blank b ≡ true
    → TakesRun special s text s rest
blank_passed special s text rest b m e none is h blank =
    rw is (subst (λ n. TakesRun special s (b ∷ rest) n rest) (closed_same s none) (blank_run special s b rest m e blank h.no_escape))

pub semicolon_taken : (special : Chars) (s new : Scan) (text rest : List ℕ) (b : ℕ) → s.mode ≡ mode.Plain → s.escaped ≡ false → s.partial ≡ [] → text ≡ b ∷ rest → IsSeparator special.escape b → b ≡ 59
    → new ≡ record s { tokens = s.tokens ++ token.Semicolon ∷ [] } → TakesRun special s text new rest
semicolon_taken special s new text rest b m e none is h f g =
    let other = rw f at h.no_escape in
    let same : separated s token.Semicolon ≡ new = rw (g, none, append-nil s.tokens) refl in
    rw (is, f) (subst (λ n. TakesRun special s (59 ∷ rest) n rest) same (semicolon_run special s rest m e other))

comma_is : (b : ℕ) → (is_blank b ≡ true) ⊎ ((b ≡ 59) ⊎ (b ≡ 44)) → is_blank b ≡ false → b ≢ 59 → b ≡ 44
comma_is b (inl e) f g = absurd (cc)
comma_is b (inr (inl e)) f g = absurd (g e)
comma_is b (inr (inr e)) f g = e

pub comma_taken : (special : Chars) (s new : Scan) (text rest : List ℕ) (b : ℕ) → s.mode ≡ mode.Plain → s.escaped ≡ false → s.partial ≡ [] → text ≡ b ∷ rest → IsSeparator special.escape b → is_blank b ≡ false
    → b ≢ 59 → new ≡ record s { tokens = s.tokens ++ token.Comma ∷ [] } → TakesRun special s text new rest
comma_taken special s new text rest b m e none is h f k g =
    let comma = comma_is b h.is f k in
    let other = rw comma at h.no_escape in
    let same : separated s token.Comma ≡ new = rw (g, none, append-nil s.tokens) refl in
    rw (is, comma) (subst (λ n. TakesRun special s (44 ∷ rest) n rest) same (comma_run special s rest m e other))

-- where a separator follows, a word may be made a token at once

separated_closed : (s : Scan) (t : Token) → separated (closed s) t ≡ separated s t
separated_closed s t = rw (append-nil (s.tokens ++ word_token s.partial)) refl

closed_by : (special : Chars) (s : Scan) (b : ℕ) (bs : List ℕ) → s.mode ≡ mode.Plain → s.escaped ≡ false → IsSeparator special.escape b → TakesRun special s (b ∷ bs) (closed s) (b ∷ bs)
closed_by special s b bs m e h = elim h.is [ inl is ↦ blank is | inr is ↦ mark is ]
  where
    blank : is_blank b ≡ true → TakesRun special s (b ∷ bs) (closed s) (b ∷ bs)
    blank is =
        let again = subst (λ n. TakesRun special (closed s) (b ∷ bs) n bs) (closed_same (closed s) refl) (blank_run special (closed s) b bs m e is h.no_escape) in
        run_back special s (closed s) (closed s) (b ∷ bs) bs (blank_run special s b bs m e is h.no_escape) again

    semicolon : b ≡ 59 → TakesRun special s (b ∷ bs) (closed s) (b ∷ bs)
    semicolon is =
        let other = rw is at h.no_escape in
        let again = subst (λ n. TakesRun special (closed s) (59 ∷ bs) n bs) (separated_closed s token.Semicolon) (semicolon_run special (closed s) bs m e other) in
        rw is (run_back special s (closed s) (separated s token.Semicolon) (59 ∷ bs) bs (semicolon_run special s bs m e other) again)

    comma : b ≡ 44 → TakesRun special s (b ∷ bs) (closed s) (b ∷ bs)
    comma is =
        let other = rw is at h.no_escape in
        let again = subst (λ n. TakesRun special (closed s) (44 ∷ bs) n bs) (separated_closed s token.Comma) (comma_run special (closed s) bs m e other) in
        rw is (run_back special s (closed s) (separated s token.Comma) (44 ∷ bs) bs (comma_run special s bs m e other) again)

    mark : (b ≡ 59) ⊎ (b ≡ 44) → TakesRun special s (b ∷ bs) (closed s) (b ∷ bs)
    mark (inl is) = semicolon is
    mark (inr is) = comma is

pub word_closed : (special : Chars) (s : Scan) (rest : List ℕ) → s.mode ≡ mode.Plain → s.escaped ≡ false → begins_with_separator special.escape rest ≡ true → TakesRun special s rest (closed s) rest
word_closed special s [] m e h = absurd (cc)
word_closed special s (b ∷ bs) m e h = closed_by special s b bs m e (separator_byte special.escape b h)

-- a whole word, which a separator follows
pub word_put : (special : Chars) (s new : Scan) (text : List ℕ) (n : ℕ) → s.mode ≡ mode.Plain → s.escaped ≡ false → s.partial ≡ [] → list_all (is_word_byte special) (take n text) ≡ true
    → begins_with_separator special.escape (drop n text) ≡ true → new ≡ record s { tokens = s.tokens ++ word_token (chars (take n text)) } → TakesRun special s text new (drop n text)
word_put special s new text n m e none h sep f =
    let cut : take n text ++ drop n text ≡ text = take-append-drop n text in
    let run = rw cut at (word_run_taken special s (take n text) (drop n text) m e h) in
    let gathered = record s { partial = s.partial ++ take n text } in
    let same : closed gathered ≡ new = rw (f, none, word_chars special (take n text) h) refl in
    subst (λ l. TakesRun special s text l (drop n text)) same
    (run_more special s gathered (closed gathered) text (drop n text) (drop n text) run (word_closed special gathered (drop n text) m e sep))

-- symbols in strings

text_name_run : (special : Chars) (s : Scan) (name rest : List ℕ) → s.mode ≡ mode.SymbolInText → s.escaped ≡ false → list_all (is_name_byte special.escape) name ≡ true
    → TakesRun special s (name ++ rest) (record s { partial = s.partial ++ name }) rest
text_name_run special s [] rest m e h = rw (append-nil s.partial) (run_none special s rest)
text_name_run special s (b ∷ bs) rest m e h =
    let parts = and_parts (is_name_byte special.escape b) (list_all (is_name_byte special.escape) bs) h in
    let byte = name_byte special.escape b parts.0 in
    let next = record s { partial = s.partial ++ b ∷ [] } in
    run_more special s next (record s { partial = s.partial ++ b ∷ bs }) (b ∷ (bs ++ rest)) (bs ++ rest) rest
    (run_one special s next b (bs ++ rest) byte.ascii e byte.no_escape (text_symbol_grows special.comment s (Plain b) m byte.no_closing))
    (rw (← append_assoc s.partial (b ∷ []) bs) (text_name_run special next bs rest m e parts.1))

-- the state with a symbol in a string begun, and with its name gathered
abbrev text_begun : Scan → Scan
text_begun s = record s { mode = mode.SymbolInText; partial = [] }

abbrev text_named : Scan → List ℕ → Scan
text_named s name = record s { mode = mode.SymbolInText; partial = name }

text_symbol_named : (special : Chars) (s : Scan) (text name rest : List ℕ) → s.mode ≡ mode.Text → s.escaped ≡ false → BeginsWithSymbol special.escape text name rest → TakesRun special s text (text_named s name) (62 ∷ rest)
text_symbol_named special s text name rest m e h =
    rw h.is
    (run_more special s (text_begun s) (text_named s name) (60 ∷ (name ++ 62 ∷ rest)) (name ++ 62 ∷ rest) (62 ∷ rest)
    (run_one special s (text_begun s) 60 (name ++ 62 ∷ rest) refl e h.no_opening (text_symbol_begins special.comment s m))
    (text_name_run special (text_begun s) name (62 ∷ rest) refl e h.plain))

pub text_symbol_given : (special : Chars) (s new : Scan) (text name rest : List ℕ) (r : Result Piece LexFault) → s.mode ≡ mode.Text → s.escaped ≡ false → BeginsWithSymbol special.escape text name rest
    → symbol_of name ≡ r → GivesPiece s r new → TakesRun special s text new rest
text_symbol_given special s new text name rest (Ok p) m e h f g =
    let ended = record s { mode = mode.Text; partial = []; pieces = s.pieces ++ p ∷ [] } in
    subst (λ n. TakesRun special s text n rest) (sym g)
    (run_more special s (text_named s name) ended text (62 ∷ rest) rest (text_symbol_named special s text name rest m e h)
    (run_one special (text_named s name) ended 62 rest refl e h.no_closing (text_symbol_ends special.comment (text_named s name) p refl f)))
text_symbol_given special s new text name rest (Err fault) m e h f g = absurd g

-- a whole symbol in a string
pub text_symbol_taken : (special : Chars) (s new : Scan) (text name rest : List ℕ) → s.mode ≡ mode.Text → s.escaped ≡ false → BeginsWithSymbol special.escape text name rest
    → GivesPiece s (symbol_of (chars name)) new → TakesPart special s text new rest
text_symbol_taken special s new text name rest m e h g =
    let same = name_chars special.escape name h.plain in
    run_part special s new text rest (text_symbol_given special s new text name rest (symbol_of (chars name)) m e h (ap symbol_of (sym same)) g)

pub text_symbol_at_fault : (special : Chars) (s : Scan) (text name rest : List ℕ) (fault : LexFault) → s.mode ≡ mode.Text → s.escaped ≡ false → BeginsWithSymbol special.escape text name rest
    → symbol_of (chars name) ≡ Err fault → RefusesPart special s text fault
text_symbol_at_fault special s text name rest fault m e h f =
    let same = name_chars special.escape name h.plain in
    run_refused special s (text_named s name) text (62 ∷ rest) fault (text_symbol_named special s text name rest m e h)
    (one_refused special (text_named s name) 62 rest fault refl e h.no_closing (text_symbol_refused special.comment (text_named s name) fault refl (ap symbol_of (sym same) ∙ f)))

pub text_symbol_starved : (special : Chars) (s : Scan) (text name rest : List ℕ) → s.mode ≡ mode.Text → s.escaped ≡ false → BeginsWithSymbol special.escape text name rest → GathersPart special s text
text_symbol_starved special s text name rest m e h = rw h.is (one_gathers special s 60 (name ++ 62 ∷ rest) refl e h.no_opening (gathers_in_text special.comment s (Plain 60) m))

-- what a name of graphic bytes stands for

graphic_ascii : (b : ℕ) → is_graphic b ≡ true → nat_lt b 128 ≡ true
graphic_ascii b h = grind (arith, nat_tests)

graphic_unbarred : (b : ℕ) → is_graphic b ≡ true → not (is_blank b || is_control b) ≡ true
graphic_unbarred b h = grind (arith, nat_tests)

pub graphic_chars : (name : List ℕ) → list_all is_graphic name ≡ true → chars name ≡ name
graphic_chars [] h = chars-nil
graphic_chars (b ∷ bs) h =
    let parts = and_parts (is_graphic b) (list_all is_graphic bs) h in
    ascii_first b bs (graphic_ascii b parts.0) ∙ ap (λ cs. b ∷ cs) (graphic_chars bs parts.1)

pub graphic_some : (name : List ℕ) → list_all is_graphic name ≡ true → 0 < length name → (length (chars name) == 0) ≡ false
graphic_some name h some = rw (graphic_chars name h) (differs (length name) 0 (λ none. absurd (omega (arith, some, none))))

unbarred : (name : List ℕ) → list_all is_graphic name ≡ true → list_all (λ c. not (is_blank c || is_control c)) name ≡ true
unbarred [] h = refl
unbarred (b ∷ bs) h =
    let parts = and_parts (is_graphic b) (list_all is_graphic bs) h in
    and_from (not (is_blank b || is_control b)) (list_all (λ c. not (is_blank c || is_control c)) bs) (graphic_unbarred b parts.0) (unbarred bs parts.1)

pub graphic_is_name : (name : List ℕ) → list_all is_graphic name ≡ true → length name ≤ most_name_chars → is_name (chars name) ≡ true
graphic_is_name name h short = rw (graphic_chars name h) (sym (short_is_name name short) ∙ unbarred name h)

pub graphic_too_long : (name : List ℕ) → list_all is_graphic name ≡ true → most_name_chars < length name → is_name (chars name) ≡ false
graphic_too_long name h long = rw (graphic_chars name h) (sym (long_is_no_name name long))

-- the bytes of a whole symbol are graphic
pub plain_is_graphic : (escape : ℕ) (name : List ℕ) → list_all (is_name_byte escape) name ≡ true → list_all is_graphic name ≡ true
plain_is_graphic escape [] h = refl
plain_is_graphic escape (b ∷ bs) h =
    let parts = and_parts (is_name_byte escape b) (list_all (is_name_byte escape) bs) h in
    and_from (is_graphic b) (list_all is_graphic bs) (name_byte escape b parts.0).graphic (plain_is_graphic escape bs parts.1)

-- the state after a symbol

pub given_state : (s new : Scan) (r : Result Piece LexFault) → GivesSymbol s r new → (new.mode ≡ s.mode) × (new.escaped ≡ s.escaped) × (new.partial ≡ [])
given_state s new (Ok p) g = rw g (refl, refl, refl)
given_state s new (Err fault) g = absurd g

-- a word that begins and ends here, by the test of it

no_partial : (partial : List ℕ) → (length partial == 0) ≡ true → partial ≡ []
no_partial [] h = refl
no_partial (c ∷ cs) h = absurd (grind (arith, nat_tests))

pub whole_word : (partial : List ℕ) (sep b : Bool) → b ≡ (length partial == 0 && sep) → b ≡ true → (partial ≡ []) × (sep ≡ true)
whole_word partial sep b e f =
    let parts = and_parts (length partial == 0) sep (sym e ∙ f) in
    (no_partial partial parts.0, parts.1)

-- comments

-- nothing is read behind the beginning of a comment
pub comment_taken : (special : Chars) (s : Scan) (text : List ℕ) → s.mode ≡ mode.Comment → TakesPart special s text s []
unfolding reading_left
comment_taken special s text m = record { reads = λ ms. rw m refl; ends = inr (m, refl) }

pub word_small : (special : Chars) (word : List ℕ) (i : ℕ) → list_all (is_word_byte special) word ≡ true → get_or word i 0 < 128
word_small special [] i h = omega arith
word_small special (b ∷ bs) zero h = below b (word_byte special b (and_parts (is_word_byte special b) (list_all (is_word_byte special) bs) h).0).ascii
word_small special (b ∷ bs) (suc i) h = word_small special bs i (and_parts (is_word_byte special b) (list_all (is_word_byte special) bs) h).1

-- a text may be cut behind a word
pub word_cut : (special : Chars) (text : List ℕ) (n : ℕ) → IsUtf8 text → n ≤ length text → list_all (is_word_byte special) (take n text) ≡ true → IsCharBoundary text n
word_cut special text n u within h = IsCharBoundary-from_take text n u within (IsUtf8-from_ascii (take n text) (λ i. word_small special (take n text) i h))
