-- A canonical text is read line by line.
use Rattle.std.proofs.Common.{◌≡◌, ◌≢◌, ℕ, suc, ◌+◌, ◌-◌, ◌<◌, ◌≤◌, ◌==◌, ◌&&◌, min, Bool, true, false, if◌then◌else◌, List, [], ◌∷◌, ◌++◌}
use Rattle.std.proofs.Common.{All, length, get_or, Some, None, Ok, chars, ⊎_elim, sym, ap, ◌∙◌, refl, arith, add-one, append-nil}
use Rattle.std.specs.Prelude.{encode_utf8_all, nat_lt, nat_le, take}
use Rattle.std.specs.List.{list_all}
use Rattle.std.specs.Str.{is_utf8}
use lib.Utf8.{scalar, scalars, encode}
use Rattle.std.proofs.lemmas.Bool.{and_parts, cases_lt, ne_eqb, leb-true, ltb-true, le-ltb}
use Rattle.std.proofs.lemmas.List.{get_or_default}
use Rattle.std.proofs.lemmas.List.Elements.{All-nil, All-append, All-weaker}
use Rattle.std.proofs.lemmas.Slice.Eq.{bytes_eq-Decides}
use Rattle.std.proofs.lemmas.Str.{chars-encodes, inside_one}
use Rattle.coll_devices.specs.Limits.{most_line_bytes}
use Rattle.coll_lex.specs.Limits.{most_lines}
use Rattle.coll_lex.specs.LogicalLines.{LexerState, line_fault, reading_in, fed}
use Rattle.coll_lex.specs.Marked.{marks, ends_escaped, joined_marks}
use Rattle.coll_devices.specs.PhysicalLines.{line_feed, IsInLine, without_return}
use Rattle.coll_lex.specs.Tokens.{AtEnd, reading_of}
use Rattle.coll_lex.specs.declared.tokens.Token.{Token}
use Rattle.coll_texts.proofs.PrintedSpellings.{is_clean}
use Rattle.coll_texts.proofs.PrintedLines.{IsLine}

-- The bytes of a line.

-- characters that may stand in a line are characters
clean_scalars : (cs : List ℕ) → list_all is_clean cs ≡ true → scalars cs ≡ true
unfolding is_clean
clean_scalars [] h = refl
clean_scalars (c ∷ cs) h =
    let a = and_parts _ _ h in
    let b = and_parts (nat_le 32 c) (scalar c) a.0 in
    rw (b.1, clean_scalars cs a.1) refl

-- no byte of such a character is a control character
char_bytes : (c : ℕ) → is_clean c ≡ true → All (λ b. 32 ≤ b) (encode c)
unfolding is_clean
char_bytes c h k d below =
    let parts = and_parts _ _ h in
    let high : 32 ≤ c = leb-true 32 c parts.0 in
    let same : get_or (encode c) k d ≡ get_or (encode c) k 0 = get_or_default (encode c) k d 0 below in
    ⊎_elim
    (λ low. let found : c ≡ get_or (encode c) k 0 = inside_one c [] (encode c) k (sym (append-nil (encode c))) below low in omega arith)
    (λ big. omega arith)
    (cases_lt (get_or (encode c) k 0) 128)

line_bytes : (cs : List ℕ) → list_all is_clean cs ≡ true → All (λ b. 32 ≤ b) (encode_utf8_all cs)
line_bytes [] h = All-nil (λ b. 32 ≤ b)
line_bytes (c ∷ cs) h = let a = and_parts _ _ h in All-append (λ b. 32 ≤ b) (encode c) (encode_utf8_all cs) (char_bytes c a.0) (line_bytes cs a.1)

-- so no line feed is among them
pub in_line : (cs : List ℕ) → list_all is_clean cs ≡ true → IsInLine (encode_utf8_all cs)
in_line cs h = All-weaker (λ b. 32 ≤ b) (λ b. b ≢ line_feed) (λ b high same. omega arith) (encode_utf8_all cs) (line_bytes cs h)

-- and no carriage return at their end
no_return : (bs : List ℕ) → All (λ b. 32 ≤ b) bs → without_return bs ≡ bs
unfolding without_return
no_return bs h = ap (λ b. if b then take (length bs - 1) bs else bs) (ends_otherwise (nat_lt 0 (length bs)) refl) where
  ends_otherwise : (some : Bool) → nat_lt 0 (length bs) ≡ some → (some && (get_or bs (length bs - 1) 0 == 13)) ≡ false
  ends_otherwise false e = refl
  ends_otherwise true e =
      let some : 0 < length bs = ltb-true 0 (length bs) e in
      let last : 32 ≤ get_or bs (length bs - 1) 0 = h (length bs - 1) 0 (omega arith) in
      ne_eqb (get_or bs (length bs - 1) 0) 13 (λ same. omega arith)

-- they are UTF-8
are_utf8 : (cs : List ℕ) → list_all is_clean cs ≡ true → is_utf8 (encode_utf8_all cs) ≡ true
unfolding is_utf8
are_utf8 cs h =
    let s = clean_scalars cs h in
    rw (chars-encodes cs s, s) ((bytes_eq-Decides (encode_utf8_all cs) (encode_utf8_all cs)).1 refl)

-- One line, handed to a lexer.

-- a lexer with `%` and `/` and no open line, that was handed so many lines
unfoldable pub lexer_at : ℕ → LexerState
lexer_at count = record { special = record { comment = 37; escape = 47 }; count = count; line = None }

-- a line that passes the tests before it is read
line_passes : (count bytes : ℕ) → count < most_lines → bytes ≤ most_line_bytes → line_fault count bytes ≡ None
line_passes count bytes room short = rw (le-ltb most_line_bytes bytes short, ne_eqb count most_lines (λ same. omega arith)) refl

-- the reading of one physical line alone
reading_alone : (line : List ℕ) (t : Token) (ts : List Token) → IsLine line t ts → reading_in (record { comment = 37; escape = 47 }) (encode_utf8_all line ∷ [])
    ≡ record { tokens = t ∷ ts; stop = AtEnd }
unfolding reading_in joined_marks
reading_alone line t ts h =
    ap (λ cs. reading_of 37 (marks 47 false cs ++ [])) (chars-encodes line (clean_scalars line h.clean))
    ∙ ap (reading_of 37) (append-nil (marks 47 false line))
    ∙ h.reads

-- what a lexer answers to a canonical line
pub line_is_fed : (count : ℕ) (line : List ℕ) (t : Token) (ts : List Token) → IsLine line t ts → count < most_lines
    → fed (lexer_at count) (encode_utf8_all line) ≡ Ok (Some (record { number = suc count; tokens = t ∷ ts }), lexer_at (suc count))
unfolding fed lexer_at
line_is_fed count line t ts h room =
    let bytes = encode_utf8_all line in
    let plain : without_return bytes ≡ bytes = no_return bytes (line_bytes line h.clean) in
    let next : min (count + 1) most_lines ≡ suc count = omega arith in
    let joined : ends_escaped 47 false (chars bytes) ≡ false = ap (ends_escaped 47 false) (chars-encodes line (clean_scalars line h.clean)) ∙ h.whole in
    let passes : line_fault count (0 + length bytes) ≡ None = let short = h.short in line_passes count (0 + length bytes) room (omega arith) in
    rw (passes, plain, h.chooses (record { comment = 37; escape = 47 }), are_utf8 line h.clean, reading_alone line t ts h, joined, next, add-one count) refl
