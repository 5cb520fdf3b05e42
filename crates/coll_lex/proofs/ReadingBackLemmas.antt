-- That spellings are read back.
use Rattle.std.proofs.Common.{◌≡◌, ℕ, zero, suc, ◌+◌, ◌*◌, ◌/◌, ◌%◌, ◌^◌, ◌<◌, ◌==◌, ◌&&◌, ◌||◌, Bool, true, false, if◌then◌else◌, nat_le, List}
use Rattle.std.proofs.Common.{[], ◌∷◌, ◌++◌, All, map, length, ◌⊎◌, Some, Ok, refl, sym, ap, ◌∙◌, subst, inl, inr, ⊎_elim, arith}
use Rattle.std.specs.Char.{digit_value}
use Rattle.std.specs.List.{list_all}
use lib.Utf8.{scalar, scalar_fits}
use Rattle.std.proofs.Math.Nat.{pow-suc, div-lt_iff_lt-mul}
use Rattle.std.proofs.lemmas.Bool.{cases_lt, ne_eqb, le-ltb, lt-ltb}
use Rattle.std.proofs.lemmas.List.Sums.{fold_push, list_all-from_AllPass}
use Rattle.std.proofs.lemmas.List.{length_push, append-nil}
use Rattle.coll_lex.specs.declared.tokens.Token.TheVariants as token
use Rattle.coll_lex.specs.declared.tokens.Piece.{Piece}
use Rattle.coll_lex.specs.declared.tokens.Piece.TheVariants as piece
use Rattle.coll_lex.specs.Marked.{Mark, Plain, Literal, marks}
use Rattle.coll_lex.specs.Tokens.{symbol_of, Bracketed, atoms, before_close, character, is_plain, reading, reading_of, with_token, after_symbol}
use Rattle.coll_lex.specs.Tokens.{token_of, quoted, with_piece, with_symbol, is_hex_digit, are_digits, hex_number, symbol_then}
use Rattle.coll_lex.specs.Spelling.{is_escaped, spelled_char, spelled_name, spelled_symbol, spelled_code, hex_digit, hex_digits, digit_count}
use Rattle.coll_lex.proofs.SpellingLemmas.{spelled_name-nil, spelled_name-cons, spelled_name-run, hex_digits-zero, hex_digits-suc, hex_digits-all}

-- how a character of a name is marked once it is spelled
abbrev mark_of : ℕ → Mark
mark_of c = if is_escaped c then Literal c else Plain c

-- a plain character that isn't the escape character
pub marks-plain : (c : ℕ) (rest : List ℕ) → (c == 47) ≡ false → marks 47 false (c ∷ rest) ≡ Plain c ∷ marks 47 false rest
unfolding marks
marks-plain c rest other = ap (λ b. if b then marks 47 true rest else Plain c ∷ marks 47 false rest) other

-- an escaped character
marks-escaped : (c : ℕ) (rest : List ℕ) → marks 47 false (47 ∷ c ∷ rest) ≡ Literal c ∷ marks 47 false rest
unfolding marks
marks-escaped c rest = refl

-- a character of a name, by whether it is `>` and whether it is `/`
marks-by : (c : ℕ) (rest : List ℕ) (close slash : Bool) → (c == 47) ≡ slash
    → marks 47 false (if close || slash then 47 ∷ c ∷ rest else c ∷ rest) ≡ (if close || slash then Literal c else Plain c) ∷ marks 47 false rest
marks-by c rest true slash is = marks-escaped c rest
marks-by c rest false true is = marks-escaped c rest
marks-by c rest false false is = marks-plain c rest is

-- a character of a name
marks-char : (c : ℕ) (rest : List ℕ) → marks 47 false (spelled_char c rest) ≡ mark_of c ∷ marks 47 false rest
marks-char c rest = marks-by c rest (c == 62) (c == 47) refl

-- the marks of a spelled name, and of what follows it
marks-name : (name rest : List ℕ) → marks 47 false (spelled_name name rest) ≡ map mark_of name ++ marks 47 false rest
marks-name [] rest = ap (marks 47 false) (spelled_name-nil rest)
marks-name (c ∷ cs) rest = ap (marks 47 false) (spelled_name-cons c cs rest) ∙ marks-char c (spelled_name cs rest) ∙ ap (λ l. mark_of c ∷ l) (marks-name cs rest)

-- no mark of a name closes it
not_close-by : (c : ℕ) (close slash : Bool) → (c == 62) ≡ close → is_plain 62 (if close || slash then Literal c else Plain c) ≡ false
not_close-by c true slash is = refl
not_close-by c false true is = refl
not_close-by c false false is = is

not_close : (c : ℕ) → is_plain 62 (mark_of c) ≡ false
not_close c = not_close-by c (c == 62) (c == 47) refl

-- each mark of a name is of its character
character-mark_of : (c : ℕ) → character (mark_of c) ≡ c
character-mark_of c = let either : (b : Bool) → character (if b then Literal c else Plain c) ≡ c = elim [ true ↦ refl | false ↦ refl ] in either (is_escaped c)

-- a spelled name ends where it is closed
before_close-name : (name : List ℕ) (ms : List Mark) → before_close (map mark_of name ++ Plain 62 ∷ ms) ≡ Some name
unfolding before_close
before_close-name [] ms = refl
before_close-name (c ∷ cs) ms = rw (not_close c, before_close-name cs ms, character-mark_of c) refl

-- the marks of a name and of what closes it, skipped
atoms-past : (name : List ℕ) (close : Mark) (ms : List Mark) → atoms (suc (length name)) (map mark_of name ++ close ∷ ms) ≡ atoms zero ms
unfolding atoms
atoms-past [] close ms = refl
atoms-past (c ∷ cs) close ms = atoms-past cs close ms

-- a plain `<` opens a symbol
atoms-open : (ms : List Mark) → atoms zero (Plain 60 ∷ ms) ≡ symbol_then (before_close ms) (λ skip. atoms skip ms)
unfolding atoms
atoms-open ms = refl

-- a spelled symbol is one symbol, and what follows it stays
pub atoms-spelled_symbol : (name rest : List ℕ) → atoms zero (marks 47 false (spelled_symbol name rest)) ≡ Bracketed name ∷ atoms zero (marks 47 false rest)
unfolding spelled_symbol
atoms-spelled_symbol name rest =
    let after = marks 47 false rest in
    let inside = map mark_of name ++ Plain 62 ∷ after in
    let close : marks 47 false (62 ∷ rest) ≡ Plain 62 ∷ after = marks-plain 62 rest refl in
    let marked : marks 47 false (60 ∷ spelled_name name (62 ∷ rest)) ≡ Plain 60 ∷ inside =
    marks-plain 60 (spelled_name name (62 ∷ rest)) refl ∙ ap (λ l. Plain 60 ∷ l) (marks-name name (62 ∷ rest) ∙ ap (λ l. map mark_of name ++ l) close) in
    ap (atoms zero) marked
    ∙ atoms-open inside
    ∙ ap (λ o. symbol_then o (λ skip. atoms skip inside)) (before_close-name name after)
    ∙ ap (λ xs. Bracketed name ∷ xs) (atoms-past name (Plain 62) after)

-- outside strings, a symbol is read for what it stands for
pub reading-spelled_symbol : (comment : ℕ) (name rest : List ℕ) (p : Piece) → symbol_of name ≡ Ok p
    → reading_of comment (marks 47 false (spelled_symbol name rest)) ≡ with_token (token_of p) (reading_of comment (marks 47 false rest))
unfolding reading
reading-spelled_symbol comment name rest p is =
    ap (reading comment zero) (atoms-spelled_symbol name rest) ∙ ap (λ r. after_symbol r (reading comment zero (atoms zero (marks 47 false rest)))) is

-- and in a string too
pub quoted-spelled_symbol : (name rest : List ℕ) (p : Piece) → symbol_of name ≡ Ok p
    → quoted (atoms zero (marks 47 false (spelled_symbol name rest))) ≡ with_piece p (quoted (atoms zero (marks 47 false rest)))
unfolding quoted
quoted-spelled_symbol name rest p is = ap quoted (atoms-spelled_symbol name rest) ∙ ap (λ r. with_symbol r (quoted (atoms zero (marks 47 false rest)))) is

-- the value of a digit
digit_value-hex_digit : (d : ℕ) → d < 16 → digit_value (hex_digit d) ≡ d
digit_value-hex_digit d small =
    ⊎_elim
    (λ low. rw (lt-ltb d 10 low, le-ltb (48 + d) 48 (omega arith), lt-ltb (48 + d) 58 (omega arith)) (omega arith))
    (λ high. rw (le-ltb d 10 high, le-ltb (55 + d) 48 (omega arith), le-ltb (55 + d) 58 (omega arith), le-ltb (55 + d) 65 (omega arith), lt-ltb (55 + d) 91 (omega arith)) (omega arith))
    (cases_lt d 10)

-- a digit is a hexadecimal digit
is_hex_digit-hex_digit : (d : ℕ) → d < 16 → is_hex_digit (hex_digit d) ≡ true
is_hex_digit-hex_digit d small = rw (digit_value-hex_digit d small) (lt-ltb d 16 small)

-- and no character that a name escapes
is_escaped-hex_digit : (d : ℕ) → d < 16 → is_escaped (hex_digit d) ≡ false
is_escaped-hex_digit d small =
    ⊎_elim
    (λ low. rw (lt-ltb d 10 low, ne_eqb (48 + d) 62 (λ same. omega arith), ne_eqb (48 + d) 47 (λ same. omega arith)) refl)
    (λ high. rw (le-ltb d 10 high, ne_eqb (55 + d) 62 (λ same. omega arith), ne_eqb (55 + d) 47 (λ same. omega arith)) refl)
    (cases_lt d 10)

-- how many digits there are
pub length-hex_digits : (count n : ℕ) → length (hex_digits count n) ≡ count
length-hex_digits zero n = ap length (hex_digits-zero n)
length-hex_digits (suc count) n = ap length (hex_digits-suc count n) ∙ length_push (hex_digits count (n / 16)) (hex_digit (n % 16)) ∙ (omega (arith, length-hex_digits count (n / 16)))

-- the number that the digits spell, if there are enough of them
hex_number-hex_digits : (count n : ℕ) → n < 16 ^ count → hex_number (hex_digits count n) ≡ n
hex_number-hex_digits zero n small = ap hex_number (hex_digits-zero n) ∙ (omega arith)
hex_number-hex_digits (suc count) n small =
    let prefix : n / 16 < 16 ^ count = (div-lt_iff_lt-mul {k = 16} {x = n} {y = 16 ^ count} (omega arith)).1 (subst (λ m. n < m) (pow-suc 16 count) small) in
    let value : digit_value (hex_digit (n % 16)) ≡ n % 16 = digit_value-hex_digit (n % 16) (omega arith) in
    ap hex_number (hex_digits-suc count n)
    ∙ fold_push (λ m d. 16 * m + digit_value d) 0 (hex_digits count (n / 16)) (hex_digit (n % 16))
    ∙ (rw (hex_number-hex_digits count (n / 16) prefix, value) (omega arith))

-- four or eight digits of a code point spell it
are_digits-count : (count c : ℕ) → (count ≡ 4) ⊎ (count ≡ 8) → are_digits (hex_digits count c) ≡ true
are_digits-count count c either =
    let all : list_all is_hex_digit (hex_digits count c) ≡ true =
    list_all-from_AllPass is_hex_digit (hex_digits count c) (hex_digits-all (λ b. is_hex_digit b ≡ true) is_hex_digit-hex_digit count c) in
    let test : ℕ → Bool → Bool = λ n b. nat_le 4 n && nat_le n 8 && b in
    let long : test count true ≡ true = ⊎_elim (λ four. ap (λ n. test n true) four) (λ eight. ap (λ n. test n true) eight) either in
    ap (test (length (hex_digits count c))) all ∙ ap (λ n. test n true) (length-hex_digits count c) ∙ long

-- what stands between the brackets of a spelled character is its code point
symbol_of-digits : (count c : ℕ) → (count ≡ 4) ⊎ (count ≡ 8) → c < 16 ^ count → scalar c ≡ true → symbol_of (85 ∷ hex_digits count c) ≡ Ok (piece.Char c)
unfolding symbol_of
symbol_of-digits count c either small is = rw (are_digits-count count c either, hex_number-hex_digits count c small, is) refl

-- the same, with as many digits as are written
pub symbol_of-spelled_code : (c : ℕ) → scalar c ≡ true → symbol_of (85 ∷ hex_digits (digit_count c) c) ≡ Ok (piece.Char c)
symbol_of-spelled_code c is =
    ⊎_elim
    (λ low. rw (lt-ltb c 65536 low) (symbol_of-digits 4 c (inl refl) low is))
    (λ high. rw (le-ltb c 65536 high) (symbol_of-digits 8 c (inr refl) (scalar_fits c is) is))
    (cases_lt c 65536)

-- a spelled character is a spelled symbol
pub spelled_code-symbol : (c : ℕ) (rest : List ℕ) → spelled_code c rest ≡ spelled_symbol (85 ∷ hex_digits (digit_count c) c) rest
unfolding spelled_code spelled_symbol
spelled_code-symbol c rest =
    let digits = hex_digits (digit_count c) c in
    let bare : All (λ b. is_escaped b ≡ false) digits = hex_digits-all (λ b. is_escaped b ≡ false) is_escaped-hex_digit (digit_count c) c in
    let name : spelled_name (digits ++ []) (62 ∷ rest) ≡ digits ++ spelled_name [] (62 ∷ rest) = spelled_name-run digits [] (62 ∷ rest) bare in
    ap (λ l. 60 ∷ l)
    (sym (spelled_name-cons 85 digits (62 ∷ rest) ∙ ap (λ l. 85 ∷ l) (ap (λ l. spelled_name l (62 ∷ rest)) (sym (append-nil digits)) ∙ name ∙ ap (λ l. digits ++ l) (spelled_name-nil (62 ∷ rest)))))

-- outside strings, a spelled character is read as that character
pub reading-spelled_code : (comment c : ℕ) (rest : List ℕ) → scalar c ≡ true
    → reading_of comment (marks 47 false (spelled_code c rest)) ≡ with_token (token.Char c) (reading_of comment (marks 47 false rest))
reading-spelled_code comment c rest is =
    ap (λ l. reading_of comment (marks 47 false l)) (spelled_code-symbol c rest)
    ∙ reading-spelled_symbol comment (85 ∷ hex_digits (digit_count c) c) rest (piece.Char c) (symbol_of-spelled_code c is)

-- and in a string too
pub quoted-spelled_code : (c : ℕ) (rest : List ℕ) → scalar c ≡ true
    → quoted (atoms zero (marks 47 false (spelled_code c rest))) ≡ with_piece (piece.Char c) (quoted (atoms zero (marks 47 false rest)))
quoted-spelled_code c rest is =
    ap (λ l. quoted (atoms zero (marks 47 false l))) (spelled_code-symbol c rest) ∙ quoted-spelled_symbol (85 ∷ hex_digits (digit_count c) c) rest (piece.Char c) (symbol_of-spelled_code c is)
