-- What a symbol stands for, by its bytes and by its characters.
use Rattle.std.proofs.Common.{◌≡◌, ◌≢◌, ℕ, ◌<◌, ◌≤◌, min, zero, suc, ◌==◌, ◌&&◌, ◌||◌, not, nat_le, Bool, true, false, if◌then◌else◌, List, [], ◌∷◌, length, get_or}
use Rattle.std.proofs.Common.{chars, IsUtf8, IsAscii, encode_utf8_all, Option, Some, None, option_map, Ok, Err, refl, ap, sym, ◌∙◌, arith, inl, inr}
use Rattle.std.specs.List.{list_all}
use lib.Utf8.{scalar}
use Rattle.std.proofs.lemmas.Bool.{and_parts}
use Rattle.std.proofs.lemmas.Bool.Decides.{nat_tests, leb_tells}
use Rattle.std.proofs.lemmas.Str.{encodes-chars, encodes_same, encodes-IsAscii}
use Rattle.coll_lex.specs.Blanks.{is_blank}
use Rattle.coll_lex.specs.Limits.{most_name_chars}
use Rattle.coll_lex.specs.Tokens.{is_control, is_hex_digit, hex_number, are_digits, is_name, code_point_of, character_of, name_of, symbol_by, symbol_of}
use Rattle.coll_lex.specs.declared.faults.LexFault.TheVariants.{EmptySymbol, BadName, BadCodePoint}
use Rattle.coll_lex.specs.declared.tokens.Piece.TheVariants as piece
use Rattle.coll_lex.specs.declared.names.TheConstants.{PAST_CODE_POINTS}

-- a hexadecimal digit is an ASCII character
hex_digit_small : (c : ℕ) → is_hex_digit c ≡ true → c < 128
hex_digit_small c e = grind (arith, nat_tests)

digits_small : (ds : List ℕ) (i : ℕ) → list_all is_hex_digit ds ≡ true → get_or ds i 0 < 128
digits_small [] i e = omega arith
digits_small (d ∷ ds) zero e = hex_digit_small d (and_parts (is_hex_digit d) (list_all is_hex_digit ds) e).0
digits_small (d ∷ ds) (suc i) e = digits_small ds i (and_parts (is_hex_digit d) (list_all is_hex_digit ds) e).1

-- whether `U` and digits are spelled
spells_code : List ℕ → Bool
spells_code [] = false
spells_code (c ∷ cs) = (c == 85) && are_digits cs

first_small : (c : ℕ) → (c == 85) ≡ true → c < 128
first_small c e = grind (arith, nat_tests)

cons_small : (c : ℕ) (cs : List ℕ) → c < 128 → ((i : ℕ) → get_or cs i 0 < 128) → (i : ℕ) → get_or (c ∷ cs) i 0 < 128
cons_small c cs h k zero = h
cons_small c cs h k (suc i) = k i

code_small : (cs : List ℕ) → spells_code cs ≡ true → IsAscii cs
unfolding spells_code
code_small [] e = λ i. omega arith
code_small (c ∷ cs) e =
    let parts = and_parts (c == 85) (are_digits cs) e in
    cons_small c cs (first_small c parts.0) (λ i. digits_small cs i (and_parts (nat_le 4 (length cs) && nat_le (length cs) 8) (list_all is_hex_digit cs) parts.1).1)

code_none : (cs : List ℕ) → spells_code cs ≡ false → code_point_of cs ≡ None
unfolding spells_code
code_none [] e = refl
code_none (c ∷ cs) e = rw e refl

same_code : (cs bs : List ℕ) → encode_utf8_all cs ≡ bs → (t u : Bool) → spells_code cs ≡ t → spells_code bs ≡ u → code_point_of cs ≡ code_point_of bs
same_code cs bs e true u p q = ap code_point_of (sym (encodes-IsAscii cs (code_small cs p)) ∙ e)
same_code cs bs e false true p q = ap code_point_of (encodes_same cs bs (e ∙ sym (encodes-IsAscii bs (code_small bs q))))
same_code cs bs e false false p q = code_none cs p ∙ sym (code_none bs q)

-- a text spells the same code point by its bytes and by its characters
pub code_of_bytes : (bs : List ℕ) → IsUtf8 bs → code_point_of (chars bs) ≡ code_point_of bs
code_of_bytes bs u = same_code (chars bs) bs (encodes-chars bs u) (spells_code (chars bs)) (spells_code bs) refl refl

-- the code point that a text spells, as far as code points go
abbrev code_read : List ℕ → Option ℕ
code_read text = option_map (λ n. min n PAST_CODE_POINTS) (code_point_of text)

pub no_code_in_nothing : (bs : List ℕ) → IsUtf8 bs → length bs ≡ 0 → None ≡ code_read (chars bs)
no_code_in_nothing bs u e = rw (code_of_bytes bs u) (none bs e)
  where
    none : (bs : List ℕ) → length bs ≡ 0 → None ≡ code_read bs
    none [] e = refl
    none (b ∷ bs) e = absurd (omega arith)

pub no_code_without_u : (bs : List ℕ) (d : ℕ) (ds : List ℕ) → IsUtf8 bs → bs ≡ d ∷ ds → d ≢ 85 → None ≡ code_read (chars bs)
no_code_without_u bs d ds u e h =
    let other : (d == 85) ≡ false = grind (arith, nat_tests) in
    rw (code_of_bytes bs u, e, other) refl

pub no_code_in_few : (bs : List ℕ) (d : ℕ) (ds : List ℕ) → IsUtf8 bs → bs ≡ d ∷ ds → d ≡ 85 → length ds < 4 → None ≡ code_read (chars bs)
no_code_in_few bs d ds u e f h =
    let few : nat_le 4 (length ds) ≡ false = grind (arith, nat_tests) in
    rw (code_of_bytes bs u, e, f, few) refl

pub no_code_in_many : (bs : List ℕ) (d : ℕ) (ds : List ℕ) → IsUtf8 bs → bs ≡ d ∷ ds → d ≡ 85 → 4 ≤ length ds → 8 < length ds → None ≡ code_read (chars bs)
no_code_in_many bs d ds u e f k h =
    let enough : nat_le 4 (length ds) ≡ true = grind (arith, nat_tests) in
    let many : nat_le (length ds) 8 ≡ false = grind (arith, nat_tests) in
    rw (code_of_bytes bs u, e, f, enough, many) refl

read_if : (b : Bool) (n : ℕ) → (if b then Some (min n PAST_CODE_POINTS) else None) ≡ option_map (λ n. min n PAST_CODE_POINTS) (if b then Some n else None)
read_if true n = refl
read_if false n = refl

pub code_in_digits : (bs : List ℕ) (d : ℕ) (ds : List ℕ) → IsUtf8 bs → bs ≡ d ∷ ds → d ≡ 85 → 4 ≤ length ds → length ds ≤ 8
    → (if list_all is_hex_digit ds then Some (min (hex_number ds) PAST_CODE_POINTS) else None) ≡ code_read (chars bs)
code_in_digits bs d ds u e f k h =
    let enough : nat_le 4 (length ds) ≡ true = grind (arith, nat_tests) in
    let within : nat_le (length ds) 8 ≡ true = grind (arith, nat_tests) in
    rw (code_of_bytes bs u, e, f, enough, within) (read_if (list_all is_hex_digit ds) (hex_number ds))

-- numbers past the code points are no characters, so they need not be told apart
character_min : (n : ℕ) → character_of n ≡ character_of (min n PAST_CODE_POINTS)
character_min n = elim (leb_tells n PAST_CODE_POINTS) [ inl h ↦ small n h.1 | inr h ↦ large n h.1 ]
  where
    small : (n : ℕ) → n ≤ PAST_CODE_POINTS → character_of n ≡ character_of (min n PAST_CODE_POINTS)
    small n h = let e : min n PAST_CODE_POINTS ≡ n = omega arith in ap character_of (sym e)

    none : (n : ℕ) → PAST_CODE_POINTS < n → scalar n ≡ false
    none n h = grind (arith, nat_tests)

    large : (n : ℕ) → PAST_CODE_POINTS < n → character_of n ≡ character_of (min n PAST_CODE_POINTS)
    large n h = let e : min n PAST_CODE_POINTS ≡ PAST_CODE_POINTS = omega arith in rw e (rw (none n h) refl)

code_by : (o : Option ℕ) (name : List ℕ) (number : ℕ) → Some number ≡ option_map (λ n. min n PAST_CODE_POINTS) o → symbol_by o name ≡ character_of number
code_by None name number e = cc
code_by (Some n) name number e = character_min n ∙ ap character_of (same_number e)
  where
    same_number : Some number ≡ Some (min n PAST_CODE_POINTS) → min n PAST_CODE_POINTS ≡ number
    same_number e = cc

-- a symbol that spells a code point
pub symbol_of_code : (name : List ℕ) (number : ℕ) → Some number ≡ option_map (λ n. min n PAST_CODE_POINTS) (code_point_of name) → symbol_of name ≡ character_of number
unfolding symbol_of
symbol_of_code name number e = code_by (code_point_of name) name number e

none_by : (o : Option ℕ) (name : List ℕ) → (length name == 0) ≡ false → None ≡ option_map (λ n. min n PAST_CODE_POINTS) o → symbol_by o name ≡ name_of name
none_by None [] e f = cc
none_by None (c ∷ cs) e f = refl
none_by (Some n) name e f = cc

-- a symbol that spells none
pub symbol_of_name : (name : List ℕ) → (length name == 0) ≡ false → None ≡ option_map (λ n. min n PAST_CODE_POINTS) (code_point_of name) → symbol_of name ≡ name_of name
unfolding symbol_of
symbol_of_name name e f = none_by (code_point_of name) name e f

-- a symbol with nothing in it
pub symbol_of_nothing : (name : List ℕ) → (length name == 0) ≡ true → symbol_of name ≡ Err EmptySymbol
unfolding symbol_of
symbol_of_nothing [] e = refl
symbol_of_nothing (c ∷ cs) e = absurd (grind (arith, nat_tests))

-- a text's test as a name, by its length and its characters
pub long_is_no_name : (cs : List ℕ) → most_name_chars < length cs → false ≡ is_name cs
long_is_no_name cs h = let long : nat_le (length cs) most_name_chars ≡ false = grind (arith, nat_tests) in rw long refl

pub short_is_name : (cs : List ℕ) → length cs ≤ most_name_chars → list_all (λ c. not (is_blank c || is_control c)) cs ≡ is_name cs
short_is_name cs h = let short : nat_le (length cs) most_name_chars ≡ true = grind (arith, nat_tests) in rw short refl

refused_by : (n : ℕ) (t : Bool) → scalar n ≡ t → (scalar n ≡ true → ⊥) → Err BadCodePoint ≡ character_of n
refused_by n true e h = absurd (h e)
refused_by n false e h = rw e refl

-- a number that is no character
pub character_refused : (n : ℕ) → (scalar n ≡ true → ⊥) → Err BadCodePoint ≡ character_of n
character_refused n h = refused_by n (scalar n) refl h

-- a number that is a character
pub character_given : (n c : ℕ) → (scalar n ≡ true) × (c ≡ n) → Ok (piece.Char c) ≡ character_of n
character_given n c h = rw (h.1, h.0) refl

pub name_refused : (cs : List ℕ) → is_name cs ≡ false → Err BadName ≡ name_of cs
name_refused cs e = rw e refl

pub name_given : (cs : List ℕ) → is_name cs ≡ true → Ok (piece.Name cs) ≡ name_of cs
name_given cs e = rw e refl
