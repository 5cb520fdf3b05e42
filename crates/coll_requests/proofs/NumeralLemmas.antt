-- A text is the same numeral by its bytes and by its characters, and its number has at most nine digits.
use Rattle.std.proofs.Common.{◌≡◌, ℕ, ◌<◌, ◌≤◌, ◌^◌, min, zero, suc, ◌==◌, ◌&&◌, nat_le, Bool, true, false, if◌then◌else◌, List, [], ◌∷◌}
use Rattle.std.proofs.Common.{length, chars, IsUtf8, IsAscii, encode_utf8_all, Some, None, refl, ap, sym, ◌∙◌, arith, rules}
use Rattle.std.specs.Prelude.{◌+◌, ◌*◌, fold}
use Rattle.std.specs.Char.{digit_value}
use Rattle.std.specs.List.{list_all}
use Rattle.std.proofs.lemmas.Bool.{and_parts}
use Rattle.std.proofs.lemmas.Bool.Decides.{nat_tests}
use Rattle.std.proofs.Math.Nat.{min-eq_left}
use Rattle.std.proofs.lemmas.Str.{encodes-chars, encodes_same, encodes-IsAscii}
use Rattle.std.proofs.lemmas.Str.Parse.{IsNumeralModel, numerals_by_fold, digits_value_short}
use Rattle.coll_requests.specs.Numerals.{is_digit, decimal_number, is_numeral, numeral_of}
use Rattle.coll_requests.specs.declared.numerals.TheConstants.{PAST_NUMERALS}

-- a decimal digit is an ASCII character
digit_small : (c : ℕ) → is_digit c ≡ true → c < 128
digit_small c e = grind (arith, nat_tests)

digits_small : (ds : List ℕ) → list_all is_digit ds ≡ true → IsAscii ds
digits_small [] e i = omega arith
digits_small (d ∷ ds) e zero = digit_small d (and_parts (is_digit d) (list_all is_digit ds) e).0
digits_small (d ∷ ds) e (suc i) = digits_small ds (and_parts (is_digit d) (list_all is_digit ds) e).1 i

numeral_digits : (cs : List ℕ) → is_numeral cs ≡ true → list_all is_digit cs ≡ true
numeral_digits cs e = (and_parts (nat_le 1 (length cs) && nat_le (length cs) 9) (list_all is_digit cs) e).1

same_numeral : (cs bs : List ℕ) → encode_utf8_all cs ≡ bs → (t u : Bool) → is_numeral cs ≡ t → is_numeral bs ≡ u → numeral_of cs ≡ numeral_of bs
same_numeral cs bs e true u p q = ap numeral_of (sym (encodes-IsAscii cs (digits_small cs (numeral_digits cs p))) ∙ e)
same_numeral cs bs e false true p q = ap numeral_of (encodes_same cs bs (e ∙ sym (encodes-IsAscii bs (digits_small bs (numeral_digits bs q)))))
same_numeral cs bs e false false p q = rw (p, q) refl

-- a text is the same numeral by its bytes and by its characters
numeral_of_bytes : (bs : List ℕ) → IsUtf8 bs → numeral_of (chars bs) ≡ numeral_of bs
numeral_of_bytes bs u = same_numeral (chars bs) bs (encodes-chars bs u) (is_numeral (chars bs)) (is_numeral bs) refl refl

pub no_numeral_in_nothing : (bs : List ℕ) → IsUtf8 bs → true ≡ (length bs == 0) → None ≡ numeral_of (chars bs)
no_numeral_in_nothing bs u e =
    let none : nat_le 1 (length bs) ≡ false = grind (arith, nat_tests) in
    rw (numeral_of_bytes bs u, none) refl

pub no_numeral_in_many : (bs : List ℕ) → IsUtf8 bs → false ≡ (length bs == 0) → 9 < length bs → None ≡ numeral_of (chars bs)
no_numeral_in_many bs u some h =
    let enough : nat_le 1 (length bs) ≡ true = grind (arith, nat_tests) in
    let many : nat_le (length bs) 9 ≡ false = grind (arith, nat_tests) in
    rw (numeral_of_bytes bs u, enough, many) refl

own : IsNumeralModel (λ ds. list_all is_digit ds ≡ true) decimal_number
own = numerals_by_fold (λ ds. list_all is_digit ds ≡ true) (search rules) (λ n ds. fold (λ m d. 10 * m + digit_value d) n ds) (search rules)

capped : (ds : List ℕ) (b : Bool) → list_all is_digit ds ≡ b → length ds ≤ 9 → (if b then Some (min (decimal_number ds) PAST_NUMERALS) else None) ≡ (if b then Some (decimal_number ds) else None)
capped ds false e h = refl
capped ds true e h = let small : decimal_number ds < 10 ^ 9 = digits_value_short own ds 9 e h in ap Some (min-eq_left (omega (arith, small)))

pub numeral_in_digits : (bs : List ℕ) → IsUtf8 bs → false ≡ (length bs == 0) → length bs ≤ 9 → (if list_all is_digit bs then Some (min (decimal_number bs) PAST_NUMERALS) else None)
    ≡ numeral_of (chars bs)
numeral_in_digits bs u some h =
    let enough : nat_le 1 (length bs) ≡ true = grind (arith, nat_tests) in
    let few : nat_le (length bs) 9 ≡ true = grind (arith, nat_tests) in
    rw (numeral_of_bytes bs u, enough, few) (capped bs (list_all is_digit bs) refl h)
