-- The digits of a number.
use Rattle.std.proofs.Common.{◌≡◌, ◌/◌, ◌%◌, ◌-◌, ◌+◌, ◌<◌, ℕ, suc, List, length, [], ◌∷◌, ◌++◌, refl, sym, ap, ◌∙◌, arith}
use Rattle.std.proofs.lemmas.Bool.Decides.{nat_tests}
use Rattle.std.specs.Char.{IsScalar}
use Rattle.coll_lex.specs.Spelling.{hex_digit}
use Rattle.std.proofs.lemmas.List.{append_assoc, length_push, same_from_push}
use Rattle.coll_source_lines.specs.NameRanges.{base_of, digits_in, range_name}
use Rattle.coll_source_lines.specs.declared.ranges.Digits.{Digits}
use Rattle.coll_source_lines.specs.declared.ranges.Digits.TheVariants.{Decimal, Hexadecimal}
use Rattle.coll_source_lines.specs.declared.ranges.NameRange.{NameRange}

-- some digits are those before the last one, and then that
pub last_digit : (base count fewer n : ℕ) → count ≡ suc fewer → digits_in base count n ≡ digits_in base fewer (n / base) ++ hex_digit (n % base) ∷ []
unfolding digits_in
last_digit base count fewer n more = rw more refl

-- what is ASCII is a character
pub ascii_is_scalar : (c : ℕ) → c < 128 → IsScalar c
ascii_is_scalar c small = grind (arith, nat_tests)

-- where the last digit of a number isn't zero, the number before has the same digits before its last one
pub same_front : (digits : Digits) (n : ℕ) → (n % base_of digits ≡ 0 → ⊥) → (n - 1) / base_of digits ≡ n / base_of digits
same_front Decimal n some = omega (arith, some)
same_front Hexadecimal n some = omega (arith, some)

-- the name of a number is that of the number before with another last digit, where that isn't zero
pub next_name : (range : NameRange) (n : ℕ) (old front : List ℕ) (c : ℕ) → (range.width ≡ 0 → ⊥) → (n % base_of range.digits ≡ 0 → ⊥) → old ≡ front ++ c ∷ [] → old ≡ range_name range (n - 1)
    → front ++ hex_digit (n % base_of range.digits) ∷ [] ≡ range_name range n
next_name range n old front c wide some is named =
    let base : ℕ = base_of range.digits in
    let fewer : ℕ = range.width - 1 in
    let more : range.width ≡ suc fewer = omega (arith, wide) in
    let shared : List ℕ = range.letters ++ digits_in base fewer ((n - 1) / base) in
    let same : front ++ c ∷ [] ≡ shared ++ hex_digit ((n - 1) % base) ∷ [] = sym is
    ∙ (named
    ∙ (ap (λ l. range.letters ++ l) (last_digit base range.width fewer (n - 1) more)
    ∙ sym (append_assoc range.letters (digits_in base fewer ((n - 1) / base)) (hex_digit ((n - 1) % base) ∷ [])))) in
    let fronts : front ≡ shared = (same_from_push front shared c (hex_digit ((n - 1) % base)) same).0 in
    ap (λ l. l ++ hex_digit (n % base) ∷ []) (fronts ∙ ap (λ q. range.letters ++ digits_in base fewer q) (same_front range.digits n some))
    ∙ (append_assoc range.letters (digits_in base fewer (n / base)) (hex_digit (n % base) ∷ [])
    ∙ sym (ap (λ l. range.letters ++ l) (last_digit base range.width fewer n more)))

-- a text that ends with a character isn't empty
pub ends_with_some : (front : List ℕ) (c : ℕ) → [] ≡ front ++ c ∷ [] → ⊥
ends_with_some front c is = let none : 0 ≡ length front + 1 = ap length is ∙ length_push front c in
    omega (arith, none)
