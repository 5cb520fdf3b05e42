-- The number that digits spell, and the name of a range that has it.
use Rattle.std.proofs.Common.{◌≡◌, ◌<◌, ◌+◌, ◌-◌, ◌*◌, ◌/◌, ◌%◌, ◌^◌, ℕ, zero, suc, List, [], ◌∷◌, ◌++◌, Option, Some, None, is_some, length, take, refl, sym, ap, ◌∙◌, arith}
use Rattle.std.proofs.Math.Nat.{div-div-eq-div-mul, div-eq_of_lt, div-le_self, div-one, pow-succ', pow-zero}
use Rattle.std.proofs.lemmas.List.{append_assoc, append-nil, length_push, same_from_push, take_at}
use Rattle.std.proofs.Math.Seq.{take-length}
use Rattle.std.proofs.lemmas.Bool.{true≢false}
use Rattle.std.specs.Option.{option_map_or}
use Rattle.coll_lex.specs.Spelling.{hex_digit}
use Rattle.coll_source_lines.specs.NameRanges.{digits_in}
use Rattle.coll_source_lines.proofs.DigitLemmas.{last_digit}

-- there are as many digits as are asked for
pub digits_length : (base count n : ℕ) → length (digits_in base count n) ≡ count
unfolding digits_in
digits_length base zero n = refl
digits_length base (suc count) n =
    let fewer = digits_length base count (n / base) in
    let pushed = length_push (digits_in base count (n / base)) (hex_digit (n % base)) in
    omega (arith, fewer, pushed)

-- a number without none of its digits
without_none : (base n : ℕ) → n / base ^ 0 ≡ n
without_none base n = ap (λ p. n / p) (pow-zero base) ∙ div-one n

-- the first digits are those of a number without its last ones
digits_front : (base first last n : ℕ) → digits_in base (first + last) n ≡ digits_in base first (n / base ^ last) ++ digits_in base last n
unfolding digits_in
digits_front base first zero n =
    let all : first + 0 ≡ first = omega arith in
    ap (λ count. digits_in base count n) all ∙ (ap (digits_in base first) (sym (without_none base n)) ∙ sym (append-nil (digits_in base first (n / base ^ 0))))
digits_front base first (suc last) n =
    let all : first + suc last ≡ suc (first + last) = omega arith in
    let quotient : n / base / base ^ last ≡ n / base ^ suc last = div-div-eq-div-mul n base (base ^ last) ∙ ap (λ p. n / p) (sym (pow-succ' base last)) in
    last_digit base (first + suc last) (first + last) n all
    ∙ (ap (λ l. l ++ hex_digit (n % base) ∷ []) (digits_front base first last (n / base) ∙ ap (λ q. digits_in base first q ++ digits_in base last (n / base)) quotient)
    ∙ append_assoc (digits_in base first (n / base ^ suc last)) (digits_in base last (n / base)) (hex_digit (n % base) ∷ []))

pub some_is : (one other : ℕ) → Some one ≡ Some other → one ≡ other
some_is one other e = ap (λ o. option_map_or (λ n. n) o one) e

pub none_is_not : {A : Type 0} (place : ℕ) → None ≡ Some place → A
none_is_not {A} place e = absurd (true≢false (sym (ap is_some e)))

-- some of the digits are read: they spell this number, and it is that of all numbers that all digits spell
pub record ReadSoFar (base : ℕ) (digits : List ℕ) (count number : ℕ) : Type 0 where
  pub spells : digits_in base count number ≡ take count digits
  pub found : (n : ℕ) → n < 2 ^ 32 → n < base ^ length digits → digits_in base (length digits) n ≡ digits → n / base ^ (length digits - count) ≡ number

module _ (base : ℕ) (digits : List ℕ) where
  pub read_none : ReadSoFar base digits 0 0
  unfolding digits_in
  read_none = record {
    spells = refl;
    found = λ n small short is.
        let all : length digits - 0 ≡ length digits = omega arith in
        ap (λ count. n / base ^ count) all ∙ div-eq_of_lt short;
  }

  module _ (count number digit : ℕ) (so : ReadSoFar base digits count number) (within : count < length digits) (next : take (count + 1) digits ≡ take count digits ++ digit ∷ []) where
    -- a number that all digits spell is, without those behind, the one that was read and this digit
    followed : (n : ℕ) → n < 2 ^ 32 → n < base ^ length digits → digits_in base (length digits) n ≡ digits
        → (n / base ^ (length digits - (count + 1)) / base ≡ number) × (hex_digit (n / base ^ (length digits - (count + 1)) % base) ≡ digit)
    followed n small short is =
        let left : ℕ = length digits - (count + 1) in
        let more : ℕ = n / base ^ left in
        let all : length digits ≡ (count + 1) + left = omega (arith, within) in
        let one_less : length digits - count ≡ suc left = omega (arith, within) in
        let quotient : more / base ≡ n / base ^ (length digits - count) =
        div-div-eq-div-mul n (base ^ left) base ∙ ap (λ p. n / p) (times (base ^ left) base ∙ (sym (pow-succ' base left) ∙ ap (λ k. base ^ k) (sym one_less))) in
        let front : take (count + 1) digits ≡ digits_in base (count + 1) more =
        ap (take (count + 1)) (sym is ∙ (ap (λ k. digits_in base k n) all ∙ digits_front base (count + 1) left n))
        ∙ take_at (digits_in base (count + 1) more) (digits_in base left n) (count + 1) (digits_length base (count + 1) more) in
        let is_more : count + 1 ≡ suc count = omega arith in
        let ends : digits_in base count (more / base) ++ hex_digit (more % base) ∷ [] ≡ take count digits ++ digit ∷ [] =
        sym (last_digit base (count + 1) count more is_more) ∙ (sym front ∙ next) in
        (quotient ∙ so.found n small short is, (same_from_push (digits_in base count (more / base)) (take count digits) (hex_digit (more % base)) digit ends).1)
      where
        times : (a b : ℕ) → a * b ≡ b * a
        times a b = omega arith

    module _ (read : Option ℕ) (all : (n : ℕ) → n < 2 ^ 32 → n / base ≡ number → hex_digit (n % base) ≡ digit → read ≡ Some n) where
      found_more : (n : ℕ) → n < 2 ^ 32 → n < base ^ length digits → digits_in base (length digits) n ≡ digits → read ≡ Some (n / base ^ (length digits - (count + 1)))
      found_more n small short is =
          let parts = followed n small short is in
          let most = div-le_self n (base ^ (length digits - (count + 1))) in
          all (n / base ^ (length digits - (count + 1))) (omega (arith, most, small)) parts.0 parts.1

      -- one digit more is read
      pub read_more : (more : ℕ) → read ≡ Some more → more / base ≡ number → hex_digit (more % base) ≡ digit → ReadSoFar base digits (count + 1) more
      read_more more is before last =
          let is_more : count + 1 ≡ suc count = omega arith in
          record {
            spells = last_digit base (count + 1) count more is_more
                ∙ (ap (λ l. l ++ hex_digit (more % base) ∷ []) (ap (digits_in base count) before ∙ so.spells)
                ∙ (ap (λ d. take count digits ++ d ∷ []) last ∙ sym next));
            found = λ n small short spelled. some_is _ _ (sym (found_more n small short spelled) ∙ is);
          }

      -- or all digits spell no number
      pub read_no_more : {A : Type 0} → read ≡ None → (n : ℕ) → n < 2 ^ 32 → n < base ^ length digits → digits_in base (length digits) n ≡ digits → A
      read_no_more is n small short spelled = none_is_not _ (sym is ∙ found_more n small short spelled)

  module _ (number : ℕ) (so : ReadSoFar base digits (length digits) number) where
    -- all digits are read
    pub read_spells : digits_in base (length digits) number ≡ digits
    read_spells = so.spells ∙ take-length digits

    pub read_found : (n : ℕ) → n < 2 ^ 32 → n < base ^ length digits → digits_in base (length digits) n ≡ digits → Some number ≡ Some n
    read_found n small short is =
        let none : length digits - length digits ≡ 0 = omega arith in
        ap Some (sym (so.found n small short is) ∙ (ap (λ k. n / base ^ k) none ∙ without_none base n))
