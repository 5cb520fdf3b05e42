-- The names of a range: letters, and then digits.
use Rattle.std.proofs.Common.{◌≡◌, ◌<◌, ◌/◌, ◌%◌, ◌^◌, ℕ, zero, suc, List, [], ◌∷◌, ◌++◌, Option, Some, chars, length, take, drop, encode_utf8_all, sym, ap, ◌∙◌, arith}
use Rattle.std.proofs.Math.Seq.{take-append_seam}
use Rattle.std.proofs.lemmas.Bool.Decides.{nat_tests}
use Rattle.std.proofs.lemmas.List.{take-append-drop}
use Rattle.std.proofs.lemmas.Str.{chars-append, chars-IsAscii, encodes-append, encodes-chars}
use Rattle.std.proofs.lemmas.Str.Ascii.{encodes-IsAscii, IsAscii-nil, IsAscii-push}
use Rattle.std.specs.Str.{IsAscii, IsUtf8}
use Rattle.coll_lex.specs.Spelling.{hex_digit}
use Rattle.coll_source_lines.specs.NameRanges.{base_of, digits_in, range_name, HasDigits, HasNumber}
use Rattle.coll_source_lines.specs.declared.ranges.Digits.{Digits}
use Rattle.coll_source_lines.specs.declared.ranges.Digits.TheVariants.{Decimal, Hexadecimal}
use Rattle.coll_source_lines.specs.declared.ranges.NameRange.{NameRange}
use Rattle.coll_source_lines.proofs.NumberLemmas.{digits_length}

-- each digit is ASCII
digit_ascii : (d : ℕ) → d < 16 → hex_digit d < 128
digit_ascii d small = grind (arith, nat_tests)

last_ascii : (digits : Digits) (n : ℕ) → hex_digit (n % base_of digits) < 128
last_ascii Decimal n = digit_ascii (n % 10) (omega arith)
last_ascii Hexadecimal n = digit_ascii (n % 16) (omega arith)

digits_ascii : (digits : Digits) (count n : ℕ) → IsAscii (digits_in (base_of digits) count n)
unfolding digits_in
digits_ascii digits zero n = IsAscii-nil
digits_ascii digits (suc count) n = IsAscii-push (digits_in (base_of digits) count (n / base_of digits)) (hex_digit (n % base_of digits)) (digits_ascii digits count (n / base_of digits)) (last_ascii digits n)

module _ (range : NameRange) (text letters : List ℕ) (bytes : encode_utf8_all range.letters ≡ letters) where
  -- a text that begins with the letters, and goes on with as many digits, has these
  pub has_digits : (front digits : List ℕ) → IsUtf8 letters → chars letters ≡ range.letters → front ≡ take (length letters) text → digits ≡ drop (length letters) text → front ≡ letters
      → length digits ≡ range.width → HasDigits range text digits
  has_digits front digits utf8 named fronts behind same width =
      let parts : text ≡ letters ++ digits = sym (take-append-drop (length letters) text) ∙ (ap (λ l. l ++ drop (length letters) text) (sym fronts ∙ same) ∙ ap (λ l. letters ++ l) (sym behind)) in
      record {
        bytes = parts ∙ ap (λ l. l ++ digits) (sym bytes);
        characters = ap chars parts ∙ (chars-append letters digits utf8 ∙ ap (λ l. l ++ chars digits) named);
        width = width;
      }

  -- one that has such digits begins with the letters
  pub front_is : (digits : List ℕ) → HasDigits range text digits → take (length letters) text ≡ letters
  front_is digits has =
      let parts : text ≡ letters ++ digits = has.bytes ∙ ap (λ l. l ++ digits) bytes in
      ap (take (length letters)) parts ∙ take-append_seam letters digits

module _ (range : NameRange) (text : List ℕ) where
  -- a text with the digits of a number is its name
  pub digits_name : (digits : List ℕ) (n : ℕ) → HasDigits range text digits → digits_in (base_of range.digits) (length digits) n ≡ digits → range_name range n ≡ chars text
  digits_name digits n has is =
      let all : digits_in (base_of range.digits) range.width n ≡ digits = ap (λ count. digits_in (base_of range.digits) count n) (sym has.width) ∙ is in
      let ascii : chars digits ≡ digits = ap chars (sym all) ∙ (chars-IsAscii _ (digits_ascii range.digits range.width n) ∙ all) in
      ap (λ l. range.letters ++ l) (all ∙ sym ascii) ∙ sym has.characters

  -- and its name has the digits of the number
  pub name_digits : (n : ℕ) → IsUtf8 text → range_name range n ≡ chars text → HasDigits range text (digits_in (base_of range.digits) range.width n)
  name_digits n utf8 named =
      let digits : List ℕ = digits_in (base_of range.digits) range.width n in
      let ascii = digits_ascii range.digits range.width n in
      record {
        bytes = sym (encodes-chars text utf8) ∙ (ap encode_utf8_all (sym named) ∙ (encodes-append range.letters digits ∙ ap (λ l. encode_utf8_all range.letters ++ l) (encodes-IsAscii digits ascii)));
        characters = sym named ∙ ap (λ l. range.letters ++ l) (sym (chars-IsAscii digits ascii));
        width = digits_length (base_of range.digits) range.width n;
      }

  -- which are no other ones
  same_digits : (one other : List ℕ) → HasDigits range text one → HasDigits range text other → one ≡ other
  same_digits one other a b = same (encode_utf8_all range.letters) (sym a.bytes ∙ b.bytes) where
    same : (front : List ℕ) → front ++ one ≡ front ++ other → one ≡ other
    same [] e = e
    same (x ∷ xs) e = same xs (ap (λ (l : List ℕ). drop 1 l) e)

  -- so of digits that are read the number of a name is read
  pub number_found : (digits : List ℕ) (read : Option ℕ) (utf8 : IsUtf8 text) → HasDigits range text digits
      → ((n : ℕ) → n < 2 ^ 32 → n < base_of range.digits ^ length digits → digits_in (base_of range.digits) (length digits) n ≡ digits → read ≡ Some n)
      → (n : ℕ) → HasNumber range n → range_name range n ≡ chars text → read ≡ Some n
  number_found digits read utf8 has all n there named =
      let same : digits_in (base_of range.digits) range.width n ≡ digits = same_digits _ digits (name_digits n utf8 named) has in
      all n there.small (rw has.width there.short) (ap (λ count. digits_in (base_of range.digits) count n) has.width ∙ same)
