-- The names of a range: letters that all have, and then a number of as many digits in each.
use Rattle.std.specs.Prelude.{◌≡◌, ◌<◌, ◌≤◌, ℕ, zero, suc, ◌/◌, ◌%◌, ◌^◌, List, [], ◌∷◌, ◌++◌, length, chars, encode_utf8_all}
use Rattle.coll_lex.specs.Spelling.{hex_digit}
use Rattle.coll_source_lines.specs.declared.ranges.Digits.{Digits}
use Rattle.coll_source_lines.specs.declared.ranges.Digits.TheVariants.{Decimal, Hexadecimal}
use Rattle.coll_source_lines.specs.declared.ranges.NameRange.{NameRange}

-- how many digits there are
abbrev pub base_of : Digits → ℕ
base_of Decimal = 10
base_of Hexadecimal = 16

-- the last digits of a number in a base, in upper case, as many as are asked for
unfoldable pub digits_in : (base : ℕ) → (count : ℕ) → ℕ → List ℕ
digits_in base zero n = []
digits_in base (suc count) n = digits_in base count (n / base) ++ hex_digit (n % base) ∷ []

-- the name of a range that has this number: the letters, and then as many digits as each name has
abbrev pub range_name : NameRange → ℕ → List ℕ
range_name range number = range.letters ++ digits_in (base_of range.digits) range.width number

-- a range has this number, which has no more digits than its names have
pub record HasNumber (range : NameRange) (number : ℕ) : Type 0 where
  pub first : range.first ≤ number
  pub last : number ≤ range.last
  pub small : number < 2 ^ 32
  pub short : number < base_of range.digits ^ range.width

-- a text is the letters of a range, and then these digits, as many as each of its names has
pub record HasDigits (range : NameRange) (text digits : List ℕ) : Type 0 where
  pub bytes : text ≡ encode_utf8_all range.letters ++ digits
  pub characters : chars text ≡ range.letters ++ chars digits
  pub width : length digits ≡ range.width
