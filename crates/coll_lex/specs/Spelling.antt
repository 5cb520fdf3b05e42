-- The canonical spellings of names and characters.
--
-- Each spelling takes what follows it, so that a whole line is spelled by putting one spelling into the next.
-- They are read back under the escape character `/` and each comment character (`ReadingBack`).
use Rattle.std.specs.Prelude.{ℕ, zero, suc, ◌+◌, ◌/◌, ◌%◌, Bool, ◌||◌, ◌==◌, nat_lt, if◌then◌else◌, List, [], ◌∷◌, ◌++◌}
use Rattle.coll_lex.specs.Characters.{slash, less_than, greater_than, capital_u}

-- the characters that a name writes with an escape before them: `>` and `/`
abbrev pub is_escaped : ℕ → Bool
is_escaped c = (c == greater_than) || (c == slash)

-- a character of a name
abbrev pub spelled_char : ℕ → List ℕ → List ℕ
spelled_char c rest = if is_escaped c then slash ∷ c ∷ rest else c ∷ rest

-- the characters of a name
unfoldable pub spelled_name : List ℕ → List ℕ → List ℕ
spelled_name [] rest = rest
spelled_name (c ∷ cs) rest = spelled_char c (spelled_name cs rest)

-- a name between `<` and `>`
unfoldable pub spelled_symbol : List ℕ → List ℕ → List ℕ
spelled_symbol name rest = less_than ∷ spelled_name name (greater_than ∷ rest)

-- a hexadecimal digit, in upper case: `0` is 48, and `A` is 65, ten above 55
abbrev pub hex_digit : ℕ → ℕ
hex_digit d = if nat_lt d 10 then 48 + d else 55 + d

-- the last digits of a number in hexadecimal, as many as are asked for
unfoldable pub hex_digits : ℕ → ℕ → List ℕ
hex_digits zero n = []
hex_digits (suc count) n = hex_digits count (n / 16) ++ hex_digit (n % 16) ∷ []

-- a code point has four digits up to FFFF and eight above
abbrev pub digit_count : ℕ → ℕ
digit_count c = if nat_lt c 65536 then 4 else 8

-- a character by its code point, between `<U` and `>`
unfoldable pub spelled_code : ℕ → List ℕ → List ℕ
spelled_code c rest = less_than ∷ capital_u ∷ (hex_digits (digit_count c) c ++ greater_than ∷ rest)
