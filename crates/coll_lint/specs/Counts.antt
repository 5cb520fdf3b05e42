-- How a count is written for people: 1,234,567 (the project's own).
use Rattle.std.specs.Prelude.{ℕ, ◌%◌, ◌==◌, ◌&&◌, nat_lt, Bool, if◌then◌else◌, List, [], ◌∷◌, ◌++◌, length, decimal}
use Rattle.coll_lex.specs.Characters.{comma}

-- whether a comma stands behind a digit with so many digits behind it: three, or six, or nine, and so on
abbrev pub is_set_off : (behind : ℕ) → Bool
is_set_off behind = nat_lt 0 behind && (behind % 3 == 0)

-- the comma behind a digit with so many digits behind it, if one stands there
abbrev pub comma_behind : (behind : ℕ) → List ℕ
comma_behind behind = if is_set_off behind then comma ∷ [] else []

-- digits, with their commas
abbrev pub set_off : (digits : List ℕ) → List ℕ
set_off [] = []
set_off (digit ∷ digits) = digit ∷ (comma_behind (length digits) ++ set_off digits)

-- a number in decimal digits, with a comma before each three of them that end it
abbrev pub with_commas : ℕ → List ℕ
with_commas n = set_off (decimal n)
