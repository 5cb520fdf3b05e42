-- What characters weigh at the first level of a table, as plain numbers.
use Rattle.std.specs.Prelude.{◌≡◌, ◌<◌, ℕ, List, [], ◌∷◌, All, length, slice_index_or, true, false}
use Rattle.coll_syntax.specs.declared.identifiers.Id.TheVariants.{Char}
use Rattle.coll_syntax.specs.declared.rules.Rule.{Rule}
use Rattle.coll_nodes.specs.Table.{Collation}
use Rattle.coll_ranks.specs.WeightNumbers.{numbers_at}
use Rattle.coll_letters.specs.ElementMarks.{IsAloneAt}
use Rattle.coll_letters.specs.declared.element_marks.ElementMarks.{ElementMarks}
use Rattle.coll_letters.specs.declared.first_numbers.FirstNumber.{FirstNumber}
use Rattle.coll_letters.specs.declared.first_numbers.FirstNumbers.{FirstNumbers}

-- unless it is 0, this is the only number of a character at the first level
pub record IsNumberOf (table : Collation) (c : ℕ) (number : ℕ) : Type 0 where
  pub single : 0 < number → 0 < length table.rules → numbers_at table 0 (Char c) ≡ number ∷ []

-- a character with its number
abbrev pub IsFirstNumber : Collation → FirstNumber → Type 0
IsFirstNumber table kept = IsNumberOf table kept.letter kept.number

-- the byte at a place is a character by itself of this number, and no element begins with it there
pub record IsNumberAt (table : Collation) (marks : ElementMarks) (bytes : List ℕ) (place n : ℕ) : Type 0 where
  pub alone : IsAloneAt marks bytes place
  pub number : IsNumberOf table (slice_index_or bytes place 0) n

-- numbers by code point are those of their characters
abbrev pub AreNumbersByCode : Collation → List ℕ → Type 0
AreNumbersByCode table numbers = (c : ℕ) → IsNumberOf table c (slice_index_or numbers c 0)

-- there is a first level, and it is looked at from the front
abbrev pub LooksForward : List Rule → Type 0
LooksForward [] = ⊥
LooksForward (rule ∷ rules) = rule.backward ≡ false

-- the numbers that are kept are those of their characters
pub record AreFirstNumbers (table : Collation) (kept : FirstNumbers) : Type 0 where
  pub numbers : All (IsFirstNumber table) kept.numbers.items
  pub ascii : AreNumbersByCode table kept.ascii.items
  pub forward : kept.forward ≡ true → LooksForward table.rules
