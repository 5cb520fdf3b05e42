-- What is left of the numbers of a text at a level that is looked at from the front, and what comes next of it.
use Rattle.std.specs.Prelude.{◌≡◌, ◌<◌, ◌≤◌, ℕ, Bool, true, false, List, [], ◌∷◌, Option, length, map, chars}
use Rattle.coll_nodes.specs.Table.{Collation}
use Rattle.coll_ranks.specs.LevelWeights.{ranks_in}
use Rattle.coll_ranks.specs.Ranks.{added_to}
use Rattle.coll_key.specs.ForwardNumbers.{items_left}
use Rattle.coll_key.specs.LevelList.{listed}
use Rattle.coll_letters.specs.LetterWeights.{text_numbers}
use Rattle.coll_letters.specs.declared.level_numbers.PlacedNumber.{PlacedNumber}
use Rattle.coll_letters.specs.declared.level_numbers.LevelRest.{LevelRest}
use Rattle.coll_letters.specs.declared.level_numbers.NextNumber.{NextNumber}
use Rattle.coll_letters.specs.declared.level_numbers.NextNumber.TheVariants.{Found, Ended, Unknown}

-- the numbers of an element are what stands for it
abbrev pub themselves : List ℕ → List ℕ
themselves numbers = numbers

-- the items of what is left: the numbers that are left of a character, and then those of the characters behind it
abbrev pub items_behind : Collation → (level : ℕ) → LevelRest → List (Option ℕ)
items_behind table level rest = items_left themselves (map (added_to rest.added) (ranks_in rest.ranks)) (text_numbers table level (chars rest.text.now))

-- a number before others, with `position` behind its position
abbrev pub placed : (position : Bool) → PlacedNumber → List ℕ → List ℕ
placed true found list = found.position ∷ found.number ∷ list
placed false found list = found.number ∷ list

-- a number comes first of what is left, and others behind it
pub record IsFoundNext (table : Collation) (level : ℕ) (rest : LevelRest) (found : PlacedNumber) (later : LevelRest) : Type 0 where
  pub next : (position : Bool) → listed position 0 (items_behind table level rest) ≡ placed position found (listed position 0 (items_behind table level later))
  pub shorter : length (items_behind table level later) < length (items_behind table level rest)
  pub shorter_text : length (chars later.text.now) ≤ length (chars rest.text.now)

-- what comes next of what is left
abbrev pub IsNext : Collation → (level : ℕ) → LevelRest → NextNumber → Type 0
IsNext table level rest (Found found later) = IsFoundNext table level rest found later
IsNext table level rest Ended = (position : Bool) → listed position 0 (items_behind table level rest) ≡ []
IsNext table level rest Unknown = Unit {0}
