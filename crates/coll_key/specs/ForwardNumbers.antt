-- What is left of the numbers of a text at a forward level, and a step along them.
use Rattle.std.specs.Prelude.{ℕ, Bool, true, false, List, [], ◌∷◌, ◌++◌, Option, Some, map}
use Rattle.coll_key.specs.LevelList.{items}
use Rattle.coll_key.specs.declared.forward_numbers.Step.{Step}

-- the items that are left: the numbers that are left of an element, and then the items of the elements behind it
abbrev pub items_left : {P : Type 0} → (P → List ℕ) → List ℕ → List P → List (Option ℕ)
items_left numbers left elements = map Some left ++ items numbers elements

-- the numbers of a step, before others: its number, with `position` behind its position
abbrev pub before : (position : Bool) → Step → List ℕ → List ℕ
before true step list = step.position ∷ step.number ∷ list
before false step list = step.number ∷ list

-- how many gaps an element with these ranks is
abbrev pub gap_count : List ℕ → ℕ
gap_count [] = 1
gap_count (rank ∷ ranks) = 0
