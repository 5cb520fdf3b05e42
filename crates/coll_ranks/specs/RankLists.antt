-- Lists of ranks that stand one behind another, and compiled weights.
use Rattle.std.specs.Prelude.{◌≡◌, ◌≤◌, ℕ, ◌-◌, Bool, List, [], ◌∷◌, ◌++◌, length, take, drop}

-- the lists that end at these places, where the first begins at this one
abbrev pub lists_from : (start : ℕ) → (ranks : List ℕ) → (ends : List ℕ) → List (List ℕ)
lists_from start ranks [] = []
lists_from start ranks (end ∷ ends) = take (end - start) (drop start ranks) ∷ lists_from end ranks ends

-- these are the ends of lists, one behind another, and the last ends with the ranks
abbrev pub AreEnds : (start : ℕ) → (ranks : List ℕ) → (ends : List ℕ) → Type 0
AreEnds start ranks [] = start ≡ length ranks
AreEnds start ranks (end ∷ ends) = (start ≤ end) × AreEnds end ranks ends

-- a list goes on behind another
abbrev pub IsLonger : (old new : List ℕ) → Type 0
IsLonger old new = (more : List ℕ) × (new ≡ old ++ more)

-- compiled weights as contracts see them: the number of levels; the ranks of the weight at each level, level by level, for
-- UNDEFINED and then for each entry; and for each level whether UNDEFINED stands for itself there
pub record WeightsValue : Type 0 where
  pub levels : ℕ
  pub lists : List (List ℕ)
  pub own : List Bool

-- compiled weights have the weights of one more
pub record AddsRow (old new : WeightsValue) (row : List (List ℕ)) : Type 0 where
  pub levels_are : new.levels ≡ old.levels
  pub lists_are : new.lists ≡ old.lists ++ row
  pub own_are : new.own ≡ old.own
