-- What keys begin with, as one number (the project's own): the first numbers of a key, each as a digit.
use Rattle.std.specs.Prelude.{◌≡◌, ℕ, zero, suc, ◌+◌, ◌*◌, ◌-◌, ◌<◌, ◌≤◌, ◌⊎◌, List, [], ◌∷◌, All, length, slice_index}
use Rattle.std.specs.List.Sorted.{IsStrictlyIncreasing}
use Rattle.coll_ranks.specs.WeightNumbers.{rank_step}

-- numbers rise, and none is less than that of a rank
pub record AreRising (numbers : List ℕ) : Type 0 where
  pub rising : IsStrictlyIncreasing numbers
  pub ranks : All (λ number. rank_step ≤ number) numbers

-- a number has a digit: its place among those that have one, from 1
pub record HasDigit (numbers : List ℕ) (number digit : ℕ) : Type 0 where
  pub some : 0 < digit
  pub within : digit ≤ length numbers
  pub at : slice_index numbers (digit - 1) ≡ number

-- a key leads to this: so many digits more stand behind those of the numbers before the key, and 0 stands for each where the key has
-- ended, or goes on with less than any rank has
unfoldable pub LeadsTo : (numbers : List ℕ) → (base : ℕ) → (room before : ℕ) → (key : List ℕ) → (lead : ℕ) → Type 0
LeadsTo numbers base zero before key lead = lead ≡ before
LeadsTo numbers base (suc room) before [] lead = LeadsTo numbers base room (before * base) [] lead
LeadsTo numbers base (suc room) before (number ∷ key) lead =
    ((number < rank_step) × LeadsTo numbers base room (before * base) [] lead)
    ⊎ ((digit : ℕ) × HasDigit numbers number digit × LeadsTo numbers base room (before * base + digit) key lead)
