-- Levels that don't tell two texts apart, since what one of them has more is ignored there.
use Rattle.std.specs.Prelude.{◌≡◌, ◌<◌, ◌≤◌, ◌+◌, ℕ, false, List, length, chars}
use Rattle.std.specs.declared.cmp.Ordering.TheVariants.{Equal}
use Rattle.coll_nodes.specs.Table.{Collation}
use Rattle.coll_letters.specs.LetterWeights.{OrdersAlikeAt, order_behind}
use Rattle.coll_letters.specs.declared.alike_levels.Passed.{Passed}

-- so many of the first levels, looked at from the front and without positions, don't tell two texts apart
abbrev pub AreAlike : Collation → (count : ℕ) → (text other : List ℕ) → Type 0
AreAlike table count text other = (level : ℕ) → level < count → Equal ≡ order_behind table level false 0 text other

-- what is left of two texts, of which one has passed a character, decides their order at so many of the first levels
pub record IsPassed (table : Collation) (most : ℕ) (text other : List ℕ) (passed : Passed) : Type 0 where
  pub levels : passed.levels ≤ most
  pub same : (level : ℕ) → level < passed.levels → OrdersAlikeAt table level false text other (chars passed.first.now) (chars passed.second.now)
  pub shorter : length (chars passed.first.now) + length (chars passed.second.now) < length text + length other
