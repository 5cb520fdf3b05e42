-- What the first look at two texts tells, by single numbers of the first level.
use Rattle.std.specs.Prelude.{◌≡◌, ◌<◌, ℕ, List, true, chars}
use Rattle.std.specs.declared.cmp.Ordering.TheVariants.{Equal}
use Rattle.coll_nodes.specs.Table.{Collation}
use Rattle.coll_key.specs.TextOrder.{order_of}
use Rattle.coll_letters.specs.ElementMarks.{IsSameAt}
use Rattle.coll_letters.specs.LetterWeights.{OrdersSo}
use Rattle.coll_letters.specs.declared.element_marks.ElementMarks.{ElementMarks}
use Rattle.coll_letters.specs.declared.first_numbers.FirstOrder.{FirstOrder}
use Rattle.coll_letters.specs.declared.first_numbers.FirstOrder.TheVariants.{Told, Untold}
use Rattle.coll_letters.specs.declared.first_numbers.SeenFirst.{SeenFirst}

-- two texts begin with so many bytes that are the same characters in both, and perhaps the first level doesn't tell them apart
pub record IsSeen (table : Collation) (marks : ElementMarks) (text other : List ℕ) (seen : SeenFirst) : Type 0 where
  pub front : (k : ℕ) → k < seen.front → IsSameAt marks text other k
  pub alike : seen.alike ≡ true → OrdersSo table 0 (chars text) (chars other) Equal

-- the first level decides, or this is seen
abbrev pub IsFirstOrder : Collation → ElementMarks → (text other : List ℕ) → FirstOrder → Type 0
IsFirstOrder table marks text other (Told order) = order ≡ order_of table (chars text) (chars other)
IsFirstOrder table marks text other (Untold seen) = IsSeen table marks text other seen
