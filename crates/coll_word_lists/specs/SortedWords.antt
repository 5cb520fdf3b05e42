-- Words in the order of a table.
use Rattle.std.specs.Prelude.{ℕ, List}
use Rattle.std.specs.List.Sorted.{IsPermutation, IsSorted, IsStable}
use Rattle.coll_nodes.specs.Table.{Collation}
use Rattle.coll_key.specs.TextOrder.{order_of}

-- words, sorted by a table: the same words, none of which is less than the one before it, and those that are equal to a text stand in
-- the order in which they came
pub record AreSorted (table : Collation) (words sorted : List (List ℕ)) : Type 0 where
  pub same : IsPermutation words sorted
  pub ordered : IsSorted (order_of table) sorted
  pub stable : IsStable (order_of table) words sorted
