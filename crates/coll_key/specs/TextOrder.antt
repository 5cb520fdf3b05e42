-- The order of two texts (POSIX.1-2017, 7.3.2.3): the first level whose lists differ decides.
use Rattle.std.specs.Prelude.{◌≡◌, ℕ, false, List, [], ◌∷◌}
use Rattle.std.specs.Ordering.{nat_cmp, ordering_then}
use Rattle.std.specs.declared.cmp.Ordering.{Ordering}
use Rattle.std.specs.declared.cmp.Ordering.TheVariants.{Equal}
use Rattle.std.specs.Cmp.Lexicographic.{slice_cmp}
use Rattle.coll_syntax.specs.declared.rules.Rule.{Rule}
use Rattle.coll_nodes.specs.Table.{Collation}
use Rattle.coll_elements.specs.Elements.{elements_of}
use Rattle.coll_key.specs.LevelList.{level_lists_from}
use Rattle.coll_ranks.specs.WeightNumbers.{numbers_at}

-- the lists of a text, one for each level of a table
unfoldable pub level_lists : Collation → List ℕ → List (List ℕ)
level_lists table text = level_lists_from table.rules 0 (numbers_at table) (elements_of table text)

-- the order of two lists of numbers: that of a dictionary
abbrev pub list_order : List ℕ → List ℕ → Ordering
list_order = slice_cmp nat_cmp

-- the order of the first lists that differ
abbrev pub first_difference : (lists others : List (List ℕ)) → Ordering
first_difference [] others = Equal
first_difference (list ∷ lists) [] = Equal
first_difference (list ∷ lists) (other ∷ others) = ordering_then (list_order list other) (first_difference lists others)

-- the order of two texts
unfoldable pub order_of : Collation → (text other : List ℕ) → Ordering
order_of table text other = first_difference (level_lists table text) (level_lists table other)

-- the texts of a level are looked at from the front
abbrev pub IsForward : Rule → Type 0
IsForward rule = rule.backward ≡ false
