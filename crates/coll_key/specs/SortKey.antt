-- The sort key of a text (the project's own): lists of numbers whose order is that of texts.
use Rattle.std.specs.Prelude.{◌≡◌, ℕ, List, [], ◌∷◌, ◌++◌}
use Rattle.std.specs.List.{flat_map}
use Rattle.coll_nodes.specs.Table.{Collation}
use Rattle.coll_nodes.specs.WellFormed.{IsWellFormed}
use Rattle.coll_key.specs.TextOrder.{level_lists, list_order, order_of}

-- the list of a level, with its end
abbrev pub ended : List ℕ → List ℕ
ended list = list ++ 0 ∷ []

-- the sort key of a text: the list of each level, followed by 0
unfoldable pub key_of : Collation → List ℕ → List ℕ
key_of table text = flat_map ended (level_lists table text)

-- keys are ordered as their texts are
abbrev pub KeysAreOrderedAsTexts : Type 0
KeysAreOrderedAsTexts = (table : Collation) → IsWellFormed table → (text other : List ℕ)
    → list_order (key_of table text) (key_of table other) ≡ order_of table text other
