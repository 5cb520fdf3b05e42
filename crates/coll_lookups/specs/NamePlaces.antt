-- The places of names, as numbers of their nodes.
use Rattle.std.specs.Prelude.{ℕ, List, Option}
use Rattle.std.specs.Option.{option_map}
use Rattle.coll_lookups.specs.NodeLookUps.{Leading, node_named}
use Rattle.coll_lookups.specs.EntryNumbers.{number_at}

-- the node of each name, and the number of each node
pub record NamePlacesValue : Type 0 where
  pub names : List (Leading (List ℕ))
  pub numbers : List ℕ

-- the place of a name
abbrev pub place_named : NamePlacesValue → List ℕ → Option ℕ
place_named places name = option_map (number_at places.numbers) (node_named places.names name)
