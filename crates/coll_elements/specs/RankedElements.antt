-- Collating elements with their ranks.
use Rattle.std.specs.Prelude.{ℕ, if◌then◌else◌, List, [], ◌∷◌, Option, Some, None}
use Rattle.std.specs.Option.{option_or}
use Rattle.coll_syntax.specs.Identifier.{same_name}
use Rattle.coll_syntax.specs.declared.identifiers.Id.TheVariants.{Named}
use Rattle.coll_nodes.specs.Table.{Collation}
use Rattle.coll_elements.specs.Elements.{Element}
use Rattle.coll_elements.specs.Rank.{known_rank}

-- a collating element that is placed, and its rank
pub record RankedElement : Type 0 where
  pub element : Element
  pub rank : ℕ

-- the string of a ranked element
abbrev pub ranked_text : RankedElement → List ℕ
ranked_text ranked = ranked.element.text

-- the string of the last element of a name
abbrev pub last_string : List RankedElement → List ℕ → Option (List ℕ)
last_string [] name = None
last_string (first ∷ later) name =
    option_or (last_string later name) (if same_name name first.element.name then Some (ranked_text first) else None)

-- an element of a table with its rank
abbrev pub ranked_in : Collation → Element → RankedElement
ranked_in table element = record { element = element; rank = known_rank table (Named element.name) }
