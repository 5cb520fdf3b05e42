-- How the placed elements of a table are found among its declarations.
use Rattle.std.specs.Prelude.{◌≡◌, ◌<◌, ℕ, List, [], ◌∷◌, Option, Some, None, length}
use Rattle.coll_syntax.specs.declared.identifiers.Id.TheVariants.{Named}
use Rattle.coll_lookups.specs.NamePlaces.{NamePlacesValue, place_named}
use Rattle.coll_nodes.specs.Table.{Collation}
use Rattle.coll_nodes.specs.declared.declarations.Declaration.{Declaration}
use Rattle.coll_nodes.specs.declared.declarations.Declaration.TheVariants as declaration
use Rattle.coll_elements.specs.NamedElements.{ranked_element}
use Rattle.coll_elements.specs.Rank.{rank_of}
use Rattle.coll_elements.specs.RankedElements.{RankedElement}

-- the places of names are their ranks in a table
abbrev pub AreNameRanksOf : NamePlacesValue → Collation → Type 0
AreNameRanksOf places table = (name : List ℕ) → place_named places name ≡ rank_of table (Named name)

-- an element with its rank, if it has one
abbrev pub ranked_if_any : (name text : List ℕ) → Option ℕ → List RankedElement
ranked_if_any name text None = []
ranked_if_any name text (Some rank) = ranked_element name text rank ∷ []

-- the element of a declaration with its rank, if its name has one
abbrev pub ranked_declared : (rank : List ℕ → Option ℕ) → Declaration → List RankedElement
ranked_declared rank (declaration.Symbol name) = []
ranked_declared rank (declaration.Equivalence name symbol) = []
ranked_declared rank (declaration.Element name text) = ranked_if_any name text (rank name)

-- the string of a declaration, where there is one, has a character
abbrev pub HasString : Declaration → Type 0
HasString (declaration.Symbol name) = Unit {0}
HasString (declaration.Equivalence name symbol) = Unit {0}
HasString (declaration.Element name text) = 0 < length text
