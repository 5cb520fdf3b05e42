-- Which symbol a name means as a second name, and where a second name doesn't stand (the project's own).
use Rattle.std.specs.Prelude.{◌≡◌, ℕ, true, false, List, Option, Some, None}
use Rattle.coll_syntax.specs.declared.identifiers.Id.{Id}
use Rattle.coll_nodes.specs.OwnNames.{is_second}
use Rattle.coll_nodes.specs.Table.{Collation, is_placed}
use Rattle.coll_nodes.specs.WellFormed.{IsWellFormed}
use Rattle.coll_nodes.specs.declared.declarations.Declaration.{Declaration}
use Rattle.coll_nodes.specs.declared.declarations.Declaration.TheVariants.{Symbol, Element, Equivalence}

-- the own name of the symbol that a declaration of a second name means, if there is such a declaration
abbrev pub symbol_meant : Option Declaration → Option (List ℕ)
symbol_meant None = None
symbol_meant (Some (Symbol name)) = None
symbol_meant (Some (Element name text)) = None
symbol_meant (Some (Equivalence name symbol)) = Some symbol

-- in a well-formed table no second name stands in a section: its symbol does, if anything
abbrev pub SecondNamesAreNotPlaced : Type 0
SecondNamesAreNotPlaced = (table : Collation) (id : Id) → IsWellFormed table → is_second table.declared id ≡ true
    → is_placed table id ≡ false
