-- A declaration, looked for by its name.
use Rattle.std.specs.Prelude.{◌≡◌, Bool, List, ◌∷◌, ◌++◌}
use Rattle.coll_nodes.specs.Table.{name_of}
use Rattle.coll_nodes.specs.declared.declarations.Declaration.{Declaration}
use Rattle.coll_differences.specs.Orders.{Mark, Declares}
use Rattle.coll_differences.specs.Sameness.{same_declaration}

-- a point declares the name of a declaration, and this is whether it is that one
abbrev pub IsTold : Mark → Declaration → Bool → Type 0
IsTold mark declaration same =
    (there : Declaration) × (mark ≡ Declares there) × (name_of there ≡ name_of declaration) × (same ≡ same_declaration declaration there)

-- so does one of these points
abbrev pub TellsNamed : List Mark → Declaration → Bool → Type 0
TellsNamed marks declaration same =
    (before : List Mark) × (mark : Mark) × (later : List Mark) × (marks ≡ before ++ mark ∷ later) × IsTold mark declaration same
