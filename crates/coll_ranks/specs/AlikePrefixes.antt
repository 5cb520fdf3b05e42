-- Lists that begin alike.
use Rattle.std.specs.Prelude.{◌≡◌, List, ◌++◌}

-- two lists go on with these, behind a prefix that both have
abbrev pub BeginAlike : {X : Type 0} → (xs ys later later_others : List X) → Type 0
BeginAlike {X} xs ys later later_others = (prefix : List X) × (xs ≡ prefix ++ later) × (ys ≡ prefix ++ later_others)
