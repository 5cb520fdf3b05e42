-- Tests of the members of a list.
use Rattle.std.proofs.Common.{◌≡◌, ◌||◌, Bool, List, [], ◌∷◌, map, refl, ap}
use Rattle.std.specs.List.{list_any}

-- a test of what members are made into is one of the members
pub any_made : {X Y : Type 0} (test : Y → Bool) (made : X → Y) (xs : List X) → list_any test (map made xs) ≡ list_any (λ x. test (made x)) xs
any_made test made [] = refl
any_made test made (x ∷ xs) = ap (λ rest. test (made x) || rest) (any_made test made xs)
