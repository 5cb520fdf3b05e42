-- The items of a level in its direction are those of its elements, each in this direction.
use Rattle.std.proofs.Common.{◌≡◌, ℕ, Bool, true, false, List, [], ◌∷◌, ◌++◌, length, map, reverse, Some, refl, sym, ap, ◌∙◌, append-nil}
use Rattle.std.proofs.lemmas.Grind.{flat_map-append}
use Rattle.std.proofs.lemmas.List.{reverse-append, map-append, length-reverse}
use Rattle.coll_key.specs.LevelList.{items_of, items, directed}

-- the numbers of an element in the direction of a level
abbrev pub directed_numbers : {P : Type 0} → (backward : Bool) → (P → List ℕ) → P → List ℕ
directed_numbers backward numbers element = directed backward (numbers element)

-- mapping and reversing
pub map-reverse : {X Y : Type 0} (f : X → Y) (xs : List X) → map f (reverse xs) ≡ reverse (map f xs)
map-reverse f [] = refl
map-reverse f (x ∷ xs) =
    ap (map f) (reverse-append (x ∷ []) xs)
    ∙ map-append f (reverse xs) (x ∷ [])
    ∙ ap (λ ys. ys ++ f x ∷ []) (map-reverse f xs)
    ∙ sym (reverse-append (f x ∷ []) (map f xs))

-- mapping in a direction
pub map-directed : {X Y : Type 0} (f : X → Y) (b : Bool) (xs : List X) → map f (directed b xs) ≡ directed b (map f xs)
map-directed f true xs = map-reverse f xs
map-directed f false xs = refl

-- a direction keeps the length
pub length-directed : {X : Type 0} (b : Bool) (xs : List X) → length (directed b xs) ≡ length xs
length-directed true xs = length-reverse xs
length-directed false xs = refl

-- the items of numbers of which there are some
items_of_some : (ns : List ℕ) (n : ℕ) → items_of (ns ++ n ∷ []) ≡ map Some (ns ++ n ∷ [])
items_of_some [] n = refl
items_of_some (m ∷ ns) n = refl

-- the items of an element, reversed
items_of-reverse : (ns : List ℕ) → reverse (items_of ns) ≡ items_of (reverse ns)
items_of-reverse [] = refl
items_of-reverse (n ∷ ns) =
    sym (map-reverse Some (n ∷ ns))
    ∙ ap (map Some) (reverse-append (n ∷ []) ns)
    ∙ sym (items_of_some (reverse ns) n)
    ∙ ap items_of (sym (reverse-append (n ∷ []) ns))

-- the items of all elements, reversed
items-reverse : {P : Type 0} (f : P → List ℕ) (ps : List P) → reverse (items f ps) ≡ items (directed_numbers true f) (reverse ps)
items-reverse f [] = refl
items-reverse f (p ∷ ps) =
    reverse-append (items_of (f p)) (items f ps)
    ∙ ap (λ xs. xs ++ reverse (items_of (f p))) (items-reverse f ps)
    ∙ ap (λ xs. items (directed_numbers true f) (reverse ps) ++ xs) (items_of-reverse (f p) ∙ sym (append-nil (items_of (reverse (f p)))))
    ∙ sym (flat_map-append (λ q. items_of (directed_numbers true f q)) (reverse ps) (p ∷ []))
    ∙ ap (items (directed_numbers true f)) (sym (reverse-append (p ∷ []) ps))

-- the items of a level in its direction
pub items-directed : {P : Type 0} (b : Bool) (f : P → List ℕ) (ps : List P) → directed b (items f ps) ≡ items (directed_numbers b f) (directed b ps)
items-directed true f ps = items-reverse f ps
items-directed false f ps = refl
