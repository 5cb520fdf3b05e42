-- The list of a level: the numbers of a text's elements, in the order of the level (POSIX.1-2017, 7.3.2.3; the numbers are the
-- project's own).
use Rattle.std.specs.Prelude.{ℕ, suc, Bool, true, false, List, [], ◌∷◌, ◌++◌, Option, Some, None, map, reverse}
use Rattle.std.specs.List.{flat_map}
use Rattle.coll_syntax.specs.declared.rules.Rule.{Rule}

-- the numbers of an element as items of a sequence; where it has none it is a gap
abbrev pub items_of : List ℕ → List (Option ℕ)
items_of [] = None ∷ []
items_of (n ∷ ns) = map Some (n ∷ ns)

-- the items of all elements, in order, where this gives the numbers of one
abbrev pub items : {P : Type 0} → (P → List ℕ) → List P → List (Option ℕ)
items numbers elements = flat_map (λ element. items_of (numbers element)) elements

-- `backward` reverses the whole sequence, and so the numbers of an element too (7.3.2.3)
abbrev pub directed : {X : Type 0} → (backward : Bool) → List X → List X
directed true sequence = reverse sequence
directed false sequence = sequence

-- what stands before a number: with `position`, one more than the gaps before it (7.3.2.3)
abbrev pub position_of : (position : Bool) → (gaps : ℕ) → List ℕ
position_of true gaps = suc gaps ∷ []
position_of false gaps = []

-- the numbers of a sequence, each behind its position, where so many gaps came since the last one
abbrev pub listed : (position : Bool) → (gaps : ℕ) → List (Option ℕ) → List ℕ
listed position gaps [] = []
listed position gaps (None ∷ sequence) = listed position (suc gaps) sequence
listed position gaps (Some n ∷ sequence) = position_of position gaps ++ n ∷ listed position 0 sequence

-- the list of a level with this rule, where this gives the numbers of an element
abbrev pub level_list : {P : Type 0} → Rule → (P → List ℕ) → List P → List ℕ
level_list rule numbers elements = listed rule.position 0 (directed rule.backward (items numbers elements))

-- the lists of levels with these rules, from a level on
abbrev pub level_lists_from : {P : Type 0} → List Rule → (level : ℕ) → (ℕ → P → List ℕ) → List P → List (List ℕ)
level_lists_from [] level numbers elements = []
level_lists_from (rule ∷ rules) level numbers elements =
    level_list rule (numbers level) elements ∷ level_lists_from rules (suc level) numbers elements
