-- The numbers of an identifier at a level: those of its weight there (POSIX.1-2017, 7.3.2.4; the numbers are the project's own).
use Rattle.std.specs.Prelude.{ℕ, ◌+◌, ◌*◌, if◌then◌else◌, List, [], ◌∷◌, Option, Some, None, length, map, replicate, slice_index_or}
use Rattle.coll_syntax.specs.declared.identifiers.Id.{Id}
use Rattle.coll_syntax.specs.declared.identifiers.Id.TheVariants.{Char, Named, Undefined}
use Rattle.coll_syntax.specs.declared.weights.Weight.{Weight}
use Rattle.coll_syntax.specs.declared.weights.Weight.TheVariants.{Ignore, Own, Names}
use Rattle.coll_nodes.specs.Placement.{entry_at}
use Rattle.coll_nodes.specs.Table.{Collation, entries_of, is_placed}
use Rattle.coll_nodes.specs.declared.entries.Entry.{Entry}
use Rattle.coll_elements.specs.Rank.{known_rank}

-- how far the numbers of two ranks lie apart, which is more than any code point: 2 to the power 21
abbrev pub rank_step : ℕ
rank_step = 2_097_152

-- the number of a rank
abbrev pub number_of : ℕ → ℕ
number_of rank = rank * rank_step

-- the weights of an entry, if there is one, or else these
abbrev pub weights_or : Option Entry → List Weight → List Weight
weights_or None others = others
weights_or (Some entry) others = entry.weights

-- the weights of UNDEFINED; where it isn't placed, it stands for itself at each level
abbrev pub undefined_weights : Collation → List Weight
undefined_weights table = weights_or (entry_at (entries_of table) Undefined) (replicate (length table.rules) Own)

-- the weights of an identifier; what has no entry takes those of UNDEFINED
abbrev pub weights_of : Collation → Id → List Weight
weights_of table id = weights_or (entry_at (entries_of table) id) (undefined_weights table)

-- the weight of an identifier at a level
abbrev pub weight_at : Collation → (level : ℕ) → Id → Weight
weight_at table level id = slice_index_or (weights_of table id) level Ignore

-- the code point of a character
abbrev pub code_point : Id → ℕ
code_point (Char c) = c
code_point (Named name) = 0
code_point Undefined = 0

-- the number of an identifier that stands for itself; without an entry it is that of UNDEFINED, and the code point is added
abbrev pub own_number : Collation → Id → ℕ
own_number table id =
    if is_placed table id then number_of (known_rank table id) else number_of (known_rank table Undefined) + code_point id

-- the numbers of a weight
abbrev pub weight_numbers : Collation → Id → Weight → List ℕ
weight_numbers table id Ignore = []
weight_numbers table id Own = own_number table id ∷ []
weight_numbers table id (Names ids) = map (λ named. number_of (known_rank table named)) ids

-- the numbers of an identifier at a level
unfoldable pub numbers_at : Collation → (level : ℕ) → Id → List ℕ
numbers_at table level id = weight_numbers table id (weight_at table level id)
