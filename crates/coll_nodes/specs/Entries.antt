-- The entry that an order line places (POSIX.1-2017, 7.3.2.4).
use Rattle.std.specs.Prelude.{ℕ, Bool, true, false, if◌then◌else◌, ◌-◌, List, [], ◌∷◌, ◌++◌, Option, Some, None, map, length, replicate}
use Rattle.std.specs.List.{flat_map}
use Rattle.coll_syntax.specs.Identifier.{same_id}
use Rattle.coll_syntax.specs.declared.identifiers.Id.{Id}
use Rattle.coll_syntax.specs.declared.weights.Weight.{Weight}
use Rattle.coll_syntax.specs.declared.weights.Weight.TheVariants.{Ignore, Own, Names}
use Rattle.coll_syntax.specs.declared.statements.OrderLine.{OrderLine}
use Rattle.coll_nodes.specs.declared.declarations.Declaration.{Declaration}
use Rattle.coll_nodes.specs.declared.entries.Entry.{Entry}
use Rattle.coll_nodes.specs.Table.{is_symbol}

-- a weight is a list that names only this identifier
abbrev pub names_only : Id → Weight → Bool
names_only id Ignore = false
names_only id Own = false
names_only id (Names []) = false
names_only id (Names (only ∷ [])) = same_id id only
names_only id (Names (first ∷ second ∷ later)) = false

-- the weight that an entry keeps: a list that names only the entry is its own weight (the project's own rule)
abbrev pub kept_weight : Id → Weight → Weight
kept_weight id weight = if names_only id weight then Own else weight

-- the weights that an entry keeps: those given, and its own at each level behind them (the project's own rule)
abbrev pub kept_weights : (levels : ℕ) → Id → List Weight → List Weight
kept_weights levels id given = map (kept_weight id) given ++ replicate (levels - length given) Own

-- the weights that a line gives; one without weights gives none
abbrev pub given_weights : Option (List Weight) → List Weight
given_weights None = []
given_weights (Some weights) = weights

-- the weights of the entry of a line: none for a collating symbol
abbrev pub weights_of : (levels : ℕ) → (symbol : Bool) → OrderLine → List Weight
weights_of levels true line = []
weights_of levels false line = kept_weights levels line.id (given_weights line.weights)

-- the entry of an order line, where the table has so many levels and this is declared
abbrev pub entry_of : (levels : ℕ) → List Declaration → OrderLine → Entry
entry_of levels declared line = record { id = line.id; weights = weights_of levels (is_symbol declared line.id) line }

-- the identifiers that a weight names
abbrev pub weight_ids : Weight → List Id
weight_ids Ignore = []
weight_ids Own = []
weight_ids (Names ids) = ids

-- the identifiers that the weights of an entry name, in order
abbrev pub ids_named : Entry → List Id
ids_named entry = flat_map weight_ids entry.weights
