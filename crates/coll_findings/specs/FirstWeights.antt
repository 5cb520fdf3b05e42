-- What an entry weighs as at the first level, and whether the entry of a line doesn't sort where it stands (the project's own).
use Rattle.std.specs.Prelude.{Bool, true, false, not, ◌||◌, ◌&&◌, if◌then◌else◌, List, [], ◌∷◌, Option, Some, None, is_some}
use Rattle.coll_syntax.specs.Identifier.{same_id}
use Rattle.coll_syntax.specs.declared.identifiers.Id.{Id}
use Rattle.coll_syntax.specs.declared.statements.OrderLine.{OrderLine}
use Rattle.coll_syntax.specs.declared.weights.Weight.{Weight}
use Rattle.coll_syntax.specs.declared.weights.Weight.TheVariants.{Ignore, Own, Names}
use Rattle.coll_nodes.specs.Beside.{entry_before, entry_behind, first_of}
use Rattle.coll_nodes.specs.Placement.{entry_at}
use Rattle.coll_nodes.specs.declared.entries.Entry.{Entry}

-- the first identifier that the first of these weights names, if it names one
abbrev pub first_named : List Weight → Option Id
first_named [] = None
first_named (Ignore ∷ later) = None
first_named (Own ∷ later) = None
first_named (Names ids ∷ later) = first_of ids

-- an identifier, if it is another than this one
abbrev pub other_than : Id → Option Id → Option Id
other_than own None = None
other_than own (Some id) = if same_id id own then None else Some id

-- what an entry weighs as at the first level, if there is one, and its weight there begins with another than itself
abbrev pub first_weight : Option Entry → Option Id
first_weight None = None
first_weight (Some entry) = other_than entry.id (first_named entry.weights)

-- an identifier, or another one where there is none
abbrev pub or_other : Option Id → Id → Id
or_other None other = other
or_other (Some id) other = id

-- what an entry weighs as at the first level: another, with which its weight there begins, or itself
abbrev pub weighs_as : Entry → Id
weighs_as entry = or_other (first_weight (Some entry)) entry.id

-- these weights ignore their entry at the first level
abbrev pub ignores_first : List Weight → Bool
ignores_first [] = false
ignores_first (Ignore ∷ later) = true
ignores_first (Own ∷ later) = false
ignores_first (Names ids ∷ later) = false

-- an entry, if there is one, weighs as this identifier
abbrev pub weighs_so : Id → Option Entry → Bool
weighs_so id None = false
weighs_so id (Some entry) = same_id id (weighs_as entry)

-- an entry, or, where it weighs as this identifier, the one directly before it
abbrev pub past : List Entry → (weight : Id) → Option Entry → Option Entry
past entries weight None = None
past entries weight (Some entry) = if same_id weight (weighs_as entry) then entry_before entries entry.id else Some entry

-- an entry, or the one before it past up to four that weigh as this identifier
abbrev pub past_four : List Entry → (weight : Id) → Option Entry → Option Entry
past_four entries weight entry = past entries weight (past entries weight (past entries weight (past entries weight entry)))

-- the entry that stands before that of an identifier, past up to eight that weigh as it
abbrev pub lead_of : List Entry → Id → Option Entry
lead_of entries id = past_four entries id (past_four entries id (entry_before entries id))

-- what stands directly behind `before`, if something does, is `weight`; or it weighs as another, and what leads to `weight` weighs as
-- `before`
abbrev pub leads_to : List Entry → (before weight : Id) → (next : Option Entry) → Bool
leads_to entries before weight None = false
leads_to entries before weight (Some next) =
    same_id weight next.id || (is_some (first_weight (Some next)) && weighs_so before (lead_of entries weight))

-- what weighs as `weight` sorts as what weighs as `before` at the first level, or behind it with nothing between
abbrev pub comes_behind : List Entry → (before weight : Id) → Bool
comes_behind entries before weight = same_id weight before || leads_to entries before weight (entry_behind entries before)

-- an entry, if there is one, weighs something at the first level, and that doesn't come behind what another one weighs
abbrev pub is_apart : List Entry → (entry before : Option Entry) → Bool
is_apart entries None before = false
is_apart entries (Some entry) None = false
is_apart entries (Some entry) (Some before) =
    not (ignores_first entry.weights || comes_behind entries (weighs_as before) (weighs_as entry))

-- the entry of an identifier doesn't sort behind what stands before it
abbrev pub sorts_elsewhere : List Entry → Id → Bool
sorts_elsewhere entries id = is_apart entries (entry_at entries id) (lead_of entries id)

-- there are no weights
abbrev pub none_given : List Weight → Bool
none_given [] = true
none_given (weight ∷ later) = false

-- there is an entry, and it has no weights, as that of a collating symbol
abbrev pub is_bare : Option Entry → Bool
is_bare None = false
is_bare (Some entry) = none_given entry.weights

-- there is such a weight, and its entry has none itself
abbrev pub is_symbol_there : List Entry → (weight : Option Id) → Bool
is_symbol_there entries None = false
is_symbol_there entries (Some id) = is_bare (entry_at entries id)

-- what weighs as this, or else as itself, seems to sort behind another entry: this weighs as another itself, or else that entry weighs
-- as a symbol
abbrev pub seems_by : List Entry → (weight : Option Id) → (before : Option Entry) → Bool
seems_by entries None before = is_symbol_there entries (first_weight before)
seems_by entries (Some id) before = is_some (first_weight (entry_at entries id))

-- an entry, if there is one, seems to sort behind another one
abbrev pub seems_to_sort : List Entry → (entry before : Option Entry) → Bool
seems_to_sort entries None before = false
seems_to_sort entries (Some entry) before = seems_by entries (first_weight (Some entry)) before

-- a line whose entry doesn't sort where it stands, and seems to, since it gives no weights or by those that it gives
abbrev pub is_misplaced : List Entry → OrderLine → Bool
is_misplaced entries line =
    (not (is_some line.weights) || seems_to_sort entries (entry_at entries line.id) (lead_of entries line.id))
    && sorts_elsewhere entries line.id
