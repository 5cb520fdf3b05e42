-- What look-ups of nodes by name keep: names, and the nodes that they lead to.
use Rattle.std.specs.Prelude.{◌≡◌, ℕ, nat_lt, Bool, List, [], ◌∷◌, ◌++◌, Option, if◌then◌else◌, length, map, position, slice_set}
use Rattle.std.specs.List.{list_any}
use Rattle.std.specs.HashMap.{HashMap, get}
use Rattle.coll_order.specs.declared.places.NodeId.{NodeId}
use Rattle.coll_lookups.specs.NameKeys.{name_of_key, same_bytes}
use Rattle.coll_lookups.specs.NodeLookUps.{Leading}
use Rattle.coll_lookups.specs.declared.name_keys.NameKey.{NameKey}

-- the keys of entries as contracts see them, and where they lead
abbrev pub leads : {K Key : Type 0} → (K → Key) → List (K × Option NodeId) → List (Leading Key)
leads key entries = map (λ e. record { key = key e.0; node = e.1 }) entries

-- the names of entries, and where they lead
abbrev pub names_lead : List (NameKey × Option NodeId) → List (Leading (List ℕ))
names_lead entries = leads name_of_key entries

-- this holds of each key
abbrev pub AreKeys : {K : Type 0} → (K → Type 0) → List (K × Option NodeId) → Type 0
AreKeys good [] = Unit {0}
AreKeys good (e ∷ es) = good e.0 × AreKeys good es

-- the nodes, with one put at its place, or behind all others
abbrev pub node_put : List (Option NodeId) → ℕ → Option NodeId → List (Option NodeId)
node_put nodes place node = if nat_lt place (length nodes) then slice_set nodes place node else nodes ++ node ∷ []

-- a map tells the place of each of these names, and of no other
abbrev pub HasPlacesOf : {S : Type 0} → List NameKey → HashMap NameKey ℕ S → Type 0
HasPlacesOf keys places = (key : NameKey) → get same_bytes places key ≡ position (same_bytes key) keys

module _ {K : Type 0} (same : K → K → Bool) where
  -- keys with one more behind them, unless one is the same
  abbrev pub with_key : List K → K → List K
  with_key keys key = if list_any (same key) keys then keys else keys ++ key ∷ []

  -- entries with one more behind them, unless one has the same key, which then leads elsewhere
  abbrev pub with_entry : List (K × Option NodeId) → K → Option NodeId → List (K × Option NodeId)
  with_entry [] key node = (key, node) ∷ []
  with_entry (e ∷ es) key node = if same key e.0 then (e.0, node) ∷ es else e ∷ with_entry es key node
