-- Look-ups of nodes: which node has a name, and which has an identifier.
use Rattle.std.specs.Prelude.{◌≡◌, ◌||◌, nat_eq, ℕ, Bool, true, if◌then◌else◌, cond, List, [], ◌∷◌, Option, None}
use Rattle.std.specs.List.{list_any}
use Rattle.coll_syntax.specs.Identifier.{same_name, same_id}
use Rattle.coll_syntax.specs.declared.identifiers.Id.{Id}
use Rattle.coll_syntax.specs.declared.identifiers.Id.TheVariants.{Char, Named, Undefined}
use Rattle.coll_order.specs.declared.places.NodeId.{NodeId}

-- a key of a look-up, and the node that it leads to; a key that leads to none stays, so that it needs no room later
pub record Leading (Key : Type 0) : Type 0 where
  pub key : Key
  pub node : Option NodeId

-- the node that a key leads to, where this says which keys are the same
abbrev pub node_at : {Key : Type 0} → (Key → Key → Bool) → List (Leading Key) → Key → Option NodeId
node_at same [] key = None
node_at same (first ∷ later) key = if same key first.key then first.node else node_at same later key

-- a key is there
abbrev pub is_key : {Key : Type 0} → (Key → Key → Bool) → List (Leading Key) → Key → Bool
is_key {Key} same leadings key = list_any (λ (leading : Leading Key). same key leading.key) leadings

-- the node that a name leads to
abbrev pub node_named : List (Leading (List ℕ)) → List ℕ → Option NodeId
node_named leadings name = node_at same_name leadings name

-- the node that a character leads to
abbrev pub node_of_char : List (Leading ℕ) → ℕ → Option NodeId
node_of_char leadings c = node_at nat_eq leadings c

-- the look-ups of identifiers: by name, by character, and the node of UNDEFINED
pub record NodesById : Type 0 where
  pub names : List (Leading (List ℕ))
  pub characters : List (Leading ℕ)
  pub undefined : Option NodeId

-- the node that an identifier leads to
abbrev pub node_with : NodesById → Id → Option NodeId
node_with nodes (Char c) = node_of_char nodes.characters c
node_with nodes (Named name) = node_named nodes.names name
node_with nodes Undefined = nodes.undefined

-- a name is a key
abbrev pub is_name_key : List (Leading (List ℕ)) → List ℕ → Bool
is_name_key leadings name = is_key same_name leadings name

-- a character is a key
abbrev pub is_char_key : List (Leading ℕ) → ℕ → Bool
is_char_key leadings c = is_key nat_eq leadings c

-- an identifier is a key; UNDEFINED always is one
abbrev pub is_id_key : NodesById → Id → Bool
is_id_key nodes (Char c) = is_char_key nodes.characters c
is_id_key nodes (Named name) = is_name_key nodes.names name
is_id_key nodes Undefined = true

-- no name leads to a node
abbrev pub no_nodes : NodesById
no_nodes = record { names = []; characters = []; undefined = None }

-- a name leads to this node now, and all others to where they led
abbrev pub SetsName : (old new : List (Leading (List ℕ))) → List ℕ → Option NodeId → Type 0
SetsName old new name node = (other : List ℕ) → node_named new other ≡ cond (same_name other name) node (node_named old other)

-- an identifier leads to this node now, and all others to where they led
abbrev pub SetsId : (old new : NodesById) → Id → Option NodeId → Type 0
SetsId old new id node = (other : Id) → node_with new other ≡ cond (same_id other id) node (node_with old other)

-- a name is a key now, and all others are keys where they were
abbrev pub AddsNameKey : (old new : List (Leading (List ℕ))) → List ℕ → Type 0
AddsNameKey old new name = (other : List ℕ) → is_name_key new other ≡ (same_name other name || is_name_key old other)

-- an identifier is a key now, and all others are keys where they were
abbrev pub AddsIdKey : (old new : NodesById) → Id → Type 0
AddsIdKey old new id = (other : Id) → is_id_key new other ≡ (same_id other id || is_id_key old other)

-- each name leads to where it led
abbrev pub LeadNamesAlike : (old new : List (Leading (List ℕ))) → Type 0
LeadNamesAlike old new = (other : List ℕ) → node_named new other ≡ node_named old other

-- each identifier leads to where it led
abbrev pub LeadAlike : (old new : NodesById) → Type 0
LeadAlike old new = (other : Id) → node_with new other ≡ node_with old other

-- the same names are keys
abbrev pub KeepNameKeys : (old new : List (Leading (List ℕ))) → Type 0
KeepNameKeys old new = (other : List ℕ) → is_name_key new other ≡ is_name_key old other

-- the same identifiers are keys
abbrev pub KeepIdKeys : (old new : NodesById) → Type 0
KeepIdKeys old new = (other : Id) → is_id_key new other ≡ is_id_key old other
