-- Places of entries that follow a node which goes from one place to another.
use Rattle.std.specs.Prelude.{◌≡◌, ◌≤◌, ◌+◌, ◌-◌, ◌^◌, min, ℕ, suc, false, List, [], ◌∷◌, ◌++◌, Option, Some, None, length}
use Rattle.coll_order.specs.Lists.{has_node}
use Rattle.coll_order.specs.declared.places.NodeId.{NodeId}
use Rattle.coll_order.specs.declared.places.Place.{Place}
use Rattle.coll_order.specs.declared.places.Place.TheVariants.{Head, After}
use Rattle.coll_lookups.specs.EntryNumbers.{lowered, number_at}
use Rattle.coll_nodes.specs.declared.contents.Content.{Content}
use Rattle.coll_nodes.specs.declared.contents.Content.TheVariants as content

-- these nodes have numbers one after another, behind so many others
abbrev pub AreGiven : (NodeId → ℕ) → (before : ℕ) → List NodeId → Type 0
AreGiven number before [] = Unit {0}
AreGiven number before (first ∷ later) = (number first ≡ suc before) × AreGiven number (suc before) later

-- these nodes, which are no more than so many, have numbers from 1 on
pub record AreNumbered (numbers : List ℕ) (nodes : List NodeId) (most : ℕ) : Type 0 where
  pub given : AreGiven (number_at numbers) 0 nodes
  pub few : length nodes ≤ most

-- nodes without one that stood among them, if it stood somewhere
abbrev pub IsLeft : (had : Option Place) → NodeId → (old rest : List NodeId) → Type 0
IsLeft None node old rest = old ≡ rest
IsLeft (Some place) node old rest = (before : List NodeId) × (after : List NodeId) × (old ≡ before ++ node ∷ after)
    × (rest ≡ before ++ after)

-- nodes with one more directly after another, if it stands somewhere; where it stands first in a ring, nothing is said
abbrev pub IsTaken : (has : Option Place) → NodeId → (rest new : List NodeId) → Type 0
IsTaken None node rest new = new ≡ rest
IsTaken (Some (Head ring)) node rest new = Unit {0}
IsTaken (Some (After other)) node rest new = (before : List NodeId) × (after : List NodeId) × (rest ≡ before ++ other ∷ after)
    × (new ≡ before ++ other ∷ node ∷ after)

-- a node leaves a place among nodes, and then takes another
pub record GoesAmong (had has : Option Place) (node : NodeId) (old rest new : List NodeId) : Type 0 where
  pub apart : has_node rest node ≡ false
  pub left : IsLeft had node old rest
  pub taken : IsTaken has node rest new

-- what becomes of the nodes of entries where a node goes: nothing, unless it is that of an entry, or of a section, of which nothing
-- is said
abbrev pub NodeGoes : Option Content → (had has : Option Place) → NodeId → (old new : List NodeId) → Type 0
NodeGoes None had has node old new = Unit {0}
NodeGoes (Some (content.Declared declaration)) had has node old new = new ≡ old
NodeGoes (Some (content.Begun name ring)) had has node old new = Unit {0}
NodeGoes (Some (content.Placed entry)) had has node old new = (rest : List NodeId) × GoesAmong had has node old rest new

-- what becomes of them by an item; one that gets no place leaves its node where it stands
abbrev pub ItemGoesAmong : (gets : Option Place) → Option Content → (had has : Option Place) → NodeId → (old new : List NodeId) → Type 0
ItemGoesAmong None it had has node old new = new ≡ old
ItemGoesAmong (Some place) it had has node old new = NodeGoes it had has node old new

-- the place that a node leaves: its number, or one behind all
abbrev pub LeavesFrom : (had : Option Place) → (number from : ℕ) → Type 0
LeavesFrom None number from = from ≡ 2 ^ 32 - 1
LeavesFrom (Some place) number from = from ≡ number

-- the place that a node takes: one behind that of the other node, or one behind all
abbrev pub TakesTo : (has : Option Place) → (f : NodeId → ℕ) → (from to : ℕ) → Type 0
TakesTo None f from to = to ≡ 2 ^ 32 - 1
TakesTo (Some (Head ring)) f from to = ⊥
TakesTo (Some (After other)) f from to = to ≡ min (lowered from (f other) + 1) (2 ^ 32 - 1)
