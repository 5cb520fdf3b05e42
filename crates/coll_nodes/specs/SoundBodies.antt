-- What holds of the body of a table: what stands in which ring, and what the look-ups find.
use Rattle.std.specs.Prelude.{◌≡◌, ◌==◌, ℕ, suc, ◌≤◌, ◌<◌, Bool, true, false, ◌&&◌, ◌||◌, List, []}
use Rattle.std.specs.Prelude.{◌∷◌, ◌++◌, Option, Some, None, map, length, slice_index_or}
use Rattle.std.specs.List.{flat_map, list_any}
use Rattle.coll_order.specs.Layout.{head_of, is_in, rings_with}
use Rattle.coll_order.specs.Lists.{same_place, has_node, end_of}
use Rattle.coll_order.specs.declared.places.NodeId.{NodeId}
use Rattle.coll_order.specs.declared.places.RingId.{RingId}
use Rattle.coll_order.specs.declared.places.Place.{Place}
use Rattle.coll_order.specs.declared.places.Place.TheVariants.{After}
use Rattle.coll_syntax.specs.declared.identifiers.Id.{Id}
use Rattle.coll_nodes.specs.Bodies.{Makes}
use Rattle.coll_nodes.specs.Table.{Section, name_of, text_of, named, ids_of}
use Rattle.coll_nodes.specs.TableLayout.{TableLayout, content_of, if_any, declaration_in, entry_in, sections_at}
use Rattle.coll_nodes.specs.declared.contents.Content.{Content}
use Rattle.coll_nodes.specs.declared.contents.Content.TheVariants as content
use Rattle.coll_nodes.specs.declared.declarations.Declaration.{Declaration}
use Rattle.coll_nodes.specs.declared.entries.Entry.{Entry}

-- the name that a node declares
abbrev pub names_in : Content → List (List ℕ)
names_in node = map name_of (declaration_in node)

-- the string of the collating element that a node declares
abbrev pub texts_in : Content → List (List ℕ)
texts_in node = flat_map text_of (declaration_in node)

-- the name of the section that a node is
abbrev pub section_names_in : Content → List (List ℕ)
section_names_in (content.Declared declaration) = []
section_names_in (content.Begun name ring) = named name
section_names_in (content.Placed entry) = []

-- the ring of the section that a node is
abbrev pub rings_in : Content → List RingId
rings_in (content.Declared declaration) = []
rings_in (content.Begun name ring) = ring ∷ []
rings_in (content.Placed entry) = []

-- the identifier of the entry that a node is
abbrev pub ids_in : Content → List Id
ids_in node = ids_of (entry_in node)

-- the declaration that a node is, if it is one
abbrev pub declaration_if : Content → Option Declaration
declaration_if (content.Declared declaration) = Some declaration
declaration_if (content.Begun name ring) = None
declaration_if (content.Placed entry) = None

-- the entry that a node is, if it is one
abbrev pub entry_if : Content → Option Entry
entry_if (content.Declared declaration) = None
entry_if (content.Begun name ring) = None
entry_if (content.Placed entry) = Some entry

-- two names are those of one ring
abbrev pub same_ring : RingId → RingId → Bool
same_ring a b = a.index == b.index

-- what is read of a node
abbrev pub read_at : {X : Type 0} → (Content → List X) → TableLayout → NodeId → List X
read_at keys layout node = flat_map keys (if_any (content_of layout node))

-- a node stands in a ring, and has this key
abbrev pub has_key : {Key : Type 0} → (Key → Key → Bool) → (Content → List Key) → TableLayout → Key → NodeId → Bool
has_key same keys layout key node = is_in layout.rings node && list_any (same key) (read_at keys layout node)

-- a look-up finds the nodes that stand in a ring, each by its key, and nothing else
pub record Finds {Key : Type 0} (same : Key → Key → Bool) (keys : Content → List Key) (layout : TableLayout) (find : Key
    → Option NodeId) : Type 0 where
  pub leads : (key : Key) (node : NodeId) → find key ≡ Some node → has_key same keys layout key node ≡ true
  pub finds : (key : Key) (node : NodeId) → has_key same keys layout key node ≡ true → find key ≡ Some node

-- the nodes of the ring with a number
abbrev pub ring_at : TableLayout → ℕ → List NodeId
ring_at layout index = slice_index_or layout.rings index []

-- a node is a declaration
abbrev pub IsDeclaration : Option Content → Type 0
IsDeclaration None = ⊥
IsDeclaration (Some (content.Declared declaration)) = Unit {0}
IsDeclaration (Some (content.Begun name ring)) = ⊥
IsDeclaration (Some (content.Placed entry)) = ⊥

-- a node is a section, whose ring is there and is neither that of the declarations nor that of the sections
abbrev pub IsSection : (rings : ℕ) → Option Content → Type 0
IsSection rings None = ⊥
IsSection rings (Some (content.Declared declaration)) = ⊥
IsSection rings (Some (content.Begun name ring)) = (2 ≤ ring.index) × (ring.index < rings)
IsSection rings (Some (content.Placed entry)) = ⊥

-- a node is an entry
abbrev pub IsEntry : Option Content → Type 0
IsEntry None = ⊥
IsEntry (Some (content.Declared declaration)) = ⊥
IsEntry (Some (content.Begun name ring)) = ⊥
IsEntry (Some (content.Placed entry)) = Unit {0}

-- the ring with a number is that of a section
abbrev pub IsOwned : TableLayout → ℕ → Type 0
IsOwned layout index = (section : NodeId) × (has_key same_ring rings_in layout (record { index = index }) section ≡ true)

-- the first ring has declarations, the second sections, and each other that has nodes is one section's and has entries
pub record IsShaped (layout : TableLayout) : Type 0 where
  pub two : 2 ≤ length layout.rings
  pub declared : (node : NodeId) → has_node (ring_at layout 0) node ≡ true → IsDeclaration (content_of layout node)
  pub begun : (node : NodeId) → has_node (ring_at layout 1) node ≡ true → IsSection (length layout.rings) (content_of layout node)
  pub placed : (index : ℕ) (node : NodeId) → has_node (ring_at layout (suc (suc index))) node ≡ true → IsEntry (content_of layout node)
      × IsOwned layout (suc (suc index))
  pub own : (ring : RingId) (a b : NodeId) → has_key same_ring rings_in layout ring a ≡ true → has_key same_ring rings_in layout ring b
      ≡ true → a ≡ b

-- a place is in a list that begins after another: it is the beginning, or after one of the nodes
abbrev pub is_place_of : Place → Place → List NodeId → Bool
is_place_of place start nodes = same_place place start || list_any (λ node. same_place place (After node)) nodes

-- a place is in the ring with a number
pub record IsPlaceIn (layout : TableLayout) (index : ℕ) (place : Place) : Type 0 where
  pub ring : index < length layout.rings
  pub on : is_place_of place (head_of index) (ring_at layout index) ≡ true

-- a place is in a section's ring
abbrev pub IsEntryPlace : TableLayout → Place → Type 0
IsEntryPlace layout place = (index : ℕ) × IsPlaceIn layout index place × IsOwned layout index

-- a node that was not there is put directly after a place, and nothing else changes
pub record Adds (old new : TableLayout) (node : NodeId) (content : Content) (place : Place) : Type 0 where
  pub makes : Makes old new node content
  pub apart : is_in old.rings node ≡ false
  pub rings : new.rings ≡ rings_with place node 0 old.rings

-- a layout with one more ring, which has no nodes
abbrev pub with_empty_ring : TableLayout → TableLayout
with_empty_ring layout = record layout { rings = layout.rings ++ [] ∷ [] }

-- the place behind the last node of a ring
abbrev pub end_in : TableLayout → ℕ → Place
end_in layout index = end_of (head_of index) (ring_at layout index)

-- the section that is the last, and its ring
pub record IsLastSection (layout : TableLayout) (section : NodeId) (name : Option (List ℕ)) (ring : RingId) : Type 0 where
  pub last : (prefix : List NodeId) × (ring_at layout 1 ≡ prefix ++ section ∷ [])
  pub begun : content_of layout section ≡ Some (content.Begun name ring)

-- the place behind the last entry of the last section
abbrev pub IsLastEnd : TableLayout → Place → Type 0
IsLastEnd layout place = (section : NodeId) × (name : Option (List ℕ)) × (ring : RingId) × IsLastSection layout section name ring
    × (place ≡ end_in layout ring.index)

-- each of these sections has a name
abbrev pub HaveNames : List Section → Type 0
HaveNames [] = Unit {0}
HaveNames (section ∷ later) = ((name : List ℕ) × (section.name ≡ Some name)) × HaveNames later

-- the first section alone has no name
abbrev pub FirstAloneUnnamed : List Section → Type 0
FirstAloneUnnamed [] = ⊥
FirstAloneUnnamed (first ∷ later) = (first.name ≡ None) × HaveNames later

-- places behind the last section, and the last entry of that
pub record IsSoundBuilder (layout : TableLayout) (sections_end entries_end : Place) : Type 0 where
  pub sections : sections_end ≡ end_in layout 1
  pub entries : IsLastEnd layout entries_end
  pub unnamed : FirstAloneUnnamed (sections_at layout)
