-- Where a walk stands: what is left of a ring from a node on, and what has to hold of nodes that are visited.
use Rattle.std.specs.Prelude.{◌≡◌, ◌<◌, ℕ, true, if◌then◌else◌, List, [], ◌∷◌, ◌++◌, Option, Some, None, length, map, slice_index_or}
use Rattle.std.specs.List.{flat_map}
use Rattle.coll_order.specs.Lists.{same_node, has_node, first_in}
use Rattle.coll_order.specs.declared.places.NodeId.{NodeId}
use Rattle.coll_order.specs.declared.places.RingId.{RingId}
use Rattle.coll_nodes.specs.Bodies.{IsLaidOut}
use Rattle.coll_nodes.specs.TableLayout.{TableLayout, content_of, nodes_in, if_any, declarations_ring}
use Rattle.coll_nodes.specs.TableLayout.{sections_ring, declaration_in, entry_in, section_in}
use Rattle.coll_nodes.specs.Walks.{Visited, VisitedEntry, visited}
use Rattle.coll_nodes.specs.declared.declarations.Declaration.{Declaration}
use Rattle.coll_nodes.specs.declared.entries.Entry.{Entry}
use Rattle.coll_nodes.specs.declared.contents.Content.{Content}
use Rattle.coll_nodes.specs.declared.contents.Content.TheVariants.{Declared, Begun, Placed}

-- what stands directly after a node in its ring
abbrev pub ComesNext : List (List NodeId) → NodeId → Option NodeId → Type 0
ComesNext rings node next =
    (ring : ℕ) (prefix rest : List NodeId) → slice_index_or rings ring [] ≡ prefix ++ node ∷ rest → next ≡ first_in rest

-- a list from a node on
abbrev pub from_node : List NodeId → NodeId → List NodeId
from_node [] node = []
from_node (first ∷ rest) node = if same_node node first then first ∷ rest else from_node rest node

-- what is left of a ring, if this node is the next
abbrev pub left_of : TableLayout → RingId → Option NodeId → List NodeId
left_of layout ring None = []
left_of layout ring (Some node) = from_node (nodes_in layout ring) node

-- the next node, if there is one, stands in this ring
abbrev pub StandsIfAny : TableLayout → RingId → Option NodeId → Type 0
StandsIfAny layout ring None = Unit {0}
StandsIfAny layout ring (Some node) = has_node (nodes_in layout ring) node ≡ true

-- each of these nodes is a declaration
abbrev pub AreDeclared : TableLayout → List NodeId → Type 0
AreDeclared layout [] = Unit {0}
AreDeclared layout (node ∷ nodes) = ((declaration : Declaration) × (content_of layout node ≡ Some (Declared declaration)))
    × AreDeclared layout nodes

-- each of these nodes is an entry
abbrev pub ArePlaced : TableLayout → List NodeId → Type 0
ArePlaced layout [] = Unit {0}
ArePlaced layout (node ∷ nodes) = ((entry : Entry) × (content_of layout node ≡ Some (Placed entry))) × ArePlaced layout nodes

-- a node is a section of this name, with a ring of entries
abbrev pub IsSectionNode : TableLayout → NodeId → Option (List ℕ) → Type 0
IsSectionNode layout node name =
    (ring : RingId) × (content_of layout node ≡ Some (Begun name ring)) × (ring.index < length layout.rings)
    × ArePlaced layout (nodes_in layout ring)

-- each of these nodes is a section with a name
abbrev pub AreNamed : TableLayout → List NodeId → Type 0
AreNamed layout [] = Unit {0}
AreNamed layout (node ∷ nodes) = ((name : List ℕ) × IsSectionNode layout node (Some name)) × AreNamed layout nodes

-- these nodes are sections, of which the first alone has no name
abbrev pub AreSections : TableLayout → List NodeId → Type 0
AreSections layout [] = ⊥
AreSections layout (node ∷ nodes) = IsSectionNode layout node None × AreNamed layout nodes

-- what these nodes are
abbrev pub contents_of : TableLayout → List NodeId → List Content
contents_of layout nodes = flat_map (λ node. if_any (content_of layout node)) nodes

-- a layout has sections, of which the first alone has no name
pub record HasSections (layout : TableLayout) : Type 0 where
  pub ring : sections_ring.index < length layout.rings
  pub sections : AreSections layout (nodes_in layout sections_ring)

-- a layout has declarations
pub record HasDeclarations (layout : TableLayout) : Type 0 where
  pub ring : declarations_ring.index < length layout.rings
  pub declared : AreDeclared layout (nodes_in layout declarations_ring)

-- what is visited of these entries, and then of these sections
abbrev pub visited_at : TableLayout → (entries sections : List NodeId) → List Visited
visited_at layout entries sections =
    map VisitedEntry (flat_map entry_in (contents_of layout entries))
    ++ visited (flat_map (section_in layout) (contents_of layout sections))

-- what is left of a walk, by the next entry of a ring and the next section
abbrev pub visited_left : TableLayout → RingId → (entry section : Option NodeId) → List Visited
visited_left layout ring entry section = visited_at layout (left_of layout ring entry) (left_of layout sections_ring section)

-- a walk stands in a layout
pub record IsOnWay (layout : TableLayout) (ring : RingId) (entry section : Option NodeId) : Type 0 where
  pub laid : IsLaidOut layout
  pub entry_there : StandsIfAny layout ring entry
  pub section_there : StandsIfAny layout sections_ring section
  pub entries : ArePlaced layout (left_of layout ring entry)
  pub sections : AreNamed layout (left_of layout sections_ring section)

-- the declarations that are left, by the next
abbrev pub declared_left : TableLayout → Option NodeId → List Declaration
declared_left layout next = flat_map declaration_in (contents_of layout (left_of layout declarations_ring next))

-- so does a walk through declarations
pub record IsOnWayDeclared (layout : TableLayout) (next : Option NodeId) : Type 0 where
  pub laid : IsLaidOut layout
  pub there : StandsIfAny layout declarations_ring next
  pub declared : AreDeclared layout (left_of layout declarations_ring next)
