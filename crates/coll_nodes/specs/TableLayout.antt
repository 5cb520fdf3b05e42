-- The layout of a table: rings of nodes, what each node is, and the table that they stand for.
use Rattle.std.specs.Prelude.{ℕ, if◌then◌else◌, List, [], ◌∷◌, Option, Some, None, slice_index_or}
use Rattle.std.specs.List.{flat_map}
use Rattle.coll_order.specs.Lists.{same_node}
use Rattle.coll_order.specs.declared.places.NodeId.{NodeId}
use Rattle.coll_order.specs.declared.places.RingId.{RingId}
use Rattle.coll_syntax.specs.declared.rules.Rule.{Rule}
use Rattle.coll_nodes.specs.Table.{Collation, Section}
use Rattle.coll_nodes.specs.declared.declarations.Declaration.{Declaration}
use Rattle.coll_nodes.specs.declared.entries.Entry.{Entry}
use Rattle.coll_nodes.specs.declared.contents.Content.{Content}
use Rattle.coll_nodes.specs.declared.contents.Content.TheVariants as content

-- a node that is there, linked or loose, and what it is
pub record MadeNode : Type 0 where
  pub node : NodeId
  pub content : Content

-- the nodes of each ring, by the ring's number, and what each node is: one ring has the declarations, one the sections, and
-- each section has one with its entries
pub record TableLayout : Type 0 where
  pub rings : List (List NodeId)
  pub nodes : List MadeNode

-- a table as contracts see it: its rules, its layout, and the number of ring steps taken
pub record TableValue : Type 0 where
  pub rules : List Rule
  pub layout : TableLayout
  pub steps : ℕ

-- the ring of the declarations
abbrev pub declarations_ring : RingId
declarations_ring = record { index = 0 }

-- the ring of the sections
abbrev pub sections_ring : RingId
sections_ring = record { index = 1 }

-- what a node is, among these
abbrev pub content_among : List MadeNode → NodeId → Option Content
content_among [] node = None
content_among (first ∷ later) node = if same_node node first.node then Some first.content else content_among later node

-- what a node of a layout is
abbrev pub content_of : TableLayout → NodeId → Option Content
content_of layout node = content_among layout.nodes node

-- the nodes of a ring, in order
abbrev pub nodes_in : TableLayout → RingId → List NodeId
nodes_in layout ring = slice_index_or layout.rings ring.index []

-- at most one
abbrev pub if_any : {X : Type 0} → Option X → List X
if_any None = []
if_any (Some x) = x ∷ []

-- what the nodes of a ring are, in order
abbrev pub contents_in : TableLayout → RingId → List Content
contents_in layout ring = flat_map (λ node. if_any (content_of layout node)) (nodes_in layout ring)

-- the declaration that a node is
abbrev pub declaration_in : Content → List Declaration
declaration_in (content.Declared declaration) = declaration ∷ []
declaration_in (content.Begun name ring) = []
declaration_in (content.Placed entry) = []

-- the entry that a node is
abbrev pub entry_in : Content → List Entry
entry_in (content.Declared declaration) = []
entry_in (content.Begun name ring) = []
entry_in (content.Placed entry) = entry ∷ []

-- the entries that stand in a ring
abbrev pub entries_in : TableLayout → RingId → List Entry
entries_in layout ring = flat_map entry_in (contents_in layout ring)

-- the section that a node is, with the entries in its ring
abbrev pub section_in : TableLayout → Content → List Section
section_in layout (content.Declared declaration) = []
section_in layout (content.Begun name ring) = record { name = name; entries = entries_in layout ring } ∷ []
section_in layout (content.Placed entry) = []

-- what a layout declares
unfoldable pub declared_at : TableLayout → List Declaration
declared_at layout = flat_map declaration_in (contents_in layout declarations_ring)

-- the sections of a layout
unfoldable pub sections_at : TableLayout → List Section
sections_at layout = flat_map (section_in layout) (contents_in layout sections_ring)

-- the table that a value stands for: clauses of public calls read a table through this word; those on records and on the
-- count of steps speak of the whole value
unfoldable pub collation : TableValue → Collation
collation table = record { rules = table.rules; declared = declared_at table.layout; sections = sections_at table.layout }
