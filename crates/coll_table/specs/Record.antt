-- What undoes a statement and does it again: a record, when it fits a table, and the table that it turns that into.
use Rattle.std.specs.Prelude.{◌≡◌, ℕ, ◌+◌, ◌%◌, ◌^◌, ◌≤◌, Bool, true, false, not, if◌then◌else◌, List}
use Rattle.std.specs.Prelude.{[], ◌∷◌, ◌++◌, Option, Some, None, IsSome, length, map}
use Rattle.coll_order.specs.Layout.{is_in}
use Rattle.coll_order.specs.Lists.{has_node}
use Rattle.coll_order.specs.Sound.{AreDistinct}
use Rattle.coll_order.specs.declared.places.NodeId.{NodeId}
use Rattle.coll_order.specs.declared.places.Place.{Place}
use Rattle.coll_syntax.specs.declared.statements.OrderLine.{OrderLine}
use Rattle.coll_syntax.specs.declared.statements.Statement.{Statement}
use Rattle.coll_syntax.specs.declared.statements.Statement.TheVariants as statement
use Rattle.coll_nodes.specs.Bodies.{IsLooseNode}
use Rattle.coll_nodes.specs.Linking.{nodes_without}
use Rattle.coll_nodes.specs.Table.{Collation, is_placed}
use Rattle.coll_nodes.specs.TableLayout.{TableLayout, TableValue, collation, content_of}
use Rattle.coll_table.specs.OwnStatements.{own_statement}
use Rattle.coll_table.specs.Turning.{turned_back, turned_on, items_back, items_on, CanTurnBack, CanTurnOn}
use Rattle.coll_nodes.specs.WellFormed.{IsWellFormed}
use Rattle.coll_nodes.specs.declared.contents.Content.{Content}
use Rattle.coll_table.specs.declared.records.Item.{Item}
use Rattle.coll_table.specs.declared.records.Record.{Record}

-- the layout that turning makes: items in force are taken back, and undone ones are done
abbrev pub turned_layout : (undone : Bool) → TableLayout → List Item → TableLayout
turned_layout undone layout items = if undone then turned_on layout items else turned_back layout items

-- the table that turning a record makes of a table; its ring steps are counted apart
unfoldable pub turn : TableValue → Record → TableValue
turn table kept = record table { layout = turned_layout kept.undone table.layout kept.items }

-- the items once they are turned
abbrev pub turned_items : (undone : Bool) → TableLayout → List Item → List Item
turned_items undone layout items = if undone then items_on layout items else items_back layout items

-- the record once it was turned on a table: what was in force is undone, and the other way round
unfoldable pub turned : TableValue → Record → Record
turned table kept = record { undone = not kept.undone; items = turned_items kept.undone table.layout kept.items }

-- each item can be turned at its moment
abbrev pub CanTurn : (undone : Bool) → TableLayout → List Item → Type 0
CanTurn true layout items = CanTurnOn layout items
CanTurn false layout items = CanTurnBack layout items

-- a record fits a table: it has at most 4,096 items, each can be turned at its moment, and the table that results is well formed
pub record Fits (table : TableValue) (kept : Record) : Type 0 where
  pub few : length kept.items ≤ 4096
  pub goes : CanTurn kept.undone table.layout kept.items
  pub well_formed : IsWellFormed (collation (turn table kept))

-- two tables are the same but for their counts of ring steps
pub record IsSame (table other : TableValue) : Type 0 where
  pub rules : table.rules ≡ other.rules
  pub layout : table.layout ≡ other.layout

-- each node of a layout is one of another, and is the same there
abbrev pub HasNodesOf : TableLayout → TableLayout → Type 0
HasNodesOf wide layout = (node : NodeId) (it : Content) → content_of layout node ≡ Some it → content_of wide node ≡ Some it

-- a table is another one, and may have nodes more, which are loose
pub record Extends (wide table : TableValue) : Type 0 where
  pub rules : wide.rules ≡ table.rules
  pub rings : wide.layout.rings ≡ table.layout.rings
  pub nodes : HasNodesOf wide.layout table.layout

-- each loose node stays loose, and what it was
abbrev pub KeepsLoose : (old new : TableLayout) → Type 0
KeepsLoose old new = (node : NodeId) (it : Content) → is_in old.rings node ≡ false → content_of old node ≡ Some it
    → (is_in new.rings node ≡ false) × (content_of new node ≡ Some it)

-- the nodes that items name
abbrev pub named_nodes : List Item → List NodeId
named_nodes items = map (λ (item : Item). item.node) items

-- items name nodes of a layout, whether these stand in its rings or are loose
abbrev pub NameNodesOf : TableLayout → List Item → Type 0
NameNodesOf layout items = (node : NodeId) → has_node (named_nodes items) node ≡ true → IsSome (content_of layout node)

-- the node that an item added: one that stood nowhere before
abbrev pub added_by : (had gets : Option Place) → NodeId → List NodeId
added_by None None node = []
added_by None (Some place) node = node ∷ []
added_by (Some place) gets node = []

-- the same, of a whole item
abbrev pub item_added : Item → List NodeId
item_added item = added_by item.old item.new item.node

-- the nodes that items added
unfoldable pub added_nodes : List Item → List NodeId
added_nodes [] = []
added_nodes (item ∷ items) = item_added item ++ added_nodes items

-- the nodes that nobody needs any more once a record is given up: those that an undone one would put in again
abbrev pub dropped_nodes : Record → List NodeId
dropped_nodes kept = if kept.undone then added_nodes kept.items else []

-- these nodes stand in no ring, and each is named once
pub record AreLoose (layout : TableLayout) (nodes : List NodeId) : Type 0 where
  pub loose : (node : NodeId) → has_node nodes node ≡ true → IsLooseNode layout node
  pub once : AreDistinct nodes

-- a layout without some loose nodes
abbrev pub without_loose : TableLayout → List NodeId → TableLayout
without_loose layout nodes = record layout { nodes = nodes_without nodes layout.nodes }

-- a table without some loose nodes
unfoldable pub without_nodes : TableValue → List NodeId → TableValue
without_nodes table nodes = record table { layout = without_loose table.layout nodes }

-- a count of ring steps with more steps, modulo 2 to the power 64
abbrev pub more_steps : ℕ → ℕ → ℕ
more_steps steps more = (steps + more) % 2 ^ 64

-- the ring steps that each undo and each redo of a statement takes, which a table accepts: for a block two for each line whose
-- entry was placed before it and one for each other line, two for a section, one for a declaration, and none for weights alone
abbrev pub line_steps : Collation → OrderLine → ℕ
line_steps table line = if is_placed table line.id then 2 else 1

-- those of lines, none of which places what another does
abbrev pub lines_steps : Collation → List OrderLine → ℕ
lines_steps table [] = 0
lines_steps table (line ∷ lines) = line_steps table line + lines_steps table lines

-- those of a statement of own names
unfoldable pub own_steps : Collation → Statement → ℕ
own_steps table (statement.Symbol name) = 1
own_steps table (statement.Element name text) = 1
own_steps table (statement.Equivalence name symbol) = 1
own_steps table (statement.Block target lines) = lines_steps table lines
own_steps table (statement.SectionAfter name after) = 2
own_steps table (statement.Reweight line) = 0

-- those of a statement: of what it states by own names
unfoldable pub statement_steps : Collation → Statement → ℕ
statement_steps table s = own_steps table (own_statement table s)

-- the items of a record of a statement: one for each line of a block, and one for every other statement
unfoldable pub statement_items : Statement → ℕ
statement_items (statement.Symbol name) = 1
statement_items (statement.Element name text) = 1
statement_items (statement.Equivalence name symbol) = 1
statement_items (statement.Block target lines) = length lines
statement_items (statement.SectionAfter name after) = 1
statement_items (statement.Reweight line) = 1
