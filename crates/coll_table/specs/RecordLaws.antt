-- The laws of records: what a history of statements rests on that are taken back by their nodes' neighbours alone.
use Rattle.std.specs.Prelude.{◌≡◌, ℕ, true, false, List}
use Rattle.coll_order.specs.Layout.{is_in}
use Rattle.coll_order.specs.Lists.{has_node}
use Rattle.coll_order.specs.declared.places.NodeId.{NodeId}
use Rattle.coll_nodes.specs.Bodies.{IsLooseNode}
use Rattle.coll_table.specs.Record.{AreLoose, Extends, Fits, NameNodesOf, added_nodes, turn, turned}
use Rattle.coll_nodes.specs.NodeNumbers.{AreNumbersOf}
use Rattle.coll_nodes.specs.SoundLayouts.{IsTable}
use Rattle.coll_nodes.specs.TableLayout.{TableValue, collation}
use Rattle.coll_table.specs.Turning.{steps_of}
use Rattle.coll_table.specs.declared.records.Record.{Record}

-- what turning a record that fits makes of a table is a table, which the turned record fits, and turning it again gives back the
-- first; both turns take the same ring steps
pub record TurnsBack (table : TableValue) (kept : Record) : Type 0 where
  pub stands : IsTable (turn table kept)
  pub fits : Fits (turn table kept) (turned table kept)
  pub back : turn (turn table kept) (turned table kept) ≡ table
  pub steps : steps_of (turned table kept).items ≡ steps_of kept.items

-- each record that fits turns back
abbrev pub RecordsTurnBack : Type 0
RecordsTurnBack = (table : TableValue) (kept : Record) → IsTable table → Fits table kept → TurnsBack table kept

-- turned, a record has the nodes that it added before
abbrev pub RecordsAddAlike : Type 0
RecordsAddAlike = (table : TableValue) (kept : Record) → added_nodes (turned table kept).items ≡ added_nodes kept.items

-- a record fits another table too, and what it makes of the wider one extends what it makes of the other
pub record TurnsAlike (wide table : TableValue) (kept : Record) (own : TableValue) : Type 0 where
  pub fits : Fits own kept
  pub extends : Extends (turn wide kept) (turn table kept)

-- a record that fits a table fits each table that extends it
abbrev pub RecordsFitWider : Type 0
RecordsFitWider = (wide table : TableValue) (kept : Record) → IsTable wide → IsTable table → Extends wide table → Fits table kept
    → TurnsAlike wide table kept wide

-- a record that fits a table fits each table that this extends, if it names none of the loose nodes that are missing there
abbrev pub RecordsFitWhereNamed : Type 0
RecordsFitWhereNamed = (wide table : TableValue) (kept : Record) → IsTable wide → IsTable table → Extends wide table
    → NameNodesOf table.layout kept.items → Fits wide kept → TurnsAlike wide table kept table

-- a record in force that fits a table fits each table that this extends: it names none of the loose nodes that are missing there
abbrev pub RecordsFitNarrower : Type 0
RecordsFitNarrower = (wide table : TableValue) (kept : Record) → IsTable wide → IsTable table → Extends wide table → kept.undone ≡ false
    → Fits wide kept → TurnsAlike wide table kept table

-- loose nodes more make no other table of rules, declarations and sections
abbrev pub WiderReadsAlike : Type 0
WiderReadsAlike = (wide table : TableValue) → IsTable table → Extends wide table → collation wide ≡ collation table

-- what an undone record would put in is loose, and each node of it is named once; turned, the record puts it in, and what is
-- loose then was loose before
pub record PutsIn (table : TableValue) (kept : Record) : Type 0 where
  pub loose : AreLoose table.layout (added_nodes kept.items)
  pub linked : (node : NodeId) → has_node (added_nodes kept.items) node ≡ true → is_in (turn table kept).layout.rings node ≡ true
  pub others : (node : NodeId) → IsLooseNode (turn table kept).layout node → IsLooseNode table.layout node

-- each undone record that fits puts its nodes in
abbrev pub UndonePutIn : Type 0
UndonePutIn = (table : TableValue) (kept : Record) → IsTable table → kept.undone ≡ true → Fits table kept → PutsIn table kept

-- loose nodes more give no entry another place
pub record NumberedAlike (wide table : TableValue) (numbers : List ℕ) : Type 0 where
  pub wider : AreNumbersOf numbers table.layout → AreNumbersOf numbers wide.layout
  pub narrower : AreNumbersOf numbers wide.layout → AreNumbersOf numbers table.layout

-- places of a table's entries are those of each table that extends it, and the other way round
abbrev pub WiderNumberedAlike : Type 0
WiderNumberedAlike = (wide table : TableValue) (numbers : List ℕ) → IsTable table → Extends wide table → NumberedAlike wide table numbers
