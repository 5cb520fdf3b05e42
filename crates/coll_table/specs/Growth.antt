-- A table that got loose nodes, as it stands before the nodes of a statement are linked.
use Rattle.std.specs.Prelude.{◌≡◌, List}
use Rattle.coll_order.specs.declared.places.NodeId.{NodeId}
use Rattle.coll_table.specs.Record.{AreLoose, without_nodes}
use Rattle.coll_nodes.specs.TableLayout.{TableValue}

-- a table is another one with some loose nodes added: without them it is the other
pub record AddsLoose (old new : TableValue) (added : List NodeId) : Type 0 where
  pub loose : AreLoose new.layout added
  pub dropped : without_nodes new added ≡ old
