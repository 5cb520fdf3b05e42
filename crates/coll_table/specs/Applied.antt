-- What a table that accepts a statement is afterwards, and the record of it.
use Rattle.std.specs.Prelude.{◌≡◌, false, Ok, length}
use Rattle.coll_syntax.specs.declared.statements.Statement.{Statement}
use Rattle.coll_syntax.specs.declared.statements.Statement.TheVariants as statement
use Rattle.coll_table.specs.Delta.{own_delta}
use Rattle.coll_table.specs.Record.{Extends, Fits, IsSame, KeepsLoose, added_nodes, statement_items, own_steps, turn, without_nodes}
use Rattle.coll_table.specs.StatementItems.{AreOwnItems}
use Rattle.coll_nodes.specs.TableLayout.{TableValue, collation}
use Rattle.coll_table.specs.Turning.{steps_of}
use Rattle.coll_nodes.specs.declared.declarations.Declaration.{Declaration}
use Rattle.coll_nodes.specs.declared.declarations.Declaration.TheVariants.{Symbol, Element, Equivalence}
use Rattle.coll_table.specs.declared.records.Record.{Record}

-- a table was rewritten by a statement of own names: it is the statement's delta; the record is in force, fits, and turns it
-- back, but for loose nodes that were added, which are those that its items added; its items are those of the statement, as
-- many, and it takes the statement's steps; and what was loose stays so
pub record Applied (old new : TableValue) (statement : Statement) (kept : Record) : Type 0 where
  pub ok : own_delta (collation old) statement ≡ Ok (collation new)
  pub in_force : kept.undone ≡ false
  pub fits : Fits new kept
  pub back : Extends (turn new kept) old
  pub added : IsSame (without_nodes (turn new kept) (added_nodes kept.items)) old
  pub items : length kept.items ≡ statement_items statement
  pub listed : AreOwnItems old new.layout statement kept.items
  pub steps : steps_of kept.items ≡ own_steps (collation old) statement
  pub loose : KeepsLoose old.layout new.layout

-- the statement that declares this
abbrev pub declaring : Declaration → Statement
declaring (Symbol name) = statement.Symbol name
declaring (Element name text) = statement.Element name text
declaring (Equivalence name symbol) = statement.Equivalence name symbol
