-- A statement by own names is as proper as the statement, and has as many items.
use Rattle.std.proofs.Common.{◌≡◌, refl}
use Rattle.std.proofs.lemmas.List.{length-map}
use Rattle.coll_syntax.specs.Proper.{IsProper}
use Rattle.coll_syntax.specs.declared.statements.Statement.{Statement}
use Rattle.coll_syntax.specs.declared.statements.Statement.TheVariants as statement
use Rattle.coll_nodes.specs.Table.{Collation}
use Rattle.coll_nodes.specs.WellFormed.{IsWellFormed}
use Rattle.coll_statements.proofs.OwnStatements.{own_proper}
use Rattle.coll_statements.specs.OwnStatements.{own_line}
use Rattle.coll_table.specs.OwnStatements.{own_statement}
use Rattle.coll_table.specs.Record.{statement_items}

-- a proper statement stays proper
pub own_statement_proper : (table : Collation) (s : Statement) → IsWellFormed table → IsProper s → IsProper (own_statement table s)
unfolding own_statement
own_statement_proper table s well proper = own_proper table.declared well.built.names well.built.meant well.built.distinct_names s proper

-- it has as many items
pub own_statement_items : (table : Collation) (s : Statement) → statement_items (own_statement table s) ≡ statement_items s
unfolding own_statement statement_items
own_statement_items table (statement.Symbol name) = refl
own_statement_items table (statement.Element name text) = refl
own_statement_items table (statement.Equivalence name symbol) = refl
own_statement_items table (statement.Block target lines) = length-map lines (own_line table.declared)
own_statement_items table (statement.SectionAfter name after) = refl
own_statement_items table (statement.Reweight line) = refl
