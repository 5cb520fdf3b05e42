-- A statement with own names in place of second names.
use Rattle.coll_syntax.specs.declared.statements.Statement.{Statement}
use Rattle.coll_nodes.specs.Table.{Collation}
use Rattle.coll_statements.specs.OwnStatements.{by_own_names}

-- a statement with own names in place of second names: a second name stands for the symbol that the table declares it for
unfoldable pub own_statement : Collation → Statement → Statement
own_statement table s = by_own_names table.declared s
