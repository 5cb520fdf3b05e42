-- A statement of own names is as proper as the one that it is made of, and has as many items.
use Rattle.coll_nodes.specs.TableLayout.{collation}
use Rattle.coll_table.proofs.OwnStatements.{own_statement_items, own_statement_proper}
use Rattle.coll_table.proofs.tables.Table.own_statement.Goals as goal

pub returns-clause-proper : goal.returns-clause-proper
returns-clause-proper c = own_statement_proper (collation c.args.self.now) c.args.statement.now c.lemma_well_formed.ensures.well_formed

pub returns-clause-items : goal.returns-clause-items
returns-clause-items c = own_statement_items (collation c.args.self.now) c.args.statement.now
