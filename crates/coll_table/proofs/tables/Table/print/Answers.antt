-- The text of the table's parts is its own.
use Rattle.std.proofs.Common.{rules}
use Rattle.coll_nodes.specs.TableLayout.{collation}
use Rattle.coll_texts.proofs.PrintedParts.{text_parts}
use Rattle.coll_table.proofs.tables.Table.print.Goals as goal

pub returns : goal.returns
returns g c =
    let parts = rw (c.rules.ensures, c.declared.ensures, c.walk.ensures) at c.write_table.ensures.sent in
    record {
      sent = rw (text_parts (collation c.args.self.now)) parts;
      errors = search rules;
    }
