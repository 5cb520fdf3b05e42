-- The text of the table's parts is its own.
use Rattle.std.proofs.Common.{rules}
use Rattle.coll_nodes.specs.TableLayout.{collation}
use Rattle.coll_texts.proofs.ExportedParts.{exported_parts}
use Rattle.coll_table.proofs.tables.Table.export.Goals as goal

pub returns : goal.returns
returns g c =
    let table = collation c.args.self.now in
    let parts = rw (c.rules.ensures, c.declared.ensures, c.walk.ensures, c.walk-2.ensures) at c.write_exported.ensures.sent in
    record {
      sent = rw (exported_parts table c.lemma_well_formed.ensures.well_formed.built.first_unnamed) parts;
      errors = search rules;
    }
