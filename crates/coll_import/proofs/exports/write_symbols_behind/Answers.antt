-- The lines are those of what a walk visits behind the first character.
use Rattle.std.proofs.Common.{rules}
use Rattle.coll_nodes.specs.TableLayout.{collation}
use Rattle.coll_import.proofs.ExportLemmas.{told_visited}
use Rattle.coll_import.proofs.exports.write_symbols_behind.Goals as goal

pub returns : goal.returns
returns g c =
    record {
      sent = let sent = rw (c.behind_character.ensures, c.walk.ensures) at c.write_symbols.ensures.sent in
          rw (told_visited c.args.file.now (collation c.args.table.now)) sent;
      errors = search rules;
    }
