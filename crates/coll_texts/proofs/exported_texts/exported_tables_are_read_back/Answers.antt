-- The answers for the goals of `exported_tables_are_read_back`.
use Rattle.coll_texts.proofs.ExportedTables as exported
use Rattle.coll_texts.proofs.exported_texts.exported_tables_are_read_back.Goals as goal

pub returns : goal.returns
returns c = exported.exported_tables_are_read_back
