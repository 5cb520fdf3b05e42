-- The answers for the goals of `printed_tables_are_read_back`.
use Rattle.coll_texts.proofs.PrintedTables as printed
use Rattle.coll_texts.proofs.canonical_texts.printed_tables_are_read_back.Goals as goal

pub returns : goal.returns
returns c = printed.printed_tables_are_read_back
