-- The law, by the items of the record.
use Rattle.coll_table.proofs.RecordPutsIn.{undone_puts_in}
use Rattle.coll_table.proofs.record_laws.lemma_undone_records_put_in.Goals as goal

pub returns : goal.returns
returns c = undone_puts_in
