-- The law, by the items of the record.
use Rattle.coll_table.proofs.RecordTurns.{records_add}
use Rattle.coll_table.proofs.record_laws.lemma_records_add_alike.Goals as goal

pub returns : goal.returns
returns c = records_add
