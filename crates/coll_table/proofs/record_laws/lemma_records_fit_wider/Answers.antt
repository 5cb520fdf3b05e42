-- The law, by the items of the record.
use Rattle.coll_table.proofs.RecordExtends.{records_wider}
use Rattle.coll_table.proofs.record_laws.lemma_records_fit_wider.Goals as goal

pub returns : goal.returns
returns c = records_wider
