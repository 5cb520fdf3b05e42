-- The law, by the items of the record.
use Rattle.coll_table.proofs.RecordExtends.{records_where_named}
use Rattle.coll_table.proofs.record_laws.lemma_records_fit_where_named.Goals as goal

pub returns : goal.returns
returns c = records_where_named
