-- The law, by the items of the record.
use Rattle.coll_table.proofs.RecordTurns.{records_turn}
use Rattle.coll_table.proofs.record_laws.lemma_records_turn_back.Goals as goal

pub returns : goal.returns
returns c = records_turn
