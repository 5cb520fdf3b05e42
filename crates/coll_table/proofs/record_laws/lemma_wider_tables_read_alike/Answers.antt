-- The law, by the nodes that stand in rings.
use Rattle.coll_table.proofs.RecordExtends.{collation_wider}
use Rattle.coll_table.proofs.record_laws.lemma_wider_tables_read_alike.Goals as goal

pub returns : goal.returns
returns c = collation_wider
