use Rattle.coll_table.proofs.FollowedTables.{wider_numbered}
use Rattle.coll_table.proofs.record_laws.lemma_wider_tables_are_numbered_alike.Goals as goal

pub returns : goal.returns
returns c = wider_numbered
