-- The law, by the lines of the text.
use Rattle.coll_table.proofs.ReadTables.{texts_well_formed}
use Rattle.coll_table.proofs.loading.texts_are_well_formed.Goals as goal

pub returns : goal.returns
returns c = texts_well_formed
