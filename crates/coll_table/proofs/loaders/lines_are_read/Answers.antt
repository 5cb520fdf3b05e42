-- The law, by the lines of the text.
use Rattle.coll_table.proofs.LinesRead.{lines_read}
use Rattle.coll_table.proofs.loaders.lines_are_read.Goals as goal

pub returns : goal.returns
returns c = lines_read
