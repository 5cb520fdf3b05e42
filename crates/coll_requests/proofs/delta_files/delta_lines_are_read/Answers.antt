-- The law, by the lines of the file.
use Rattle.coll_requests.proofs.DeltaLinesRead.{lines_read, lines_taken}
use Rattle.coll_requests.proofs.delta_files.delta_lines_are_read.Goals as goal

pub returns : goal.returns
returns c = record { whole = lines_read; taken = lines_taken }
