use Rattle.std.proofs.Common.{◌<◌, vec_len}
use Rattle.coll_command_line.proofs.requests.files_of.Given as goal

-- the table, or what stands in its place, is among them
abbrev pub invariant-loop-name : goal.invariant-loop-name
invariant-loop-name l = 0 < vec_len l.files
