use Rattle.std.proofs.Common.{◌≡◌, length, vec_len, vec_capacity}
use Rattle.coll_system.proofs.files.open_all.Given as goal

-- a file is opened for each name met so far, and there is room for the others
abbrev pub invariant-loop-name : goal.invariant-loop-name
invariant-loop-name l = (vec_len l.inputs ≡ l.name-index) × (vec_capacity l.inputs ≡ length l.fn.names)
