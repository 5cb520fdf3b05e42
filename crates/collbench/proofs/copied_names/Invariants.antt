use Rattle.std.proofs.Common.{◌≡◌, vec_len}
use Rattle.collbench.proofs.copied_names.Given as goal

-- the names met so far are copied
abbrev pub invariant-loop-file : goal.invariant-loop-file
invariant-loop-file l = vec_len l.names ≡ l.file-index
