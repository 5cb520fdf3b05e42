use Rattle.std.proofs.Common.{take, ◌≡◌, true}
use Rattle.std.specs.List.{list_all}
use Rattle.coll_lex.specs.Runs.{is_blank_byte}
use Rattle.coll_lex.proofs.scanning.runs.blanks_length.Given as goal

abbrev pub invariant-loop-at : goal.invariant-loop-at
invariant-loop-at l = list_all (is_blank_byte l.escape) (take l.at l.bytes) ≡ true
