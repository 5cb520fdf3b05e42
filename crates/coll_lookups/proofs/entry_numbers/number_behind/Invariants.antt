-- The number so far, behind the moves that are left, is the one that is told.
use Rattle.std.proofs.Common.{◌≡◌, drop}
use Rattle.coll_lookups.specs.EntryNumbers.{behind_moves}
use Rattle.coll_lookups.proofs.entry_numbers.number_behind.Given as goal

abbrev pub invariant-moves : goal.invariant-moves
invariant-moves l = behind_moves (drop l.kept-index l.moves) l.told ≡ behind_moves l.fn.moves l.fn.number
