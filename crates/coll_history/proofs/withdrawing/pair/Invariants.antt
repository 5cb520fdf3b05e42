-- What remains, and what is left to be paired, is the whole.
use Rattle.std.proofs.Common.{◌≡◌, ◌+◌, ◌≤◌, ◌++◌, vec_len, reverse}
use Rattle.std.specs.Vec.{vec_capacity}
use Rattle.coll_table.specs.Record.{AreLoose, Extends, without_nodes}
use Rattle.coll_history.specs.Kept.{added_by_all}
use Rattle.coll_history.specs.Withdrawing.{paired}
use Rattle.coll_history.proofs.withdrawing.pair.Given as goal

abbrev pub invariant-pairs : goal.invariant-pairs
invariant-pairs l = record {
  table : Extends l.initial.table l.table;
  dropped : without_nodes l.table (added_by_all (reverse l.undone.items)) ≡ without_nodes l.initial.table (added_by_all (reverse l.initial.undone.items));
  loose : AreLoose l.table.layout (added_by_all (reverse l.undone.items));
  whole : l.remaining.items ++ paired (reverse l.undone.items) (reverse l.fresh.items) ≡ l.initial.remaining.items ++ paired (reverse l.initial.undone.items) (reverse l.initial.fresh.items);
  count : vec_len l.fresh ≤ vec_len l.undone;
  len : vec_len l.remaining + vec_len l.fresh ≡ vec_len l.initial.remaining + vec_len l.initial.fresh;
  remaining_room : vec_capacity l.remaining ≡ vec_capacity l.initial.remaining;
  undone_room : vec_capacity l.undone ≡ vec_capacity l.initial.undone;
}

abbrev pub decreases-pairs : goal.decreases-pairs
decreases-pairs l = vec_len l.fresh
