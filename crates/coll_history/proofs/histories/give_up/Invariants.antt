use Rattle.std.proofs.Common.{◌≡◌, vec_len, reverse}
use Rattle.std.specs.Vec.{vec_capacity}
use Rattle.coll_history.specs.Kept.{added_by_all}
use Rattle.coll_table.specs.Record.{AreLoose, Extends, without_nodes}
use Rattle.coll_history.proofs.histories.give_up.Given as goal

abbrev pub invariant-loop-kept : goal.invariant-loop-kept
invariant-loop-kept l = record {
  table : Extends l.initial.table l.table;
  dropped : without_nodes l.table (added_by_all (reverse l.undone.items)) ≡ without_nodes l.initial.table (added_by_all (reverse l.initial.undone.items));
  steps : l.table.steps ≡ l.initial.table.steps;
  loose : AreLoose l.table.layout (added_by_all (reverse l.undone.items));
  room : vec_capacity l.undone ≡ vec_capacity l.initial.undone;
}

abbrev pub decreases-loop-kept : goal.decreases-loop-kept
decreases-loop-kept l = vec_len l.undone
