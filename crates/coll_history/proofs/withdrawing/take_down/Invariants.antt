-- So many are taken back.
use Rattle.std.proofs.Common.{◌≡◌, ◌+◌, ◌-◌, ◌≤◌, vec_len, reverse}
use Rattle.std.specs.Vec.{vec_capacity}
use Rattle.coll_history.specs.Kept.{Leads, LeadsOn, history_of, uncounted}
use Rattle.coll_history.specs.Withdrawing.{IsLowered, raised}
use Rattle.coll_history.proofs.withdrawing.take_down.Given as goal

abbrev pub invariant-down : goal.invariant-down
invariant-down l = record {
  within : l.taken ≤ l.count;
  leads : Leads (uncounted l.table) l.remaining.items;
  leads_on : LeadsOn (uncounted l.table) (reverse l.undone.items);
  lowered : IsLowered (history_of (uncounted l.initial.table) l.initial.remaining.items l.initial.undone.items) (history_of (uncounted l.table) l.remaining.items l.undone.items) l.taken;
  up : raised l.taken (uncounted l.table) (reverse l.undone.items) ≡ uncounted l.initial.table;
  remaining_len : vec_len l.remaining + l.taken ≡ vec_len l.initial.remaining;
  undone_len : vec_len l.undone ≡ vec_len l.initial.undone + l.taken;
  remaining_room : vec_capacity l.remaining ≡ vec_capacity l.initial.remaining;
  undone_room : vec_capacity l.undone ≡ vec_capacity l.initial.undone;
}

abbrev pub decreases-down : goal.decreases-down
decreases-down l = l.count - l.taken
