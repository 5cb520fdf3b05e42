-- So many are left to be put up.
use Rattle.std.proofs.Common.{◌≡◌, ◌+◌, ◌≤◌, vec_len, reverse}
use Rattle.std.specs.Vec.{vec_capacity}
use Rattle.coll_history.specs.Histories.{History}
use Rattle.coll_history.specs.Kept.{Leads, LeadsOn, history_of, uncounted}
use Rattle.coll_history.specs.Withdrawing.{IsLowered, raised}
use Rattle.coll_history.proofs.withdrawing.put_up.Given as goal

abbrev pub invariant-up : goal.invariant-up
invariant-up l = record {
  within : l.left ≤ l.count;
  leads : Leads (uncounted l.table) l.remaining.items;
  leads_on : LeadsOn (uncounted l.table) (reverse l.undone.items);
  lowered : (high : History) → IsLowered high (history_of (uncounted l.initial.table) l.initial.remaining.items l.initial.undone.items) l.count
      → IsLowered high (history_of (uncounted l.table) l.remaining.items l.undone.items) l.left;
  up : raised l.left (uncounted l.table) (reverse l.undone.items) ≡ raised l.count (uncounted l.initial.table) (reverse l.initial.undone.items);
  remaining_len : vec_len l.remaining + l.left ≡ vec_len l.initial.remaining + l.count;
  undone_len : vec_len l.undone + l.count ≡ vec_len l.initial.undone + l.left;
  remaining_room : vec_capacity l.remaining ≡ vec_capacity l.initial.remaining;
  undone_room : vec_capacity l.undone ≡ vec_capacity l.initial.undone;
}

abbrev pub decreases-up : goal.decreases-up
decreases-up l = l.left
