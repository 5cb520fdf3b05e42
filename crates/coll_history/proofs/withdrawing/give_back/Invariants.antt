-- The records that are left lead back to the same table.
use Rattle.std.proofs.Common.{◌≡◌, reverse}
use Rattle.coll_history.specs.Kept.{uncounted}
use Rattle.coll_history.specs.Withdrawing.{CanGiveBack, given_back}
use Rattle.coll_history.proofs.withdrawing.give_back.Given as goal

abbrev pub invariant-fresh : goal.invariant-fresh
invariant-fresh l = record {
  can : CanGiveBack (uncounted l.table) (reverse l.fresh.items);
  same : given_back (uncounted l.table) (reverse l.fresh.items) ≡ given_back (uncounted l.initial.table) (reverse l.initial.fresh.items);
}

abbrev pub decreases-fresh : goal.decreases-fresh
decreases-fresh l = goal.left-fresh l
