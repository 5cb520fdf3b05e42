-- What is left of the statements makes of the table now what all make of the one at first, and the new records lead back to that.
use Rattle.std.proofs.Common.{◌≡◌, ◌+◌, ◌<◌, ℕ, length, vec_len, reverse}
use Rattle.std.specs.Vec.{vec_capacity}
use Rattle.coll_nodes.specs.TableLayout.{collation}
use Rattle.coll_history.specs.Kept.{statements_of, uncounted}
use Rattle.coll_history.specs.Withdrawal.{withdrawn_from}
use Rattle.coll_history.specs.Withdrawing.{AreProper, CanGiveBack, IsRebuilt, given_back, paired}
use Rattle.coll_history.proofs.RebuiltTables.{unpaired}
use Rattle.coll_history.proofs.withdrawing.put_anew.Given as goal

abbrev pub invariant-anew : goal.invariant-anew
invariant-anew l = record {
  can : CanGiveBack (uncounted l.table) (reverse l.fresh.items);
  back : given_back (uncounted l.table) (reverse l.fresh.items) ≡ uncounted l.initial.table;
  rebuilt : IsRebuilt (uncounted l.initial.table) (uncounted l.table) (paired (reverse l.later) l.fresh.items);
  unpaired : unpaired (reverse l.later) l.fresh.items ≡ reverse l.left;
  proper : AreProper (reverse l.left);
  count : vec_len l.fresh + length l.left ≡ length l.later;
  number : l.number ≡ l.first + vec_len l.fresh;
  same : (left_out : ℕ) → left_out < l.first → withdrawn_from left_out l.first (collation (uncounted l.initial.table)) (statements_of (reverse l.later))
      ≡ withdrawn_from left_out l.number (collation (uncounted l.table)) (statements_of (reverse l.left));
  room : vec_capacity l.fresh ≡ vec_capacity l.initial.fresh;
}

abbrev pub decreases-anew : goal.decreases-anew
decreases-anew l = length l.left
