-- What is put and what is left are the whole.
use Rattle.std.proofs.Common.{◌≡◌, ◌*◌, ◌≤◌, ◌++◌, drop, length}
use Rattle.coll_lint.specs.Counts.{set_off}
use Rattle.coll_lint.proofs.counts.set_off.Given as goal

abbrev pub invariant-loop-place : goal.invariant-loop-place
invariant-loop-place l =
    record {
      kept : set_off l.digits ≡ l.text.items ++ set_off (drop l.place l.digits);
      room : length l.text.items ≤ 2 * l.place;
    }
