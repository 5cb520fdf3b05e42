-- The gaps so far, and what is left, are what was left at first.
use Rattle.std.proofs.Common.{◌≡◌, ◌≤◌, ◌+◌, Bool, length}
use Rattle.coll_key.specs.LevelList.{listed}
use Rattle.coll_letters.specs.BackNumbers.{items_before}
use Rattle.coll_letters.proofs.back_numbers.number_before.Given as goal

abbrev pub invariant-rows : goal.invariant-rows
invariant-rows l = record {
  few : l.gaps + length l.left.rows.now ≤ 65_536;
  same : (position : Bool) → listed position 0 (items_before l.at_level l.rest) ≡ listed position l.gaps (items_before l.at_level l.left);
  shorter : length (items_before l.at_level l.left) ≤ length (items_before l.at_level l.rest);
  shorter_rows : length l.left.rows.now ≤ length l.rest.rows.now;
}

abbrev pub decreases-rows : goal.decreases-rows
decreases-rows l = length l.left.rows.now
