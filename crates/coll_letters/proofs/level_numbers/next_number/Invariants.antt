-- The gaps so far, and what is left, are what was left at first.
use Rattle.std.proofs.Common.{◌≡◌, ◌≤◌, ◌+◌, Bool, chars, length}
use Rattle.coll_nodes.specs.TableLayout.{collation}
use Rattle.coll_key.specs.LevelList.{listed}
use Rattle.coll_letters.specs.LevelNumbers.{items_behind}
use Rattle.coll_letters.proofs.level_numbers.next_number.Given as goal

abbrev pub invariant-letters : goal.invariant-letters
invariant-letters l =
    let table = collation l.table in
    record {
      few : l.gaps + length (chars l.left.text.now) ≤ 65_536;
      same : (position : Bool) → listed position 0 (items_behind table l.level l.rest) ≡ listed position l.gaps (items_behind table l.level l.left);
      shorter : length (items_behind table l.level l.left) ≤ length (items_behind table l.level l.rest);
      shorter_text : length (chars l.left.text.now) ≤ length (chars l.rest.text.now);
    }

abbrev pub decreases-letters : goal.decreases-letters
decreases-letters l = length (chars l.left.text.now)
