-- What is left of both texts decides their order.
use Rattle.std.proofs.Common.{◌≡◌, ◌≤◌, chars, length}
use Rattle.coll_nodes.specs.TableLayout.{collation}
use Rattle.coll_key.specs.LevelList.{listed}
use Rattle.coll_key.specs.TextOrder.{list_order}
use Rattle.coll_letters.specs.LetterWeights.{order_behind}
use Rattle.coll_letters.specs.LevelNumbers.{items_behind}
use Rattle.coll_letters.proofs.level_numbers.order_by_numbers.Given as goal

abbrev pub invariant-numbers : goal.invariant-numbers
invariant-numbers l =
    let table = collation l.table in
    record {
      few : length (chars l.left.text.now) ≤ 65_536;
      few_others : length (chars l.right.text.now) ≤ 65_536;
      same : order_behind table l.level l.position 0 (chars l.text) (chars l.other)
          ≡ list_order (listed l.position 0 (items_behind table l.level l.left)) (listed l.position 0 (items_behind table l.level l.right));
    }

abbrev pub decreases-numbers : goal.decreases-numbers
decreases-numbers l = length (items_behind (collation l.table) l.level l.left)
