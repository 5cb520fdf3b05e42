-- What is left of both decides their order.
use Rattle.std.proofs.Common.{◌≡◌, ◌≤◌, length, true}
use Rattle.coll_syntax.specs.declared.rules.Rule.{Rule}
use Rattle.coll_ranks.specs.LevelWeights.{level_numbers}
use Rattle.coll_key.specs.LevelList.{level_list, listed}
use Rattle.coll_key.specs.TextOrder.{list_order}
use Rattle.coll_letters.specs.BackNumbers.{items_before}
use Rattle.coll_letters.proofs.back_numbers.order_from_back.Given as goal

abbrev pub invariant-numbers : goal.invariant-numbers
invariant-numbers l =
    let rule : Rule = record { backward = true; position = l.position } in
    record {
      few : length l.left.rows.now ≤ 65_536;
      few_others : length l.right.rows.now ≤ 65_536;
      same : list_order (level_list rule (level_numbers l.at_level) l.rows) (level_list rule (level_numbers l.at_level) l.fn.others)
          ≡ list_order (listed l.position 0 (items_before l.at_level l.left)) (listed l.position 0 (items_before l.at_level l.right));
    }

abbrev pub decreases-numbers : goal.decreases-numbers
decreases-numbers l = length (items_before l.at_level l.left)
