-- Nothing was taken yet.
use Rattle.std.proofs.Common.{◌∙◌, ℕ, List, length, true, ap, arith}
use Rattle.coll_syntax.specs.declared.rules.Rule.{Rule}
use Rattle.coll_ranks.specs.LevelWeights.{level_numbers}
use Rattle.coll_key.specs.LevelList.{level_list, listed}
use Rattle.coll_key.specs.TextOrder.{list_order}
use Rattle.coll_letters.specs.BackNumbers.{items_before}
use Rattle.coll_letters.proofs.BackNumberLemmas.{back_list}
use Rattle.coll_letters.proofs.back_numbers.order_from_back.Goals as goal

pub numbers-init : goal.numbers-init
numbers-init c =
    let at = c.args.at_level in
    let p = c.args.position in
    let rule : Rule = record { backward = true; position = p } in
    let left = c.all_rows-left in
    let right = c.all_rows-right in
    record {
      few = omega (arith, c.requires.few, ap length left.ensures.rows);
      few_others = omega (arith, c.requires.few_others, ap length right.ensures.rows);
      same = ap (λ (l : List ℕ). list_order l (level_list rule (level_numbers at) c.args.others.now)) (back_list at p c.args.rows.now left.result left.ensures.ranks left.ensures.rows)
          ∙ ap (list_order (listed p 0 (items_before at left.result))) (back_list at p c.args.others.now right.result right.ensures.ranks right.ensures.rows);
    }
