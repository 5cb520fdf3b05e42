-- The rows have the numbers of the text's elements, so their key is that of the text.
use Rattle.std.proofs.Common.{◌∙◌, List, sym, ap}
use Rattle.std.specs.List.{flat_map}
use Rattle.coll_syntax.specs.declared.rules.Rule.{Rule}
use Rattle.coll_nodes.specs.TableLayout.{collation}
use Rattle.coll_ranks.specs.LevelWeights.{row_numbers}
use Rattle.coll_key.specs.LevelList.{level_lists_from}
use Rattle.coll_key.specs.SortKey.{ended}
use Rattle.coll_key.proofs.OrderLemmas.{key_by_numbers}
use Rattle.coll_key.proofs.row_keys.key_by_rows.Goals as goal

pub returns : goal.returns
returns c = λ text are.
    let weights = c.args.weights.now in
    let rows = c.args.rows.now in
    c.in_ok-key.ensures
    ∙ ap (λ (rules : List Rule). flat_map ended (level_lists_from rules 0 (row_numbers weights) rows)) c.rules.ensures
    ∙ sym (key_by_numbers (collation c.args.table.now) text (row_numbers weights) rows are)
