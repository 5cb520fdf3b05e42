-- The key of the rows of a text's elements is that of the elements.
use Rattle.std.proofs.Common.{◌≡◌, ◌∙◌, ℕ, List, IfOk, chars, map, take, sym, ap, subst}
use Rattle.std.specs.List.{flat_map}
use Rattle.coll_ranks.specs.LevelWeights.{row_of}
use Rattle.coll_ranks.specs.RankLists.{WeightsValue}
use Rattle.coll_ranks.specs.Ranks.{compiled_numbers, elements_by_ranks}
use Rattle.coll_key.specs.LevelList.{level_lists_from}
use Rattle.coll_key.specs.SortKey.{ended}
use Rattle.coll_key.proofs.RowLemmas.{lists_by_rows}
use Rattle.coll_key.proofs.keys.key_of_word.Goals as goal

pub returns : goal.returns
returns c =
    let w = c.weights.result.now in
    let rules = c.args.rules.now in
    let elements = elements_by_ranks c.args.ranks.now (chars c.args.text.now) in
    let rows = take c.put_rows-count.result c.put_rows-count.new.rows in
    let are : rows ≡ map (row_of w) elements = c.put_rows-count.ensures.rows ∙ ap (λ (w : WeightsValue). map (row_of w) elements) (sym c.weights.ensures) in
    subst (λ (list : List ℕ). IfOk c.key_of_rows.result (λ key. key.items ≡ list))
    (ap (flat_map ended) (lists_by_rows w rows elements are rules) ∙ ap (λ (w : WeightsValue). flat_map ended (level_lists_from rules 0 (compiled_numbers w) elements)) c.weights.ensures)
    c.key_of_rows.ensures
