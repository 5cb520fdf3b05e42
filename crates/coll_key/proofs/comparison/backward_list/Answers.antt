-- The list of the rows of a text's elements is that of the elements.
use Rattle.std.proofs.Common.{◌≡◌, ◌∙◌, ◌++◌, chars, map, sym, ap}
use Rattle.coll_ranks.specs.LevelWeights.{row_of, row_numbers}
use Rattle.coll_ranks.specs.Ranks.{elements_by_ranks, compiled_numbers}
use Rattle.coll_key.specs.LevelList.{level_list}
use Rattle.coll_key.proofs.RowLemmas.{list_by_rows}
use Rattle.coll_key.proofs.comparison.backward_list.Goals as goal

pub returns-clause-ok : goal.returns-clause-ok
returns-clause-ok c =
    let weights = c.weights.result.now in
    let elements = elements_by_ranks c.args.ranks.now (chars c.args.text.now) in
    let are : c.deref.result.now ≡ map (row_of weights) elements = c.deref.ensures.value ∙ c.in_ok-rows.ensures.ok ∙ ap (λ w. map (row_of w) elements) (sym c.weights.ensures) in
    c.in_ok-list.ensures.list
    ∙ ap (λ ns. ns ++ level_list c.args.rule (row_numbers weights c.args.level) c.deref.result.now) c.new.ensures.items
    ∙ list_by_rows weights c.deref.result.now elements are c.args.rule c.args.level
    ∙ ap (λ w. level_list c.args.rule (compiled_numbers w c.args.level) elements) c.weights.ensures
