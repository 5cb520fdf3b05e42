-- The rows of the text's elements have the numbers of its elements, so their key is that of the text.
use Rattle.std.proofs.Common.{◌≡◌, ◌∙◌, ℕ, List, IfOk, chars, map, sym, ap, ap₂, subst}
use Rattle.std.specs.List.{flat_map}
use Rattle.coll_syntax.specs.declared.rules.Rule.{Rule}
use Rattle.coll_nodes.specs.TableLayout.{collation}
use Rattle.coll_ranks.specs.LevelWeights.{row_of}
use Rattle.coll_ranks.specs.RankLists.{WeightsValue}
use Rattle.coll_ranks.specs.Ranks.{compiled_numbers}
use Rattle.coll_ranks.specs.declared.text_elements.TextElement.{TextElement}
use Rattle.coll_key.specs.LevelList.{level_lists_from}
use Rattle.coll_key.specs.SortKey.{ended}
use Rattle.coll_key.proofs.OrderLemmas.{key_by_numbers}
use Rattle.coll_key.proofs.RowLemmas.{lists_by_rows}
use Rattle.coll_key.proofs.text_keys.short_key.Goals as goal

pub returns : goal.returns
returns c =
    let table = collation c.args.table.now in
    let made = c.in_ok-made.made in
    let weights = c.weights-weights.result.now in
    let elements = c.elements.result.now in
    let are : c.deref.result.now ≡ map (row_of weights) elements = c.deref.ensures.value ∙ c.in_ok-rows.ensures in
    let by_elements = ap (flat_map ended) (lists_by_rows weights c.deref.result.now elements are c.rules.result.now) in
    let by_weights = ap (λ (w : WeightsValue). flat_map ended (level_lists_from c.rules.result.now 0 (compiled_numbers w) elements)) c.weights-weights.ensures in
    let same = ap₂ (λ (rules : List Rule) (elements : List TextElement). flat_map ended (level_lists_from rules 0 (compiled_numbers made.weights) elements)) c.rules.ensures c.elements.ensures in
    let key = key_by_numbers table (chars c.args.text.now) (compiled_numbers made.weights) made.elements c.in_ok-made.ensures.numbers in
    subst (λ (list : List ℕ). IfOk c.key_of_rows.result (λ key. key.items ≡ list)) (by_elements ∙ by_weights ∙ same ∙ sym key) c.key_of_rows.ensures
