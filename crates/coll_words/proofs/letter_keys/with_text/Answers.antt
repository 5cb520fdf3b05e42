-- The numbers of each element are put behind those of the elements before it.
use Rattle.std.proofs.Common.{◌≡◌, ◌+◌, ◌∙◌, ◌++◌, ℕ, List, append-nil, chars, drop, get_or, map, sym, ap, arith}
use Rattle.std.proofs.lemmas.List.{drop_all, drop_more}
use Rattle.std.specs.List.{flat_map}
use Rattle.coll_nodes.specs.TableLayout.{collation}
use Rattle.coll_elements.specs.Elements.{elements_of}
use Rattle.coll_ranks.specs.LevelWeights.{level_ranks, ranks_in, row_numbers}
use Rattle.coll_ranks.specs.RankLists.{WeightsValue}
use Rattle.coll_ranks.specs.Ranks.{added_to, compiled_numbers}
use Rattle.coll_ranks.specs.WeightNumbers.{numbers_at}
use Rattle.coll_ranks.specs.declared.text_elements.TextElement.{TextElement}
use Rattle.coll_ranks.specs.declared.text_elements.TextElement.TheVariants.{Placed}
use Rattle.coll_ranks.proofs.LevelRows.{row_of_element}
use Rattle.coll_word_lists.specs.PackedKeys.{packed_key}
use Rattle.coll_words.proofs.FirstLemmas.{element_packed}
use Rattle.coll_words.proofs.LetterKeyLemmas.{numbers_by_lists}
use Rattle.coll_words.proofs.letter_keys.with_text.Goals as goal

pub loop-element-preserved : goal.loop-element-preserved
loop-element-preserved c =
    let weights = c.weights-weights.result.now in
    let elements = c.elements-element-items.result.now in
    let f = compiled_numbers weights 0 in
    let none : TextElement = Placed 0 in
    let element : TextElement = get_or elements c.loop-element.element-index none in
    let at = c.at_level-at_first.result in
    let row = c.row-row.result in
    let numbers : map (added_to c.added.result) (ranks_in c.ranks.result) ≡ f element =
    ap (map (added_to c.added.result)) c.ranks.ensures
    ∙ ap (λ (n : ℕ). map (added_to n) (level_ranks at row)) c.added.ensures
    ∙ c.at_level-at_first.ensures row
    ∙ ap (row_numbers weights 0) c.row-row.ensures
    ∙ row_of_element weights 0 element in
    c.loop-element.invariant
    ∙ element_packed f (drop c.loop-element.element-index elements) (drop (c.loop-element.element-index + 1) elements) element (map (added_to c.added.result) (ranks_in c.ranks.result))
    c.loop-element.with.items c.in_ok-with-2.with.items (drop_more elements c.loop-element.element-index none c.loop-element-test.true) numbers
    (c.in_ok-with-2.ensures.numbers ∙ ap (λ (l : List ℕ). l ++ packed_key (map (added_to c.added.result) (ranks_in c.ranks.result))) c.in_ok-with.ensures.same)

pub returns : goal.returns
returns c =
    let table = collation c.args.table.now in
    let made = c.in_ok-made.made in
    let weights = c.weights-weights.result.now in
    let elements = c.elements-element-items.result.now in
    let f = compiled_numbers weights 0 in
    let same : map f elements ≡ map (numbers_at table 0) (elements_of table (chars c.args.text.now)) =
    ap (λ (w : WeightsValue). map (compiled_numbers w 0) elements) c.weights-weights.ensures
    ∙ ap (map (compiled_numbers made.weights 0)) c.elements-element-items.ensures
    ∙ c.in_ok-made.ensures.numbers 0 c.requires.level in
    sym
    (ap (λ (l : List ℕ). c.args.keys.items ++ packed_key l) (sym (numbers_by_lists f (numbers_at table 0) elements (elements_of table (chars c.args.text.now)) same))
    ∙ c.loop-element.invariant
    ∙ ap (λ (left : List TextElement). c.loop-element.with.items ++ packed_key (flat_map f left)) (drop_all c.loop-element.element-index elements (omega (arith, c.loop-element-test.false)))
    ∙ append-nil c.loop-element.with.items)
