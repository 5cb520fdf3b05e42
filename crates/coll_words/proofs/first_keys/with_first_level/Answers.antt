-- The numbers of each element are put behind those of the elements before it.
use Rattle.std.proofs.Common.{◌≡◌, ◌∙◌, ℕ, chars, map, length, refl, ap, arith, rules}
use Rattle.std.proofs.lemmas.Bool.{ltb-false}
use Rattle.std.proofs.lemmas.Str.{length-le-encodes, encodes-chars}
use Rattle.coll_ranks.specs.LevelWeights.{level_ranks, ranks_in, row_numbers}
use Rattle.coll_ranks.specs.RankLists.{WeightsValue}
use Rattle.coll_ranks.specs.Ranks.{added_to, compiled_numbers, elements_by_ranks}
use Rattle.coll_ranks.proofs.LevelRows.{row_of_element}
use Rattle.coll_words.proofs.FirstLemmas.{element_packed}
use Rattle.coll_words.proofs.first_keys.with_first_level.Goals as goal

pub elements-init : goal.elements-init
elements-init c =
    let text = c.args.text.now in
    let bytes = length-le-encodes (chars text) in
    let all = ap length (encodes-chars text c.utf8.text) in
    let short = ltb-false 65_536 (length (chars text)) c.requires in
    record {
      text = c.utf8.text;
      few = omega (arith, c.min-later.ensures, bytes, all, short);
      most = omega (arith, c.min-later.ensures);
      room = c.in_ok-with.ensures.room;
      same = refl;
    }

pub elements-preserved : goal.elements-preserved
elements-preserved c =
    let ranks = c.args.ranks.now in
    let f = compiled_numbers ranks.compiled 0 in
    let at = c.at_level-first_level.result in
    let element = c.in-Some.first.element in
    let row = c.row-row.result in
    let numbers : map (added_to c.added.result) (ranks_in c.ranks.result) ≡ f element =
    ap (map (added_to c.added.result)) c.ranks.ensures
    ∙ ap (λ (n : ℕ). map (added_to n) (level_ranks at row)) c.added.ensures
    ∙ c.at_level-first_level.ensures row
    ∙ ap (row_numbers c.weights-weights.result.now 0) c.row-row.ensures
    ∙ row_of_element c.weights-weights.result.now 0 element
    ∙ ap (λ (w : WeightsValue). compiled_numbers w 0 element) c.weights-weights.ensures in
    record {
      text = search rules;
      few = omega (arith, c.elements.invariant.few, c.in-Some.ensures.characters, c.in-Some.ensures.some);
      most = omega (arith, c.elements.invariant.most);
      room = c.in_ok-with-2.ensures.room;
      same = c.elements.invariant.same
          ∙ element_packed f (elements_by_ranks ranks (chars c.elements.left.now)) (elements_by_ranks ranks (chars c.in-Some.first.rest.now)) element
          (map (added_to c.added.result) (ranks_in c.ranks.result)) c.elements.with.items c.in_ok-with-2.with.items c.in-Some.ensures.elements numbers c.in_ok-with-2.ensures.numbers;
    }
