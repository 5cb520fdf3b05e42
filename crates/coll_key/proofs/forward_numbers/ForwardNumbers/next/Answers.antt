-- An element is taken where none is left of the one before it, and may be a gap.
use Rattle.std.proofs.Common.{◌≡◌, ◌∷◌, ◌∙◌, [], chars, length, map, ap, arith}
use Rattle.coll_ranks.specs.Ranks.{elements_by_ranks, compiled_numbers, added_to}
use Rattle.coll_key.proofs.ForwardLemmas.{none_left, element_taken, element_shorter, gap_count_small}
use Rattle.coll_key.proofs.forward_numbers.ForwardNumbers.next.Goals as goal

pub gaps-preserved : goal.gaps-preserved
gaps-preserved c =
    let now = c.gaps.self-inside in
    let first = c.in-Some-first_element.first in
    let weight = c.weight-self-inside.result in
    let f = compiled_numbers now.ranks.now.compiled now.level in
    let elements = elements_by_ranks now.ranks.now (chars first.rest.now) in
    let held = elements_by_ranks now.ranks.now (chars now.text.now) in
    let none : now.weight.ranks.now ≡ [] = none_left now.weight.ranks.now c.in_default.ensures.cases in
    let next : held ≡ first.element ∷ elements = c.in-Some-first_element.ensures.elements in
    let weighs : map (added_to weight.added) weight.ranks.now ≡ f first.element = c.weight-self-inside.ensures ∙ ap (λ w. compiled_numbers w now.level first.element) c.weights.ensures in
    let taken = element_taken f (added_to now.weight.added) (added_to weight.added) now.weight.ranks.now weight.ranks.now held elements first.element none next weighs in
    let shorter = element_shorter f (added_to now.weight.added) (added_to weight.added) now.weight.ranks.now weight.ranks.now held elements first.element none next weighs in
    record {
      level = c.gaps.invariant.level;
      few = omega (arith, c.gaps.invariant.few, ap length next, gap_count_small weight.ranks.now, c.gap_count-gaps.ensures);
      same = λ p. c.gaps.invariant.same p ∙ taken p c.gaps.gaps c.gap_count-gaps.result c.gap_count-gaps.ensures;
      shorter = omega (arith, shorter, c.gaps.invariant.shorter);
    }
