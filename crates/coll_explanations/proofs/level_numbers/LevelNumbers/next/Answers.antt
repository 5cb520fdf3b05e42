-- An element is taken where none is left of the one before it, and may be a gap.
use Rattle.std.proofs.Common.{◌≡◌, ◌<◌, ◌∷◌, ◌∙◌, [], length, map, sym, ap, arith}
use Rattle.coll_key.specs.LevelList.{directed}
use Rattle.coll_key.proofs.DirectionLemmas.{length-directed, map-directed}
use Rattle.coll_explanations.specs.Sources.{source, sources_at}
use Rattle.coll_explanations.specs.ToldSteps.{directed_sources}
use Rattle.coll_explanations.proofs.ToldLemmas.{counted_alike, element_shorter, element_taken, gap_count_small}
use Rattle.coll_explanations.proofs.level_numbers.LevelNumbers.next.Goals as goal

pub gaps-smaller : goal.gaps-smaller
gaps-smaller c =
    let now = c.gaps.self-inside in
    let later = c.in-Some-split_towards.later.now in
    let smaller : length later < length now.elements.now =
    omega (arith, ap length c.in-Some-split_towards.ensures, length-directed now.backward now.elements.now, length-directed now.backward later) in
    smaller

pub gaps-preserved : goal.gaps-preserved
gaps-preserved c =
    let now = c.gaps.self-inside in
    let b = now.backward in
    let table = now.weighing.now in
    let element = c.in-Some-split_towards.element.now in
    let later = c.in-Some-split_towards.later.now in
    let taken = c.ids-self-inside.result in
    let f = directed_sources b (sources_at table now.level) in
    let none : directed b now.left.ids.now ≡ [] = c.in_default.ensures in
    let next : directed b now.elements.now ≡ element ∷ directed b later = c.in-Some-split_towards.ensures in
    let sources : map (source table taken.added element) (directed b taken.ids.now) ≡ f element =
    map-directed (source table taken.added element) b taken.ids.now ∙ ap (directed b) c.ids-self-inside.ensures in
    let takes = element_taken f (source table now.left.added now.element.now) (source table taken.added element) (directed b now.left.ids.now) (directed b taken.ids.now)
    (directed b now.elements.now) (directed b later) element none next sources in
    let shorter = element_shorter f (source table now.left.added now.element.now) (source table taken.added element) (directed b now.left.ids.now) (directed b taken.ids.now)
    (directed b now.elements.now) (directed b later) element none next sources in
    record {
      level = c.gaps.invariant.level;
      few = omega (arith, c.gaps.invariant.few, ap length next, length-directed b now.elements.now, length-directed b later, gap_count_small taken.ids.now, c.gap_count-gaps.ensures);
      same = λ p. c.gaps.invariant.same p ∙ takes p c.gaps.gaps c.gap_count-gaps.result (c.gap_count-gaps.ensures ∙ sym (counted_alike b taken.ids.now));
      shorter = omega (arith, shorter, c.gaps.invariant.shorter);
    }
