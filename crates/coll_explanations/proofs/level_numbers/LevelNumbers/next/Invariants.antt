use Rattle.std.proofs.Common.{◌≡◌, ◌<◌, ◌≤◌, ◌+◌, Bool, length, map}
use Rattle.coll_key.specs.LevelList.{directed}
use Rattle.coll_explanations.specs.Sources.{source, sources_at}
use Rattle.coll_explanations.specs.ToldLists.{told_from}
use Rattle.coll_explanations.specs.ToldSteps.{directed_sources, sources_left}
use Rattle.coll_explanations.proofs.level_numbers.LevelNumbers.next.Given as goal

abbrev pub invariant-gaps : goal.invariant-gaps
invariant-gaps l =
    let now = l.self-inside in
    let first = l.initial.self-inside in
    let items_now = sources_left (directed_sources now.backward (sources_at now.weighing.now now.level))
    (map (source now.weighing.now now.left.added now.element.now) (directed now.backward now.left.ids.now)) (directed now.backward now.elements.now) in
    let items_first = sources_left (directed_sources first.backward (sources_at first.weighing.now first.level))
    (map (source first.weighing.now first.left.added first.element.now) (directed first.backward first.left.ids.now)) (directed first.backward first.elements.now) in
    record {
      level : now.level < length now.weighing.now.rules;
      few : l.gaps + length now.elements.now ≤ 65_536;
      same : (position : Bool) → told_from position 0 items_first ≡ told_from position l.gaps items_now;
      shorter : length items_now ≤ length items_first;
    }

abbrev pub decreases-gaps : goal.decreases-gaps
decreases-gaps l = length l.self-inside.elements.now
