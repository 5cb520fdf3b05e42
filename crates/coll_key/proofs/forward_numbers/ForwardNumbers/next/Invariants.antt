use Rattle.std.proofs.Common.{◌≡◌, ◌<◌, ◌≤◌, ◌+◌, Bool, chars, length, map}
use Rattle.coll_key.specs.ForwardNumbers.{items_left}
use Rattle.coll_key.specs.LevelList.{listed}
use Rattle.coll_ranks.specs.Ranks.{added_to, elements_by_ranks, compiled_numbers}
use Rattle.coll_key.proofs.forward_numbers.ForwardNumbers.next.Given as goal

abbrev pub invariant-gaps : goal.invariant-gaps
invariant-gaps l =
    let now = l.self-inside in
    let first = l.initial.self-inside in
    let items_now = items_left (compiled_numbers now.ranks.now.compiled now.level) (map (added_to now.weight.added) now.weight.ranks.now) (elements_by_ranks now.ranks.now (chars now.text.now)) in
    let items_first = items_left (compiled_numbers first.ranks.now.compiled first.level) (map (added_to first.weight.added) first.weight.ranks.now)
    (elements_by_ranks first.ranks.now (chars first.text.now)) in
    record {
      level : now.level < now.ranks.now.compiled.levels;
      few : l.gaps + length (elements_by_ranks now.ranks.now (chars now.text.now)) ≤ 65_536;
      same : (position : Bool) → listed position 0 items_first ≡ listed position l.gaps items_now;
      shorter : length items_now ≤ length items_first;
    }

abbrev pub decreases-gaps : goal.decreases-gaps
decreases-gaps l = length (elements_by_ranks l.self-inside.ranks.now (chars l.self-inside.text.now))
