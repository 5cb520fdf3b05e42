use Rattle.std.proofs.Common.{◌≡◌, ◌≤◌, ◌+◌, ◌*◌, length}
use Rattle.coll_explanations.specs.ToldLists.{first_apart, told_from}
use Rattle.coll_explanations.proofs.differences.first_difference.Given as goal

abbrev pub invariant-steps : goal.invariant-steps
invariant-steps l =
    record {
      few : l.place + 2 * length l.numbers ≤ 4_194_305;
      same : first_apart 1 (told_from l.position 0 l.initial.numbers) (told_from l.position 0 l.initial.others)
          ≡ first_apart l.place (told_from l.position 0 l.numbers) (told_from l.position 0 l.others);
    }

abbrev pub decreases-steps : goal.decreases-steps
decreases-steps l = length l.numbers
