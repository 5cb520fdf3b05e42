-- The levels so far are ignored.
use Rattle.std.proofs.Common.{◌≡◌, ◌<◌, ℕ, []}
use Rattle.coll_ranks.specs.LevelWeights.{row_numbers}
use Rattle.coll_letters.proofs.alike_levels.ignored_levels.Given as goal

abbrev pub invariant-loop-level : goal.invariant-loop-level
invariant-loop-level l = (level : ℕ) → level < l.level → row_numbers l.letters.made.weights level l.row ≡ []
