use Rattle.std.proofs.Common.{◌≡◌, ◌≤◌, ◌+◌, ◌*◌, ◌++◌, ℕ, List, Option, Some, map, length}
use Rattle.std.specs.Prelude.{vec_len, vec_capacity}
use Rattle.coll_key.specs.LevelList.{directed, listed}
use Rattle.coll_ranks.specs.Ranks.{added_to}
use Rattle.coll_key.proofs.levels.with_others.Given as goal

abbrev pub invariant-others : goal.invariant-others
invariant-others l =
    record {
      room : vec_len l.with + length l.left * 2 ≤ vec_capacity l.with;
      capacity : vec_capacity l.with ≡ vec_capacity l.initial.with;
      len : vec_len l.with + length l.left * 2 ≤ vec_len l.initial.with + length l.ranks * 2;
      same : (later : List (Option ℕ)) → l.initial.with.items ++ listed l.position 0 (map Some (map (added_to l.added) (directed l.backward l.ranks)) ++ later)
          ≡ l.with.items ++ listed l.position 0 (map Some (map (added_to l.added) (directed l.backward l.left)) ++ later);
    }

abbrev pub decreases-others : goal.decreases-others
decreases-others l = length l.left
