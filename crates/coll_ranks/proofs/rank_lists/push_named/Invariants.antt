-- The ranks of the identifiers so far stand behind the others.
use Rattle.std.proofs.Common.{◌≡◌, ◌++◌, take, map}
use Rattle.coll_elements.specs.Rank.{known_rank}
use Rattle.coll_ranks.proofs.rank_lists.push_named.Given as goal

abbrev pub invariant-loop-id : goal.invariant-loop-id
invariant-loop-id l =
    record {
      ranks : l.ranks.items ≡ l.initial.ranks.items ++ map (known_rank l.initial.recent) (take l.id-index l.named);
      same : l.recent ≡ l.initial.recent;
    }
