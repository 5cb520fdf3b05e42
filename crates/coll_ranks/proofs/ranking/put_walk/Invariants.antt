-- What is counted, ranked and put in, and what is left, is the whole; and what is left has its places in the table.
use Rattle.std.proofs.Common.{◌≡◌, ℕ, ◌+◌, ◌++◌, length, drop}
use Rattle.std.specs.List.{flat_map}
use Rattle.std.specs.Option.{option_or}
use Rattle.coll_syntax.specs.declared.identifiers.Id.TheVariants.{Char}
use Rattle.coll_nodes.specs.Table.{entries_of}
use Rattle.coll_nodes.specs.Walks.{entries_visited}
use Rattle.coll_elements.specs.Rank.{known_rank}
use Rattle.coll_ranks.specs.Ranking.{last_place}
use Rattle.coll_ranks.specs.Ranks.{rank_of_char, compiled_entry}
use Rattle.coll_ranks.proofs.ranking.put_walk.Given as goal

abbrev pub invariant-walk : goal.invariant-walk
invariant-walk l =
    record {
      count : l.rank + length (entries_visited l.left) ≡ length (entries_visited l.initial.left);
      ranks : (c : ℕ) → option_or (last_place l.rank (entries_visited l.left) (Char c)) (rank_of_char l.characters c) ≡ last_place 0 (entries_visited l.initial.left) (Char c);
      levels : l.weights.levels ≡ l.initial.weights.levels;
      own : l.weights.own ≡ l.initial.weights.own;
      lists : l.weights.lists ++ flat_map (compiled_entry (known_rank l.initial.ranks) l.initial.weights.levels) (entries_visited l.left)
          ≡ l.initial.weights.lists ++ flat_map (compiled_entry (known_rank l.initial.ranks) l.initial.weights.levels) (entries_visited l.initial.left);
      same : l.ranks ≡ l.initial.ranks;
      places : entries_visited l.left ≡ drop l.rank (entries_of l.initial.ranks);
    }
