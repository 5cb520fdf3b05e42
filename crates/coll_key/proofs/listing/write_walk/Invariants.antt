-- What is written and what is left are the whole, and a rank is left for each entry.
use Rattle.std.proofs.Common.{◌≡◌, ◌≤◌, ◌+◌, All, length}
use Rattle.coll_nodes.specs.Walks.{entries_visited}
use Rattle.coll_key.specs.ListingParts.{ranked_lines, HasFewWeights}
use Rattle.coll_key.proofs.ListingLemmas.{IsLeft}
use Rattle.coll_key.proofs.listing.write_walk.Given as goal

abbrev pub invariant-walk : goal.invariant-walk
invariant-walk g l =
    record {
      sent : IsLeft (ranked_lines l.ranks 1 (entries_visited l.initial.left)) (ranked_lines l.ranks l.rank (entries_visited l.left)) (g.W.Sink.taken l.initial.out) (g.W.Sink.taken l.out);
      count : g.W.Sink.failed l.out ≡ g.W.Sink.failed l.initial.out;
      fit : All (HasFewWeights l.ranks.compiled.levels) (entries_visited l.left);
      few : l.rank + length (entries_visited l.left) ≤ 1_000_000;
    }
