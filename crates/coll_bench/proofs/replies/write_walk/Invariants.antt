use Rattle.std.proofs.Common.{◌≡◌, ◌≤◌, ◌+◌, ◌++◌, ℕ, List, length}
use Rattle.std.specs.Io.KnownBytes.{Appends}
use Rattle.coll_nodes.specs.TableLayout.{collation}
use Rattle.coll_bench.specs.Replies.{listed_sections}
use Rattle.coll_bench.specs.Listing.{listed_visited}
use Rattle.coll_bench.proofs.replies.write_walk.Given as goal

abbrev pub invariant-loop-item : goal.invariant-loop-item
invariant-loop-item g l =
    record {
      sent : (done : List ℕ) × (listed_sections 1 (collation l.table).sections ≡ done ++ listed_visited l.rank l.item-iterator) × Appends (g.W.Sink.taken l.initial.out) (g.W.Sink.taken l.out) done;
      count : g.W.Sink.failed l.out ≡ g.W.Sink.failed l.initial.out;
      bound : l.rank + length l.item-iterator ≤ 263_169;
    }
