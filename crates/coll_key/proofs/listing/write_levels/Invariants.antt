-- What is written and what is left are the whole.
use Rattle.std.proofs.Common.{◌≡◌, drop}
use Rattle.coll_key.specs.ListingParts.{levels_bytes}
use Rattle.coll_key.proofs.ListingLemmas.{IsLeft}
use Rattle.coll_key.proofs.listing.write_levels.Given as goal

abbrev pub invariant-loop-level : goal.invariant-loop-level
invariant-loop-level g l =
    record {
      sent : IsLeft (levels_bytes l.ranks l.rank l.owner 0 l.weights) (levels_bytes l.ranks l.rank l.owner l.level (drop l.level l.weights)) (g.W.Sink.taken l.initial.out) (g.W.Sink.taken l.out);
      count : g.W.Sink.failed l.out ≡ g.W.Sink.failed l.initial.out;
    }
