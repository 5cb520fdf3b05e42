-- What is written and what is left are the whole.
use Rattle.std.proofs.Common.{◌≡◌, drop}
use Rattle.coll_key.specs.ListingParts.{spaced_number}
use Rattle.coll_texts.proofs.PrintedParts.{HasWritten}
use Rattle.coll_key.proofs.listing.write_numbers.Given as goal

abbrev pub invariant-loop-number : goal.invariant-loop-number
invariant-loop-number g l =
    record {
      sent : HasWritten spaced_number l.numbers (drop l.number-index l.numbers) (g.W.Sink.taken l.initial.out) (g.W.Sink.taken l.out);
      count : g.W.Sink.failed l.out ≡ g.W.Sink.failed l.initial.out;
    }
