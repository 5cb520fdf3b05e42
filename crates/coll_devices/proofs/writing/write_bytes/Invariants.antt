use Rattle.std.proofs.Common.{◌≡◌, ℕ, List, ◌++◌, length}
use Rattle.std.specs.Io.KnownBytes.{Appends}
use Rattle.coll_devices.proofs.writing.write_bytes.Given as goal

abbrev pub invariant-writes : goal.invariant-writes
invariant-writes g l =
    record {
      sent : (done : List ℕ) × (l.bytes ≡ done ++ l.rest) × Appends (g.W.Sink.taken l.initial.out) (g.W.Sink.taken l.out) done;
      count : g.W.Sink.failed l.out ≡ g.W.Sink.failed l.initial.out;
    }

abbrev pub decreases-writes : goal.decreases-writes
decreases-writes g l = length l.rest
