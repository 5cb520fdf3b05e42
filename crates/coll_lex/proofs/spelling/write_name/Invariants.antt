use Rattle.std.proofs.Common.{◌≡◌, ℕ, List, [], ◌++◌, length}
use Rattle.std.specs.Io.KnownBytes.{Appends}
use Rattle.coll_lex.specs.Spelling.{spelled_name}
use Rattle.coll_lex.proofs.spelling.write_name.Given as goal

abbrev pub invariant-escapes : goal.invariant-escapes
invariant-escapes g l =
    record {
      sent : (done : List ℕ) × (spelled_name l.name [] ≡ done ++ spelled_name l.rest []) × Appends (g.W.Sink.taken l.initial.out) (g.W.Sink.taken l.out) done;
      count : g.W.Sink.failed l.out ≡ g.W.Sink.failed l.initial.out;
    }

abbrev pub decreases-escapes : goal.decreases-escapes
decreases-escapes g l = length l.rest
