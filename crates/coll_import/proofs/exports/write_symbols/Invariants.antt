-- What is written and what is left are the whole.
use Rattle.std.proofs.Common.{◌≡◌}
use Rattle.coll_nodes.specs.TableLayout.{collation}
use Rattle.coll_import.specs.Exports.{visited_told}
use Rattle.coll_texts.proofs.PrintedParts.{HasWritten}
use Rattle.coll_import.proofs.exports.write_symbols.Given as goal

abbrev pub invariant-symbols : goal.invariant-symbols
invariant-symbols g l =
    record {
      sent : HasWritten (visited_told l.file (collation l.table).declared) l.initial.left l.left (g.W.Sink.taken l.initial.out) (g.W.Sink.taken l.out);
      count : g.W.Sink.failed l.out ≡ g.W.Sink.failed l.initial.out;
    }
