-- What is written and what is left are the whole.
use Rattle.std.proofs.Common.{◌≡◌, drop}
use Rattle.coll_nodes.specs.TableLayout.{collation}
use Rattle.coll_texts.proofs.PrintedParts.{HasWritten}
use Rattle.coll_bench.specs.BatchOutcome.{key_line}
use Rattle.coll_bench.proofs.batches.output.write_each_key.Given as goal

abbrev pub invariant-loop-text : goal.invariant-loop-text
invariant-loop-text g l =
    record {
      sent : HasWritten (key_line (collation l.table)) l.texts (drop l.text-index l.texts) (g.W.Sink.taken l.initial.out) (g.W.Sink.taken l.out);
      count : g.W.Sink.failed l.out ≡ g.W.Sink.failed l.initial.out;
    }
