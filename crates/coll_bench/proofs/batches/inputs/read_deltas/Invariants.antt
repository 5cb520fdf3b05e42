-- The delta files so far give the table; the others are as they were.
use Rattle.std.proofs.Common.{◌≡◌, List, ℕ, map, take, drop, Some, Ok}
use Rattle.coll_nodes.specs.TableLayout.{collation}
use Rattle.coll_bench.specs.BatchOutcome.{after_deltas}
use Rattle.coll_bench.proofs.batches.inputs.read_deltas.Given as goal

abbrev pub invariant-loop-before : goal.invariant-loop-before
invariant-loop-before g l = record {
  rest : drop l.before l.deltas ≡ drop l.before l.initial.deltas;
  taken : (texts : List (List ℕ)) → map g.R.Source.left l.initial.deltas ≡ map Some texts → after_deltas 1 (collation l.initial.table) (take l.before texts) ≡ Ok (collation l.table);
  errors : map g.R.Source.failed l.deltas ≡ map g.R.Source.failed l.initial.deltas;
}
