-- The table, and then the delta files behind it.
use Rattle.std.proofs.Common.{map, ◌∙◌}
use Rattle.coll_nodes.specs.TableLayout.{collation}
use Rattle.coll_bench.proofs.RunCases.{sound_table, load_fails, deltas_fail}
use Rattle.coll_bench.proofs.batches.inputs.read_inputs.Goals as goal

pub returns-in-Err-clause-inputs : goal.returns-in-Err-clause-inputs
returns-in-Err-clause-inputs g c =
    let left = g.R.Source.left in
    rw c.table_fault.ensures (load_fails (left c.args.table.now) (left c.load_keyed.new.input) (map left c.args.deltas.now) (map left c.args.deltas.now) c.in-Err.fault c.in-Err.ensures.loaded)

pub returns-in-Ok-read_deltas-clause-inputs : goal.returns-in-Ok-read_deltas-clause-inputs
returns-in-Ok-read_deltas-clause-inputs g c table_text delta_texts e es =
    sound_table table_text delta_texts (collation c.in-Ok.first) (c.in-Ok.ensures.loaded table_text e) ∙ c.in-Ok-read_deltas.ensures.inputs delta_texts es

pub returns-in-Err-read_deltas-clause-inputs : goal.returns-in-Err-read_deltas-clause-inputs
returns-in-Err-read_deltas-clause-inputs g c =
    let left = g.R.Source.left in
    deltas_fail (left c.args.table.now) (left c.load_keyed.new.input) (map left c.args.deltas.now) (map left c.read_deltas.new.deltas) (collation c.in-Ok.first) (collation c.read_deltas.new.table)
    c.in-Err-read_deltas.ended c.in-Ok.ensures.loaded c.in-Err-read_deltas.ensures.first c.in-Err-read_deltas.ensures.inputs
