-- The inputs give a table, or are at fault.
use Rattle.std.proofs.Common.{◌∷◌, length, map, Ok}
use Rattle.coll_bench.specs.BatchReading.{ReadsInputs}
use Rattle.coll_bench.proofs.RunCases.{inputs_fail, output_input, output_reads, given_holds}
use Rattle.coll_bench.proofs.batches.run_batch_keyed.Goals as goal

pub returns-in-Ok-clause-run : goal.returns-in-Ok-clause-run
returns-in-Ok-clause-run g c =
    let left = g.R.Source.left in
    c.answer_and_give.ensures.run (left c.args.table.now) (left c.read_inputs.new.table) (map left c.args.deltas.now) (map left c.read_inputs.new.deltas) c.in-Ok.ensures.inputs

pub returns-in-Ok-clause-table : goal.returns-in-Ok-clause-table
returns-in-Ok-clause-table g c =
    let left = g.R.Source.left in
    given_holds (λ table. ReadsInputs (left c.args.table.now) (left c.read_inputs.new.table) (map left c.args.deltas.now) (map left c.read_inputs.new.deltas) (Ok table)) c.in-Ok.changed
    c.answer_and_give.result c.answer_and_give.ensures.table c.in-Ok.ensures.inputs

pub returns-in-Ok-clause-input : goal.returns-in-Ok-clause-input
returns-in-Ok-clause-input g c = output_input (length c.args.deltas.now) c.answer_and_give.result c.answer_and_give.ensures.input

pub returns-in-Ok-clause-reads : goal.returns-in-Ok-clause-reads
returns-in-Ok-clause-reads g c =
    let failed = g.R.Source.failed in
    output_reads (failed c.args.table.now ∷ map failed c.args.deltas.now) (failed c.read_inputs.new.table ∷ map failed c.read_inputs.new.deltas) c.answer_and_give.result c.in-Ok.ensures.reads
    c.answer_and_give.ensures.reads

pub returns-in-Err-clause-run : goal.returns-in-Err-clause-run
returns-in-Err-clause-run g c =
    let left = g.R.Source.left in
    inputs_fail c.args.batch (left c.args.table.now) (left c.read_inputs.new.table) (map left c.args.deltas.now) (map left c.read_inputs.new.deltas) (g.W.Sink.taken c.args.output.now) c.in-Err.ended
    c.in-Err.ensures.inputs
