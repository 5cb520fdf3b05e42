-- The reading begins, unless memory is refused.
use Rattle.coll_bench.proofs.RunExits.{never_begun}
use Rattle.coll_bench.proofs.runs.serve_text.Goals as goal

pub returns-in-Err-clause-run : goal.returns-in-Err-clause-run
returns-in-Err-clause-run g c start begins text before left_is taken_is =
    never_begun start text before (g.R.Source.left c.args.input.now) (g.W.Sink.taken c.args.output.now) c.no_memory.result c.no_memory.ensures.fault left_is taken_is
