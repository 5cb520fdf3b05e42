-- A run begins, unless memory is refused.
use Rattle.coll_nodes.specs.TableLayout.{collation}
use Rattle.coll_history.specs.Histories.{begun}
use Rattle.coll_bench.proofs.RunExits.{never_begun}
use Rattle.coll_bench.proofs.runs.run_session.Goals as goal

pub returns-in-Ok-clause-run : goal.returns-in-Ok-clause-run
returns-in-Ok-clause-run g c = c.serve_text-ran.ensures.run (begun (collation c.args.table)) c.in-Ok.ensures

pub returns-in-Err-clause-run : goal.returns-in-Err-clause-run
returns-in-Err-clause-run g c text before left_is taken_is =
    never_begun (begun (collation c.args.table)) text before (g.R.Source.left c.args.input.now) (g.W.Sink.taken c.args.output.now) c.no_memory.result c.no_memory.ensures.fault left_is taken_is
