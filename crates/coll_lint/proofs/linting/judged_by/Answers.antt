-- The text of the delta file is what its device had.
use Rattle.std.proofs.Common.{Some, ap}
use Rattle.coll_nodes.specs.TableLayout.{collation}
use Rattle.coll_lint.proofs.LintCases.{judges_delta, one_changed}
use Rattle.coll_lint.proofs.linting.judged_by.Goals as goal

pub returns-in-Ok : goal.returns-in-Ok
returns-in-Ok c = (
  collation c.read_delta.new.taker,
  one_changed (collation c.args.read.now) (collation c.read_delta.new.taker) c.args.delta.now
      (c.in-Ok.ensures.file c.args.delta.now (ap (λ s. Some s.now) c.new-source.ensures.device)),
)

pub returns-in-Err : goal.returns-in-Err
returns-in-Err c =
    judges_delta (collation c.args.read.now) c.args.delta.now _ c.in-Err.first
    (c.in-Err.ensures.file c.args.delta.now (ap (λ s. Some s.now) c.new-source.ensures.device)) c.in-Err.ensures.writes
