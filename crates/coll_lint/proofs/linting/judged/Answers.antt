-- The text of the table is what its device had.
use Rattle.std.proofs.Common.{Some, [], ap, refl}
use Rattle.coll_lint.proofs.LintCases.{judges}
use Rattle.coll_lint.proofs.linting.judged.Goals as goal

pub returns-in-Ok : goal.returns-in-Ok
returns-in-Ok g c = c.in-Ok.ensures.inputs c.args.table.now [] (ap Some c.new-source.ensures) refl

pub returns-in-Err : goal.returns-in-Err
returns-in-Err g c =
    judges c.args.table.now [] _ _ c.in-Err.first (c.in-Err.ensures.inputs c.args.table.now [] (ap Some c.new-source.ensures) refl) c.in-Err.ensures.writes
