-- A statement that the table accepts rewrites it; another one leaves it as it was.
use Rattle.coll_nodes.specs.TableLayout.{collation}
use Rattle.coll_tailorings.proofs.RewritingLemmas.{accepted_rewrites, refused_stays}
use Rattle.coll_tailorings.proofs.accepted_statements.lines_with.Goals as goal

pub returns-then-not-branch-clause-put : goal.returns-then-not-branch-clause-put
returns-then-not-branch-clause-put c =
    refused_stays c.in_ok-is_accepted.field-0 (collation c.args.table.now) c.args.statement.now (collation c.is_accepted.new.table)
    c.in_ok-is_accepted.ensures c.if-not-branch.true

pub returns-clause-put : goal.returns-clause-put
returns-clause-put c =
    accepted_rewrites c.in_ok-is_accepted.field-0 (collation c.args.table.now) c.args.statement.now (collation c.is_accepted.new.table)
    c.in_ok-is_accepted.ensures c.if-not-branch.false
