-- A line without a second name stays.
use Rattle.std.proofs.Common.{sym, ◌∙◌}
use Rattle.coll_syntax.specs.declared.statements.Statement.TheVariants as statement
use Rattle.coll_nodes.specs.TableLayout.{declared_at}
use Rattle.coll_statements.proofs.OwnStatements.{statement_same}
use Rattle.coll_statements.proofs.own_statements.own_reweight.Goals as goal

pub returns-then-not-line_uses_second-clause-own : goal.returns-then-not-line_uses_second-clause-own
returns-then-not-line_uses_second-clause-own c =
    sym (statement_same (declared_at c.args.body.now.layout) (statement.Reweight c.args.line.now) (sym c.line_uses_second.ensures ∙ c.if-not-line_uses_second.true))
