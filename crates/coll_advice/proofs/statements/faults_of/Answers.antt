-- What is accepted has no faults.
use Rattle.std.proofs.Common.{sym, ◌∙◌}
use Rattle.coll_nodes.specs.TableLayout.{collation}
use Rattle.coll_advice.proofs.FoundRefusals.{none_where_ok}
use Rattle.coll_advice.proofs.statements.faults_of.Goals as goal

pub returns-in-Ok-clause-faults : goal.returns-in-Ok-clause-faults
returns-in-Ok-clause-faults c = c.new.ensures.items ∙ sym (none_where_ok (collation c.args.table.now) c.args.statement.now c.in-Ok.ensures.ok)
