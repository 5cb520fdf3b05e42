-- What is refused has the faults of its refusal, and that is among them.
use Rattle.std.proofs.Common.{sym, ◌∙◌}
use Rattle.coll_nodes.specs.TableLayout.{collation}
use Rattle.coll_table.specs.declared.refusals.Refusal.TheVariants.{OutOfMemory}
use Rattle.coll_advice.proofs.FoundRefusals.{accepted_where_none, other_refusal, refused}
use Rattle.coll_advice.proofs.statements.faults_behind.Goals as goal

pub returns-clause-faults : goal.returns-clause-faults
returns-clause-faults c =
    let other = other_refusal c.args.refusal OutOfMemory c.number.result c.number-2.result c.number.ensures c.number-2.ensures c.if-number.false in
    c.in_ok-found.ensures ∙ sym (refused (collation c.args.table.now) c.args.statement.now c.args.refusal (c.requires.refused other))

pub returns-clause-accepted : goal.returns-clause-accepted
returns-clause-accepted c =
    let other = other_refusal c.args.refusal OutOfMemory c.number.result c.number-2.result c.number.ensures c.number-2.ensures c.if-number.false in
    accepted_where_none (collation c.args.table.now) c.args.statement.now c.in_ok-found.found.items c.lemma_well_formed.ensures.well_formed
    (c.in_ok-found.ensures ∙ sym (refused (collation c.args.table.now) c.args.statement.now c.args.refusal (c.requires.refused other)))
