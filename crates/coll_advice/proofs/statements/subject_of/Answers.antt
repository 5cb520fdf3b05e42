-- The table's refusal is found.
use Rattle.std.proofs.Common.{ap, ◌∙◌}
use Rattle.coll_nodes.specs.TableLayout.{collation}
use Rattle.coll_advice.specs.Faults.{first_with}
use Rattle.coll_advice.proofs.FoundRefusals.{told_where_refused}
use Rattle.coll_advice.proofs.statements.subject_of.Goals as goal

pub returns-clause-told : goal.returns-clause-told
returns-clause-told c =
    told_where_refused (collation c.args.table.now) c.args.statement.now c.args.refusal c.in_ok-subject.subject c.lemma_well_formed.ensures.well_formed
    (c.in_ok-subject.ensures ∙ ap (first_with c.args.refusal) (c.as_slice.ensures.value ∙ c.in_ok-found.ensures.faults))
