-- The table of the session is that of its history.
use Rattle.std.proofs.Common.{ap, subst, ◌∙◌}
use Rattle.std.specs.Prelude.{IfOk}
use Rattle.coll_nodes.specs.Table.{Collation}
use Rattle.coll_history.specs.Histories.{SessionValue, table_now}
use Rattle.coll_edit_replies.specs.ToldLists.{AreListedBy}
use Rattle.coll_edit_replies.proofs.word_lists.keyed_by.Goals as goal

pub returns-in-Ok-clause-keyed : goal.returns-in-Ok-clause-keyed
returns-in-Ok-clause-keyed c =
    subst (λ (table : Collation). IfOk c.listed-list.result (λ list. AreListedBy table list.items))
    (c.table-table.ensures.table ∙ ap (λ (session : SessionValue). table_now session.history) c.session.ensures) c.listed-list.ensures.keyed
