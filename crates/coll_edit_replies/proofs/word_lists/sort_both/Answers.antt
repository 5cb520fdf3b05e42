-- The list is told, and stays so or is sorted anew.
use Rattle.std.proofs.Common.{rules, ap, subst}
use Rattle.std.specs.Prelude.{OnOk}
use Rattle.coll_nodes.specs.Table.{Collation}
use Rattle.coll_history.specs.Histories.{table_now}
use Rattle.coll_bench.specs.Serving.{history_of}
use Rattle.coll_edit_replies.specs.ToldLists.{IsSortedAnew}
use Rattle.coll_edit_replies.proofs.ToldOrders.{listed_still, lists_anew}
use Rattle.coll_edit_replies.proofs.word_lists.sort_both.Goals as goal

pub returns-then-not-changed-clause-listed : goal.returns-then-not-changed-clause-listed
returns-then-not-changed-clause-listed c = λ before by lines same.
    listed_still (table_now (history_of c.args.run.now)) before c.args.list.now.items c.sort_told.new.list.items c.in_ok-sort_told.ensures by lines (same (search rules))

pub returns-clause-listed : goal.returns-clause-listed
returns-clause-listed c =
    lists_anew (table_now (history_of c.args.run.now)) c.args.changed c.args.list.now.items c.sort_told.new.list.items c.sort_anew.new.list.items c.sort_anew.result c.in_ok-sort_told.ensures
    (subst (λ (table : Collation). OnOk c.sort_anew.result (IsSortedAnew table c.sort_told.new.list.items c.sort_anew.new.list.items))
    (ap (λ run. table_now (history_of run)) c.make_ready.ensures) c.sort_anew.ensures)
