-- The words get their keys, and are sorted by these.
use Rattle.std.proofs.Common.{List, length, sym, ap, subst, ◌∙◌}
use Rattle.coll_nodes.specs.Table.{Collation}
use Rattle.coll_nodes.specs.TableLayout.{collation}
use Rattle.coll_history.specs.Histories.{SessionValue, table_now}
use Rattle.coll_edit_replies.specs.ToldLists.{IsSortedAnew}
use Rattle.coll_edit_replies.specs.declared.word_lists.ListedWord.{ListedWord}
use Rattle.coll_edit_replies.proofs.ToldOrders.{lent_whole, sorted_anew}
use Rattle.coll_edit_replies.proofs.word_lists.sort_anew.Goals as goal

pub returns : goal.returns
returns c =
    let keyed = c.key_anew-keyed.new.list in
    subst (λ (table : Collation). IsSortedAnew table c.args.list.now.items c.sort_listed.new.list.items)
    (c.table-table.ensures.table ∙ ap (λ (session : SessionValue). table_now session.history) c.session.ensures)
    (sorted_anew (collation c.table-table.result.now) c.lemma_well_formed.ensures.well_formed c.args.list.now.items c.deref_mut.result.now keyed _ c.sort_listed.new.list.items c.deref_mut.ensures.value
    (lent_whole c.args.list.now.len keyed _ (c.key_anew-keyed.ensures.len ∙ ap (λ (l : List ListedWord). length l) c.deref_mut.ensures.value ∙ sym c.args.list.now.ok.0))
    c.in_ok-keyed.ensures.same c.in_ok-keyed.ensures.keyed c.sort_listed.ensures.same c.in_ok-sort_listed.ensures.sorted)
