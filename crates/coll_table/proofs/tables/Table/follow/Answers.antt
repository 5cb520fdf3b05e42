-- Places of entries are numbers of their nodes, which follow the items.
use Rattle.std.proofs.Common.{sym, ap, subst}
use Rattle.coll_nodes.specs.NodeNumbers.{entry_nodes}
use Rattle.coll_nodes.specs.TableLayout.{TableLayout, TableValue}
use Rattle.coll_table.proofs.FollowedTables.{before_done, before_undone, numbered_table}
use Rattle.coll_table.specs.Following.{AreNumbered}
use Rattle.coll_table.specs.Turning.{turned_back, turned_on}
use Rattle.coll_table.proofs.tables.Table.follow.Goals as goal

pub follow_undone-requires-clause-numbers : goal.follow_undone-requires-clause-numbers
follow_undone-requires-clause-numbers c =
    subst (λ (layout : TableLayout). AreNumbered c.args.numbers.now (entry_nodes (turned_on layout c.get-items.result.now)) 1000000) (sym (ap (λ (table : TableValue). table.layout) c.self.view_is))
    (rw c.get-items.ensures (before_undone c.args.self.now c.args.kept.now c.args.numbers.now c.lemma_well_formed.ensures.table c.requires.fits c.requires.numbers c.if-kept.true))

pub returns-then-kept : goal.returns-then-kept
returns-then-kept c = λ followed.
    numbered_table c.args.self.now c.follow_undone.new.numbers 1004096 c.lemma_well_formed.ensures.table
    (subst (λ (layout : TableLayout). AreNumbered c.follow_undone.new.numbers (entry_nodes layout) 1004096) (ap (λ (table : TableValue). table.layout) c.self.view_is)
    (c.follow_undone.ensures followed))

pub follow_done-requires-clause-numbers : goal.follow_done-requires-clause-numbers
follow_done-requires-clause-numbers c =
    subst (λ (layout : TableLayout). AreNumbered c.args.numbers.now (entry_nodes (turned_back layout c.get-items.result.now)) 1000000) (sym (ap (λ (table : TableValue). table.layout) c.self.view_is))
    (rw c.get-items.ensures (before_done c.args.self.now c.args.kept.now c.args.numbers.now c.lemma_well_formed.ensures.table c.requires.fits c.requires.numbers c.if-kept.false))

pub returns : goal.returns
returns c = λ followed.
    numbered_table c.args.self.now c.follow_done.new.numbers 1004096 c.lemma_well_formed.ensures.table
    (subst (λ (layout : TableLayout). AreNumbered c.follow_done.new.numbers (entry_nodes layout) 1004096) (ap (λ (table : TableValue). table.layout) c.self.view_is)
    (c.follow_done.ensures followed))
