-- The statement that was taken back last is given up first, and those that get no new record last.
use Rattle.std.proofs.Common.{List, ◌++◌, sym, ap, ◌∙◌, subst, reverse}
use Rattle.std.proofs.lemmas.List.{reverse-reverse}
use Rattle.coll_history.specs.Kept.{added_by_all}
use Rattle.coll_history.specs.Withdrawing.{paired}
use Rattle.coll_history.specs.declared.histories.Kept.{Kept}
use Rattle.coll_table.specs.Record.{AreLoose, Extends, dropped_nodes}
use Rattle.coll_table.specs.declared.records.Record.{Record}
use Rattle.coll_nodes.specs.TableLayout.{TableValue}
use Rattle.coll_history.proofs.GivenUp.{extends_on, extends_without, in_order, loose_first, loose_later, without_first}
use Rattle.coll_history.proofs.PairedStatements.{same_prefix}
use Rattle.coll_history.proofs.withdrawing.settle.Goals as goal

pub give_up_one-requires : goal.give_up_one-requires
give_up_one-requires c =
    let k = c.take_last.result in
    let rest = c.take_last.new.self.items in
    record {
      loose = loose_first c.args.table.now.layout (dropped_nodes k.change) (added_by_all (reverse rest))
          (in_order c.args.table.now.layout c.args.undone.now.items rest k c.take_last.ensures.items c.requires.loose);
    }

pub pair-requires-clause-loose : goal.pair-requires-clause-loose
pair-requires-clause-loose c =
    let k = c.take_last.result in
    let rest = c.take_last.new.self.items in
    subst (λ (t : TableValue). AreLoose t.layout (added_by_all (reverse rest))) (sym c.give_up_one.ensures)
    (loose_later c.args.table.now (dropped_nodes k.change) (added_by_all (reverse rest)) (in_order c.args.table.now.layout c.args.undone.now.items rest k c.take_last.ensures.items c.requires.loose))

pub returns-clause-table : goal.returns-clause-table
returns-clause-table c =
    extends_on c.args.table.now c.give_up_one.new.table c.give_up.new.table
    (subst (Extends c.args.table.now) (sym c.give_up_one.ensures) (extends_without c.args.table.now (dropped_nodes c.take_last.result.change)))
    (extends_on c.give_up_one.new.table c.pair.new.table c.give_up.new.table c.pair.ensures.table c.give_up.ensures.table)

pub returns-clause-remaining : goal.returns-clause-remaining
returns-clause-remaining c = λ rest last e.
    c.pair.ensures.remaining
    ∙ ap (λ (ks : List Kept). c.args.remaining.now.items ++ paired ks (reverse c.reverse.new.self.items))
    (same_prefix c.take_last.new.self.items rest c.take_last.result last (sym c.take_last.ensures.items ∙ e))
    ∙ ap (λ (rs : List Record). c.args.remaining.now.items ++ paired (reverse rest) rs) (ap reverse c.reverse.ensures.items ∙ reverse-reverse c.args.fresh.now.items)

pub returns-clause-dropped : goal.returns-clause-dropped
returns-clause-dropped c =
    c.give_up.ensures.dropped
    ∙ c.pair.ensures.dropped
    ∙ without_first c.args.table.now c.give_up_one.new.table c.args.undone.now.items c.take_last.new.self.items c.take_last.result c.take_last.ensures.items c.give_up_one.ensures
