-- The last record that was undone is given up first, and its nodes are none of the others'.
use Rattle.std.proofs.Common.{reverse, sym, ap, ◌∙◌, subst, refl, arith}
use Rattle.coll_history.specs.Kept.{added_by_all}
use Rattle.coll_table.specs.Record.{AreLoose, Extends, dropped_nodes}
use Rattle.coll_nodes.specs.TableLayout.{TableValue}
use Rattle.coll_history.proofs.GivenUp.{extends_on, extends_self, extends_without, in_order, loose_first, loose_later, steps_without, without_first, without_none}
use Rattle.coll_history.proofs.RebuiltTables.{none_left}
use Rattle.coll_history.proofs.histories.give_up.Goals as goal

pub give_up_one-requires : goal.give_up_one-requires
give_up_one-requires c = record {
  loose = loose_first c.loop-kept.table.layout (dropped_nodes c.in-Some.kept.change) (added_by_all (reverse c.pop.new.self.items))
      (in_order c.loop-kept.table.layout c.loop-kept.undone.items c.pop.new.self.items c.in-Some.kept c.in-Some.ensures.items c.loop-kept.invariant.loose);
}

pub loop-kept-preserved : goal.loop-kept-preserved
loop-kept-preserved c = record {
  table = subst (Extends c.args.table.now) (sym c.give_up_one.ensures) (extends_on _ _ _ c.loop-kept.invariant.table (extends_without c.loop-kept.table (dropped_nodes c.in-Some.kept.change)));
  dropped = without_first c.loop-kept.table c.give_up_one.new.table c.loop-kept.undone.items c.pop.new.self.items c.in-Some.kept c.in-Some.ensures.items c.give_up_one.ensures
      ∙ c.loop-kept.invariant.dropped;
  steps = ap (λ (t : TableValue). t.steps) c.give_up_one.ensures ∙ steps_without c.loop-kept.table _ ∙ c.loop-kept.invariant.steps;
  loose = subst (λ (t : TableValue). AreLoose t.layout (added_by_all (reverse c.pop.new.self.items))) (sym c.give_up_one.ensures)
      (loose_later c.loop-kept.table (dropped_nodes c.in-Some.kept.change) (added_by_all (reverse c.pop.new.self.items))
      (in_order c.loop-kept.table.layout c.loop-kept.undone.items c.pop.new.self.items c.in-Some.kept c.in-Some.ensures.items c.loop-kept.invariant.loose));
  room = c.pop.ensures.capacity ∙ c.loop-kept.invariant.room;
}

pub loop-kept-init : goal.loop-kept-init
loop-kept-init c = record { table = extends_self c.args.table.now; dropped = refl; steps = refl; loose = c.requires.loose; room = refl }

pub returns-clause-dropped : goal.returns-clause-dropped
returns-clause-dropped c =
    sym (without_none c.loop-kept.table c.loop-kept.undone.items (none_left c.loop-kept.undone.items (omega (arith, c.in_default.ensures.cases.0, c.loop-kept.undone.ok.0))))
    ∙ c.loop-kept.invariant.dropped
