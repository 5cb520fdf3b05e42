-- The newest record is the next to be given back.
use Rattle.std.proofs.Common.{sym, ap, ◌∙◌, subst, reverse, arith}
use Rattle.coll_nodes.specs.TableLayout.{TableValue}
use Rattle.coll_history.specs.Kept.{uncounted}
use Rattle.coll_history.specs.Withdrawing.{CanGiveBack, given_back}
use Rattle.coll_history.proofs.RebuiltTables.{back_newest, back_none, can_newest, none_left}
use Rattle.coll_history.proofs.withdrawing.give_back.Goals as goal

pub give_back_one-requires-clause-in_force : goal.give_back_one-requires-clause-in_force
give_back_one-requires-clause-in_force c =
    (can_newest (uncounted c.fresh.table) c.fresh.fresh.items c.pop.new.self.items c.in-Some.change c.in-Some.ensures.items c.fresh.invariant.can).0

pub give_back_one-requires-clause-fits : goal.give_back_one-requires-clause-fits
give_back_one-requires-clause-fits c =
    (can_newest (uncounted c.fresh.table) c.fresh.fresh.items c.pop.new.self.items c.in-Some.change c.in-Some.ensures.items c.fresh.invariant.can).1

pub fresh-preserved : goal.fresh-preserved
fresh-preserved c = record {
  can = subst (λ (t : TableValue). CanGiveBack t (reverse c.pop.new.self.items)) (sym c.give_back_one.ensures)
      (can_newest (uncounted c.fresh.table) c.fresh.fresh.items c.pop.new.self.items c.in-Some.change c.in-Some.ensures.items c.fresh.invariant.can).2;
  same = ap (λ (t : TableValue). given_back t (reverse c.pop.new.self.items)) c.give_back_one.ensures
      ∙ sym (back_newest (uncounted c.fresh.table) c.fresh.fresh.items c.pop.new.self.items c.in-Some.change c.in-Some.ensures.items)
      ∙ c.fresh.invariant.same;
}

pub returns : goal.returns
returns c = sym (back_none (uncounted c.fresh.table) c.fresh.fresh.items (none_left c.fresh.fresh.items (omega (arith, c.in_default.ensures.cases.0, c.fresh.fresh.ok.0)))) ∙ c.fresh.invariant.same
