-- A session that has just begun keeps nothing.
use Rattle.std.proofs.Common.{arith}
use Rattle.coll_history.specs.Kept.{uncounted}
use Rattle.coll_history.proofs.HistoryLemmas.{LeadsOn_none, Leads_none, history_begun}
use Rattle.coll_history.proofs.histories.Session.new.Goals as goal

pub invariant_of-result : goal.invariant_of-result
invariant_of-result c = record {
  leads = Leads_none (uncounted c.args.table) _ c.new.ensures.items;
  leads_on = LeadsOn_none (uncounted c.args.table) _ c.new-2.ensures.items;
  few = omega (arith, c.new.ensures.len, c.new-2.ensures.len);
  undo_room = omega (arith, c.new.ensures.len, c.new-2.ensures.len);
  redo_room = omega (arith, c.new.ensures.len, c.new-2.ensures.len);
  places = tt;
}

pub returns-clause-history : goal.returns-clause-history
returns-clause-history c = history_begun c.args.table _ _ c.new.ensures.items c.new-2.ensures.items
