-- One statement more is taken back.
use Rattle.std.proofs.Common.{refl, ◌∙◌, arith, reverse}
use Rattle.coll_history.specs.Kept.{history_of, uncounted}
use Rattle.coll_history.proofs.LoweredHistories.{down_leads, down_leads_on, down_lowered, down_raised, last_fits, not_lowered, raised_none}
use Rattle.coll_history.proofs.withdrawing.take_down.Goals as goal

pub turn_last-requires-clause-fits : goal.turn_last-requires-clause-fits
turn_last-requires-clause-fits c = last_fits (uncounted c.down.table) c.down.remaining.items c.down.invariant.leads

pub down-preserved : goal.down-preserved
down-preserved c =
    let table = uncounted c.down.table in
    let table1 = uncounted c.turn_last.new.table in
    let t = c.turn_last.ensures.turned in
    record {
      within = omega (arith, c.down-test.true);
      leads = down_leads table table1 _ _ _ _ t c.down.invariant.leads;
      leads_on = down_leads_on table table1 _ _ _ _ t c.down.invariant.leads c.down.invariant.leads_on;
      lowered = down_lowered table table1 _ _ _ _ t _ c.down.taken c.down.invariant.lowered;
      up = down_raised table table1 _ _ _ _ t c.down.taken ∙ c.down.invariant.up;
      remaining_len = omega (arith, c.turn_last.ensures.from_len, c.down.invariant.remaining_len);
      undone_len = omega (arith, c.turn_last.ensures.onto_len, c.down.invariant.undone_len);
      remaining_room = c.turn_last.ensures.from_room ∙ c.down.invariant.remaining_room;
      undone_room = c.turn_last.ensures.onto_room ∙ c.down.invariant.undone_room;
    }

pub down-init : goal.down-init
down-init c = record {
  within = omega arith;
  leads = c.requires.leads;
  leads_on = c.requires.leads_on;
  lowered = not_lowered (history_of (uncounted c.args.table.now) c.args.remaining.now.items c.args.undone.now.items);
  up = raised_none (uncounted c.args.table.now) (reverse c.args.undone.now.items);
  remaining_len = omega arith;
  undone_len = omega arith;
  remaining_room = refl;
  undone_room = refl;
}
