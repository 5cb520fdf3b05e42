-- One statement less is left to be put up.
use Rattle.std.proofs.Common.{◌≡◌, ◌-◌, suc, sym, ap, subst, ◌∙◌, arith, reverse, ℕ}
use Rattle.coll_history.specs.Kept.{history_of, uncounted}
use Rattle.coll_history.specs.Withdrawing.{IsLowered, raised}
use Rattle.coll_history.proofs.LoweredHistories.{as_high, next_fits, raised_none, up_leads, up_leads_on, up_lowered, up_raised}
use Rattle.coll_history.proofs.withdrawing.put_up.Goals as goal

pub turn_last-requires-clause-fits : goal.turn_last-requires-clause-fits
turn_last-requires-clause-fits c = next_fits (uncounted c.up.table) c.up.undone.items c.up.invariant.leads_on

pub up-preserved : goal.up-preserved
up-preserved c =
    let table = uncounted c.up.table in
    let table1 = uncounted c.turn_last.new.table in
    let t = c.turn_last.ensures.turned in
    let less : c.up.left ≡ suc (c.up.left - 1) = omega (arith, c.up-test.true) in
    record {
      within = omega (arith, c.up.invariant.within);
      leads = up_leads table table1 _ _ _ _ t c.up.invariant.leads c.up.invariant.leads_on;
      leads_on = up_leads_on table table1 _ _ _ _ t c.up.invariant.leads_on;
      lowered = λ high l. up_lowered table table1 _ _ _ _ t high c.up.left (c.up.left - 1) less (c.up.invariant.lowered high l);
      up = up_raised table table1 _ _ _ _ t c.up.left (c.up.left - 1) less ∙ c.up.invariant.up;
      remaining_len = omega (arith, c.turn_last.ensures.onto_len, c.up.invariant.remaining_len, c.up-test.true);
      undone_len = omega (arith, c.turn_last.ensures.from_len, c.up.invariant.undone_len, c.up-test.true);
      remaining_room = c.turn_last.ensures.onto_room ∙ c.up.invariant.remaining_room;
      undone_room = c.turn_last.ensures.from_room ∙ c.up.invariant.undone_room;
    }

pub returns-clause-lowered : goal.returns-clause-lowered
returns-clause-lowered c = λ high l.
    let now = history_of (uncounted c.up.table) c.up.remaining.items c.up.undone.items in
    let none : c.up.left ≡ 0 = omega (arith, c.up-test.false) in
    as_high high now (subst (IsLowered high now) none (c.up.invariant.lowered high l))

pub returns-clause-up : goal.returns-clause-up
returns-clause-up c =
    let none : c.up.left ≡ 0 = omega (arith, c.up-test.false) in
    sym (raised_none (uncounted c.up.table) (reverse c.up.undone.items))
    ∙ ap (λ (n : ℕ). raised n (uncounted c.up.table) (reverse c.up.undone.items)) (sym none)
    ∙ c.up.invariant.up
