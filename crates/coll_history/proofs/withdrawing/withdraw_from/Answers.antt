-- A withdrawal that is refused leaves all as it was, and one that is accepted leaves what the definition says.
use Rattle.std.proofs.Common.{◌≡◌, ◌+◌, ◌++◌, ◌∙◌, Ok, Err, List, length, reverse, sym, ap, subst, arith}
use Rattle.std.proofs.Math.Numerals.{lt-add-one}
use Rattle.coll_nodes.specs.TableLayout.{TableValue, collation}
use Rattle.coll_history.specs.Kept.{history_of, uncounted}
use Rattle.coll_history.specs.Withdrawing.{IsLowered, StandsBeforeLast, paired}
use Rattle.coll_history.specs.declared.histories.Kept.{Kept}
use Rattle.coll_history.proofs.HistoryLemmas.{LeadsOn_none}
use Rattle.coll_history.proofs.HistorySteps.{extends_uncounted, table_uncounted}
use Rattle.coll_history.proofs.WithdrawnStatements.{judged_anew, later_proper, leads_settled, loose_rebuilt, paired_later, settled_history, LeadsSettled}
use Rattle.coll_history.proofs.withdrawing.withdraw_from.Goals as goal

pub rebuild-requires-clause-proper : goal.rebuild-requires-clause-proper
rebuild-requires-clause-proper c = later_proper (uncounted c.take_down.new.table) c.take_down.new.undone.items c.before_last.result.now c.take_down.ensures.leads_on
    (subst (λ (ks : List Kept). StandsBeforeLast ks c.before_last.result.now) c.deref.ensures.value c.before_last.ensures.parts)

pub returns-in-Err-clause-refused : goal.returns-in-Err-clause-refused
returns-in-Err-clause-refused c = λ other.
    judged_anew (history_of (uncounted c.args.table.now) c.args.remaining.now.items c.args.undone.now.items) (uncounted c.take_down.new.table) c.take_down.new.remaining.items
    c.take_down.new.undone.items c.before_last.result.now c.args.number c.args.later (Err c.in-Err.fault)
    c.take_down.ensures.leads c.take_down.ensures.lowered c.before_last.ensures.count
    (subst (λ (ks : List Kept). StandsBeforeLast ks c.before_last.result.now) c.deref.ensures.value c.before_last.ensures.parts)
    (omega (arith, c.take_down.ensures.remaining_len, c.requires.later, c.take_down.new.remaining.ok.0))
    (c.in-Err.ensures.refused other c.args.number (lt-add-one c.args.number))

pub returns-in-Err-clause-unchanged : goal.returns-in-Err-clause-unchanged
returns-in-Err-clause-unchanged c =
    let high = history_of (uncounted c.args.table.now) c.args.remaining.now.items c.args.undone.now.items in
    c.put_up.ensures.lowered high
    (subst (λ (t : TableValue). IsLowered high (history_of t c.take_down.new.remaining.items c.take_down.new.undone.items) (c.args.later + 1)) (sym c.in-Err.ensures.unchanged)
    c.take_down.ensures.lowered)

pub settle-requires-clause-loose : goal.settle-requires-clause-loose
settle-requires-clause-loose c =
    loose_rebuilt c.lemma_records_turn_back.ensures c.lemma_undone_records_put_in.ensures (uncounted c.take_down.new.table) (uncounted c.rebuild.new.table) c.take_down.new.undone.items _
    (table_uncounted c.take_down.new.table c.lemma_well_formed.ensures.table) c.take_down.ensures.leads_on c.in_default.ensures.rebuilt

-- the later statements stand before the last one that was taken back
parts_of : (c : goal.After-lemma_well_formed-3) → StandsBeforeLast c.take_down.new.undone.items c.before_last.result.now
parts_of c = subst (λ (ks : List Kept). StandsBeforeLast ks c.before_last.result.now) c.deref.ensures.value c.before_last.ensures.parts

-- what remains
remaining_is : (c : goal.After-lemma_well_formed-3) → c.settle.new.remaining.items ≡ c.take_down.new.remaining.items ++ paired (reverse c.before_last.result.now) c.rebuild.new.fresh.items
remaining_is c =
    let p = parts_of c in
    c.settle.ensures.remaining (p.earlier ++ c.before_last.result.now) p.last p.parts
    ∙ ap (λ (ks : List Kept). c.take_down.new.remaining.items ++ ks)
    (paired_later c.before_last.result.now p.earlier c.rebuild.new.fresh.items (omega (arith, c.in_default.ensures.count, c.rebuild.new.fresh.ok.0)))

settled : (c : goal.After-lemma_well_formed-3) → LeadsSettled (uncounted c.settle.new.table) (uncounted c.take_down.new.table) c.settle.new.remaining.items c.take_down.new.remaining.items
settled c =
    leads_settled c.lemma_records_turn_back.ensures c.lemma_records_fit_wider.ensures c.lemma_records_fit_narrower.ensures c.lemma_wider_tables_read_alike.ensures
    (uncounted c.take_down.new.table) (uncounted c.rebuild.new.table) (uncounted c.settle.new.table) c.take_down.new.remaining.items _ c.settle.new.remaining.items
    (table_uncounted c.rebuild.new.table c.lemma_well_formed-2.ensures.table) (table_uncounted c.settle.new.table c.lemma_well_formed-3.ensures.table)
    c.take_down.ensures.leads c.in_default.ensures.rebuilt
    (extends_uncounted c.rebuild.new.table c.settle.new.table c.settle.ensures.table)
    (remaining_is c)

pub returns-clause-leads : goal.returns-clause-leads
returns-clause-leads c = (settled c).leads

pub returns-clause-leads_on : goal.returns-clause-leads_on
returns-clause-leads_on c = LeadsOn_none (uncounted c.settle.new.table) c.settle.new.undone.items c.settle.ensures.undone

pub returns-clause-withdrawn : goal.returns-clause-withdrawn
returns-clause-withdrawn c =
    let high = history_of (uncounted c.args.table.now) c.args.remaining.now.items c.args.undone.now.items in
    let low = uncounted c.take_down.new.table in
    let place : length c.take_down.new.remaining.items + 1 ≡ c.args.number = omega (arith, c.take_down.ensures.remaining_len, c.requires.later, c.take_down.new.remaining.ok.0) in
    let fresh_len : length c.rebuild.new.fresh.items ≡ length c.before_last.result.now = omega (arith, c.in_default.ensures.count, c.rebuild.new.fresh.ok.0) in
    judged_anew high low c.take_down.new.remaining.items c.take_down.new.undone.items c.before_last.result.now c.args.number c.args.later (Ok (collation (uncounted c.rebuild.new.table)))
    c.take_down.ensures.leads c.take_down.ensures.lowered c.before_last.ensures.count (parts_of c) place
    (c.in_default.ensures.accepted c.args.number (lt-add-one c.args.number))
    ∙ ap Ok (sym (settled_history high low (uncounted c.settle.new.table) c.take_down.new.remaining.items c.take_down.new.undone.items c.before_last.result.now c.settle.new.remaining.items
    c.settle.new.undone.items c.rebuild.new.fresh.items c.args.number c.args.later
    c.take_down.ensures.lowered c.before_last.ensures.count (parts_of c) place fresh_len (remaining_is c) c.settle.ensures.undone (settled c).start))
