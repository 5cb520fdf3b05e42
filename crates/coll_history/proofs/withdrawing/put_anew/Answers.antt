-- The statement that is left last is put to the table: its record joins the new ones, or it is the first that is refused.
use Rattle.std.proofs.Common.{◌≡◌, ◌≢◌, ◌<◌, ◌∷◌, ◌∙◌, Err, List, length, reverse, refl, sym, ap, subst, arith}
use Rattle.coll_nodes.specs.Table.{Collation}
use Rattle.coll_nodes.specs.TableLayout.{collation}
use Rattle.coll_table.specs.Delta.{delta}
use Rattle.coll_table.specs.declared.records.Record.{Record}
use Rattle.coll_table.specs.declared.refusals.Refusal.TheVariants.{OutOfMemory}
use Rattle.coll_history.specs.Kept.{uncounted}
use Rattle.coll_history.specs.Withdrawing.{CanGiveBack, IsRebuilt, given_back, paired, with_record}
use Rattle.coll_history.proofs.GivenUp.{extends_self}
use Rattle.coll_history.proofs.HistorySteps.{accepts, collation_uncounted, Accepts}
use Rattle.coll_history.proofs.RebuiltTables.{back_more, back_none, can_more, can_none, comes_first, first_proper, goes_on_with, is_made, none_left}
use Rattle.coll_history.proofs.RebuiltTables.{paired_more, paired_none, rebuilt_more, rebuilt_none, stops_at, unpaired, unpaired_all, unpaired_less}
use Rattle.coll_history.proofs.withdrawing.put_anew.Goals as goal

pub anew-init : goal.anew-init
anew-init c = record {
  can = can_none (uncounted c.args.table.now) c.args.fresh.now.items c.requires.none;
  back = back_none (uncounted c.args.table.now) c.args.fresh.now.items c.requires.none;
  rebuilt = rebuilt_none (uncounted c.args.table.now) _ (paired_none (reverse c.args.later.now) c.args.fresh.now.items c.requires.none);
  unpaired = unpaired_all (reverse c.args.later.now) c.args.fresh.now.items c.requires.none;
  proper = c.requires.proper;
  count = omega (arith, ap length c.requires.none, c.args.fresh.now.ok.0);
  number = omega (arith, ap length c.requires.none, c.args.fresh.now.ok.0);
  same = λ left_out below. refl;
  room = refl;
}

pub apply-requires : goal.apply-requires
apply-requires c = record { proper = (first_proper c.anew.left.now c.in-Some.rest.now c.in-Some.kept.now c.in-Some.ensures.cases.0 c.anew.invariant.proper).0 }

pub returns-in-Err-clause-refused : goal.returns-in-Err-clause-refused
returns-in-Err-clause-refused c = λ other left_out below.
    let fine : c.in-Err.refusal ≢ OutOfMemory = λ e. other (c.needed_fault.ensures.memory e) in
    let above : left_out < c.anew.number = omega (arith, c.anew.invariant.number, below) in
    let refused : delta (collation (uncounted c.anew.table)) c.in-Some.kept.now.statement ≡ Err c.in-Err.refusal =
    ap (λ (t : Collation). delta t c.in-Some.kept.now.statement) (collation_uncounted c.anew.table) ∙ c.in-Err.ensures.err fine in
    c.anew.invariant.same left_out below
    ∙ stops_at left_out c.anew.number (collation (uncounted c.anew.table)) c.anew.left.now c.in-Some.rest.now c.in-Some.kept.now c.in-Err.refusal c.in-Some.ensures.cases.0 above refused
    ∙ ap Err (sym (c.needed_fault.ensures.needed fine))

pub anew-preserved : goal.anew-preserved
anew-preserved c =
    let old = uncounted c.args.table.now in
    let table = c.anew.table in
    let after = c.apply.new.self in
    let fresh = c.anew.fresh.items in
    let change = c.in-Ok.change in
    let k = c.in-Some.kept.now in
    let rest = c.in-Some.rest.now in
    let all = reverse c.args.later.now in
    let grown = c.push_reserved.ensures.items in
    let proper = first_proper c.anew.left.now rest k c.in-Some.ensures.cases.0 c.anew.invariant.proper in
    let a : Accepts (uncounted table) (uncounted after) (uncounted after) (with_record k change) =
    accepts table after after (with_record k change) c.lemma_well_formed.ensures.table c.lemma_well_formed-in-Some.ensures.table c.lemma_well_formed-in-Some.ensures.table proper.0 c.in-Ok.ensures.ok
    c.in-Ok.ensures.in_force c.in-Ok.ensures.fits c.in-Ok.ensures.back c.in-Ok.ensures.steps (extends_self after) in
    let next : unpaired all fresh ≡ k ∷ reverse rest = c.anew.invariant.unpaired ∙ comes_first c.anew.left.now rest k c.in-Some.ensures.cases.0 in
    record {
      can = subst (λ (rs : List Record). CanGiveBack (uncounted after) (reverse rs)) (sym grown)
          (can_more table after fresh change c.in-Ok.ensures.in_force c.in-Ok.ensures.fits c.in-Ok.ensures.added c.anew.invariant.can);
      back = ap (λ (rs : List Record). given_back (uncounted after) (reverse rs)) grown ∙ back_more table after fresh change c.in-Ok.ensures.added ∙ c.anew.invariant.back;
      rebuilt = subst (IsRebuilt old (uncounted after)) (sym (ap (paired all) grown ∙ paired_more all (reverse rest) fresh k change next))
          (rebuilt_more c.lemma_records_turn_back.ensures c.lemma_records_fit_wider.ensures c.lemma_records_fit_narrower.ensures c.lemma_wider_tables_read_alike.ensures old (uncounted table)
          (uncounted after) (paired all fresh) (with_record k change) c.anew.invariant.rebuilt a c.in-Ok.ensures.loose);
      unpaired = ap (unpaired all) grown ∙ unpaired_less all (reverse rest) fresh k change next;
      proper = proper.1;
      count = omega (arith, c.push_reserved.ensures.len, c.in-Some.ensures.cases.1, c.anew.invariant.count);
      number = omega (arith, c.push_reserved.ensures.len, c.anew.invariant.number);
      same = λ left_out below.
          c.anew.invariant.same left_out below
          ∙ goes_on_with left_out c.anew.number (collation (uncounted table)) (collation (uncounted after)) c.anew.left.now rest k c.in-Some.ensures.cases.0
          (omega (arith, c.anew.invariant.number, below)) a.accepted;
      room = c.push_reserved.ensures.capacity ∙ c.anew.invariant.room;
    }

pub returns-clause-accepted : goal.returns-clause-accepted
returns-clause-accepted c = λ left_out below.
    c.anew.invariant.same left_out below ∙ is_made left_out c.anew.number (collation (uncounted c.anew.table)) c.anew.left.now (none_left c.anew.left.now c.in_default.ensures.cases)
