-- A statement is judged by the table that is kept, which is the replay of what remains; its record leads back to that table.
use Rattle.std.proofs.Common.{◌≡◌, List, [], ◌∷◌, ◌++◌, reverse, Ok, Err, sym, ap, ◌∙◌, subst, arith}
use Rattle.coll_table.specs.Delta.{delta}
use Rattle.coll_history.specs.Histories.{SessionValue, judged}
use Rattle.coll_history.specs.Following.{ArePlaces, behind_statement}
use Rattle.coll_history.specs.Kept.{added_by_all, history_of, uncounted, Leads}
use Rattle.coll_table.specs.Record.{AreLoose}
use Rattle.coll_nodes.specs.Table.{Collation}
use Rattle.coll_nodes.specs.TableLayout.{collation}
use Rattle.coll_history.specs.declared.history_faults.BenchFault.TheVariants.{Table, HistoryFull}
use Rattle.coll_history.specs.declared.histories.Kept.{Kept}
use Rattle.coll_history.proofs.GivenUp.{undone_loose, loose_kept}
use Rattle.coll_history.proofs.FollowedPlaces.{places_accepted}
use Rattle.coll_history.proofs.HistoryLemmas.{replayed, judged_full, judged_refused, judged_accepted, history_with, LeadsOn_none, length-remaining}
use Rattle.coll_history.proofs.HistorySteps.{accepts, collation_uncounted, leads_with, table_uncounted, Accepts}
use Rattle.coll_history.proofs.histories.Session.statement.Goals as goal

pub returns-then-len-ge-MOST_REMAINING-clause-refused : goal.returns-then-len-ge-MOST_REMAINING-clause-refused
returns-then-len-ge-MOST_REMAINING-clause-refused c = λ _.
    let s = c.self.inside in
    subst (λ (v : SessionValue). judged v.history c.args.statement ≡ Err HistoryFull) c.self.view_is
    (judged_full _ _ (omega (arith, length-remaining (uncounted s.table) s.remaining.items s.undone.items, c.if-len-ge-MOST_REMAINING.true, c.len.ensures, s.remaining.ok.0)))

pub returns-in-Err-apply-clause-refused : goal.returns-in-Err-apply-clause-refused
returns-in-Err-apply-clause-refused c = λ other.
    let s = c.self.inside in
    let refused : delta (collation s.table) c.args.statement ≡ Err c.in-Err-apply.refusal = c.in-Err-apply.ensures.err (λ e. other (ap Table e)) in
    subst (λ (v : SessionValue). judged v.history c.args.statement ≡ Err (Table c.in-Err-apply.refusal)) c.self.view_is
    (judged_refused _ _ _ (omega (arith, length-remaining (uncounted s.table) s.remaining.items s.undone.items, c.if-len-ge-MOST_REMAINING.false, c.len.ensures, s.remaining.ok.0))
    (ap (λ (t : Collation). delta t c.args.statement) (replayed (uncounted s.table) s.remaining.items c.self.invariant.leads ∙ collation_uncounted s.table) ∙ refused))

pub give_up-requires : goal.give_up-requires
give_up-requires c =
    let s = c.self.inside in
    let loose : AreLoose s.table.layout (added_by_all (reverse s.undone.items)) =
    undone_loose c.lemma_records_turn_back.ensures c.lemma_undone_records_put_in.ensures (uncounted s.table) (table_uncounted s.table c.lemma_well_formed.ensures.table) (reverse s.undone.items)
    c.self.invariant.leads_on in
    record {
      loose = subst (λ (ks : List Kept). AreLoose c.apply.new.self.layout (added_by_all (reverse ks))) (sym c.make_room.ensures.undone)
          (loose_kept s.table.layout c.apply.new.self.layout _ c.in-Ok.ensures.loose loose);
    }

pub invariant_of-self-2 : goal.invariant_of-self-2
invariant_of-self-2 c =
    let s = c.self.inside in
    let k : Kept = record { statement = c.args.statement; change = c.in-Ok.change } in
    let a : Accepts (uncounted s.table) (uncounted c.apply.new.self) (uncounted c.give_up.new.table) k =
    accepts s.table c.apply.new.self c.give_up.new.table k c.lemma_well_formed.ensures.table c.lemma_well_formed-2.ensures.table c.lemma_well_formed-3.ensures.table c.requires.proper
    c.in-Ok.ensures.ok c.in-Ok.ensures.in_force c.in-Ok.ensures.fits c.in-Ok.ensures.back c.in-Ok.ensures.steps c.give_up.ensures.table in
    let then = leads_with c.lemma_records_turn_back.ensures c.lemma_records_fit_wider.ensures c.lemma_records_fit_narrower.ensures c.lemma_wider_tables_read_alike.ensures (uncounted s.table)
    (uncounted c.apply.new.self) (uncounted c.give_up.new.table) s.remaining.items k a c.self.invariant.leads in
    let grown = c.push_reserved.ensures.items ∙ ap (λ (ks : List Kept). ks ++ k ∷ []) c.make_room.ensures.remaining in
    record {
      leads = subst (Leads (uncounted c.give_up.new.table)) (sym grown) then.leads;
      leads_on = LeadsOn_none (uncounted c.give_up.new.table) _ c.give_up.ensures.undone;
      few = omega (arith, c.push_reserved.ensures.len, c.make_room.ensures.len, c.if-len-ge-MOST_REMAINING.false, c.len.ensures, c.give_up.ensures.len);
      undo_room = omega (arith, c.push_reserved.ensures.len, c.make_room.ensures.len, c.in_default.ensures.room, c.give_up.ensures.len, c.give_up.ensures.room);
      redo_room = omega (arith, c.push_reserved.ensures.len, c.push_reserved.ensures.capacity, c.make_room.ensures.len, c.in_default.ensures.place, c.give_up.ensures.len);
      places = rw c.behind_statement-self-inside.ensures
          (subst (λ (ks : List Kept). ArePlaces (behind_statement c.catch_up-self-inside.result) c.catch_up-self-inside.new.numbers (uncounted c.give_up.new.table) ks c.give_up.new.undone.items) (sym grown)
          (places_accepted c.lemma_records_turn_back.ensures c.lemma_records_fit_narrower.ensures c.lemma_wider_tables_are_numbered_alike.ensures c.catch_up-self-inside.new.numbers (uncounted s.table)
          (uncounted c.apply.new.self) (uncounted c.give_up.new.table) s.remaining.items c.give_up.new.undone.items k a c.catch_up-self-inside.result c.catch_up-self-inside.ensures));
    }

pub returns-clause-accepted : goal.returns-clause-accepted
returns-clause-accepted c =
    let s = c.self.inside in
    let k : Kept = record { statement = c.args.statement; change = c.in-Ok.change } in
    let a : Accepts (uncounted s.table) (uncounted c.apply.new.self) (uncounted c.give_up.new.table) k =
    accepts s.table c.apply.new.self c.give_up.new.table k c.lemma_well_formed.ensures.table c.lemma_well_formed-2.ensures.table c.lemma_well_formed-3.ensures.table c.requires.proper
    c.in-Ok.ensures.ok c.in-Ok.ensures.in_force c.in-Ok.ensures.fits c.in-Ok.ensures.back c.in-Ok.ensures.steps c.give_up.ensures.table in
    let then = leads_with c.lemma_records_turn_back.ensures c.lemma_records_fit_wider.ensures c.lemma_records_fit_narrower.ensures c.lemma_wider_tables_read_alike.ensures (uncounted s.table)
    (uncounted c.apply.new.self) (uncounted c.give_up.new.table) s.remaining.items k a c.self.invariant.leads in
    let grown = c.push_reserved.ensures.items ∙ ap (λ (ks : List Kept). ks ++ k ∷ []) c.make_room.ensures.remaining in
    let accepted = judged_accepted (history_of (uncounted s.table) s.remaining.items s.undone.items) c.args.statement (collation (uncounted c.apply.new.self))
    (omega (arith, length-remaining (uncounted s.table) s.remaining.items s.undone.items, c.if-len-ge-MOST_REMAINING.false, c.len.ensures, s.remaining.ok.0))
    (ap (λ (t : Collation). delta t c.args.statement) (replayed (uncounted s.table) s.remaining.items c.self.invariant.leads) ∙ a.accepted) in
    let start = subst (λ (ks : List Kept). collation (Rattle.coll_history.specs.Kept.undone_by (uncounted c.give_up.new.table) ks)
    ≡ collation (Rattle.coll_history.specs.Kept.undone_by (uncounted s.table) s.remaining.items)) (sym grown) then.start in
    subst (λ (v : SessionValue). judged v.history c.args.statement ≡ Ok (history_of (uncounted c.give_up.new.table) c.push_reserved.new.self.items c.give_up.new.undone.items)) c.self.view_is
    (accepted ∙ ap Ok (sym (history_with _ _ s.remaining.items s.undone.items _ c.give_up.new.undone.items k grown c.give_up.ensures.undone start)))
