-- An undo turns the last record, which leads back to the table before its statement.
use Rattle.std.proofs.Common.{◌≡◌, Ok, Err, refl, subst, sym, ap, ◌∙◌, List, [], ◌∷◌, ◌++◌, reverse, arith}
use Rattle.coll_history.specs.Histories.{SessionValue, taken_back, undo_steps}
use Rattle.coll_history.specs.Following.{ArePlaces}
use Rattle.coll_history.specs.Kept.{Leads, LeadsOn, history_of, uncounted}
use Rattle.coll_table.specs.Record.{more_steps}
use Rattle.coll_history.specs.declared.history_faults.BenchFault.TheVariants.{NothingToUndo}
use Rattle.coll_history.specs.declared.histories.Kept.{Kept}
use Rattle.coll_history.specs.Withdrawing.{IsTurned}
use Rattle.coll_history.proofs.FollowedPlaces.{places_undone}
use Rattle.coll_history.proofs.HistoryLemmas.{nothing_left, taken_back_none, Leads-last}
use Rattle.coll_history.proofs.HistorySteps.{fits_counted, is_turned, leads_shorter, leads_on_longer, history_undone, steps_undone}
use Rattle.coll_history.proofs.histories.Session.undo.Goals as goal

pub returns-in_default-clause-refused : goal.returns-in_default-clause-refused
returns-in_default-clause-refused c =
    let s = c.self.inside in
    subst (λ (v : SessionValue). taken_back v.history ≡ Err NothingToUndo) c.self.view_is
    (taken_back_none (uncounted s.table) s.remaining.items s.undone.items (nothing_left _ (omega (arith, c.in_default.ensures.cases.0, s.remaining.ok.0))))

-- the record that was turned
turned_record : (c : goal.After-len) → IsTurned (uncounted c.self.inside.table) c.in-Some.kept (record { statement = c.in-Some.kept.statement; change = c.flip.new.kept }) (uncounted c.flip.new.self)
turned_record c =
    let s = c.self.inside in
    is_turned c.lemma_records_turn_back.ensures s.table c.flip.new.self c.in-Some.kept _ c.lemma_well_formed.ensures.table
    (Leads-last (uncounted s.table) c.pop.new.self.items c.in-Some.kept (subst (Leads (uncounted s.table)) c.in-Some.ensures.items c.self.invariant.leads)).fits
    refl c.flip.ensures.turned c.flip.ensures.record

pub flip-requires : goal.flip-requires
flip-requires c =
    let s = c.self.inside in
    record {
      fits = fits_counted s.table c.in-Some.kept
          (Leads-last (uncounted s.table) c.pop.new.self.items c.in-Some.kept (subst (Leads (uncounted s.table)) c.in-Some.ensures.items c.self.invariant.leads)).fits;
    }

pub invariant_of-self-2 : goal.invariant_of-self-2
invariant_of-self-2 c =
    let s = c.self.inside in
    let leads : Leads (uncounted s.table) (c.pop.new.self.items ++ c.in-Some.kept ∷ []) = subst (Leads (uncounted s.table)) c.in-Some.ensures.items c.self.invariant.leads in
    record {
      leads = leads_shorter (uncounted s.table) (uncounted c.flip.new.self) c.pop.new.self.items c.in-Some.kept _ (turned_record c) leads;
      leads_on = subst (λ (ks : List Kept). LeadsOn (uncounted c.flip.new.self) (reverse ks)) (sym c.push_reserved.ensures.items)
          (leads_on_longer (uncounted s.table) (uncounted c.flip.new.self) c.pop.new.self.items s.undone.items c.in-Some.kept _ (turned_record c) leads c.self.invariant.leads_on);
      few = omega (arith, c.in-Some.ensures.cases, c.self.invariant.few, c.push_reserved.ensures.len);
      undo_room = omega (arith, c.in-Some.ensures.cases, c.self.invariant.undo_room, c.push_reserved.ensures.len, c.push_reserved.ensures.capacity);
      redo_room = omega (arith, c.in-Some.ensures.cases, c.self.invariant.redo_room, c.push_reserved.ensures.len, c.pop.ensures.capacity);
      places = rw (c.behind_undo-self-inside.ensures, c.push_reserved.ensures.items)
          (places_undone s.numbers (uncounted s.table) (uncounted c.flip.new.self) c.pop.new.self.items s.undone.items c.in-Some.kept _ (turned_record c) s.standing
          (subst (λ (ks : List Kept). ArePlaces s.standing s.numbers (uncounted s.table) ks s.undone.items) c.in-Some.ensures.items c.self.invariant.places));
    }

pub returns-clause-undone : goal.returns-clause-undone
returns-clause-undone c =
    let s = c.self.inside in
    subst (λ (v : SessionValue). taken_back v.history ≡ Ok (history_of (uncounted c.flip.new.self) c.pop.new.self.items c.push_reserved.new.self.items)) c.self.view_is
    (ap (λ (ks : List Kept). taken_back (history_of (uncounted s.table) ks s.undone.items)) c.in-Some.ensures.items
    ∙ history_undone (uncounted s.table) (uncounted c.flip.new.self) c.pop.new.self.items s.undone.items c.in-Some.kept _ (turned_record c)
    ∙ ap (λ (ks : List Kept). Ok (history_of (uncounted c.flip.new.self) c.pop.new.self.items ks)) (sym c.push_reserved.ensures.items))

pub returns-clause-steps : goal.returns-clause-steps
returns-clause-steps c =
    let s = c.self.inside in
    let leads : Leads (uncounted s.table) (c.pop.new.self.items ++ c.in-Some.kept ∷ []) = subst (Leads (uncounted s.table)) c.in-Some.ensures.items c.self.invariant.leads in
    subst (λ (v : SessionValue). c.flip.new.self.steps ≡ more_steps v.steps (undo_steps v.history)) c.self.view_is
    (c.flip.ensures.steps ∙ ap (more_steps s.table.steps) (c.flip.ensures.count
    ∙ steps_undone (uncounted s.table) (uncounted c.flip.new.self) c.pop.new.self.items s.undone.items c.in-Some.kept _ (turned_record c) leads
    ∙ ap (λ (ks : List Kept). undo_steps (history_of (uncounted s.table) ks s.undone.items)) (sym c.in-Some.ensures.items)))
