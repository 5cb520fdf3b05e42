-- A redo turns the record of the next statement, which leads on to the table that the statement gives.
use Rattle.std.proofs.Common.{◌≡◌, Ok, Err, refl, subst, sym, ap, ◌∙◌, List, [], ◌∷◌, ◌++◌, reverse, arith}
use Rattle.coll_history.specs.Histories.{SessionValue, put_again, redo_steps}
use Rattle.coll_history.specs.Following.{ArePlaces}
use Rattle.coll_history.specs.Kept.{Leads, LeadsOn, history_of, uncounted}
use Rattle.coll_table.specs.Record.{more_steps}
use Rattle.coll_history.specs.declared.history_faults.BenchFault.TheVariants.{NothingToRedo}
use Rattle.coll_history.specs.declared.histories.Kept.{Kept}
use Rattle.coll_history.specs.Withdrawing.{IsTurned}
use Rattle.coll_history.proofs.FollowedPlaces.{places_redone}
use Rattle.coll_history.proofs.HistoryLemmas.{nothing_left, put_again_none}
use Rattle.coll_history.proofs.HistorySteps.{fits_counted, is_turned, leads_next, leads_longer, leads_on_shorter, history_redone, steps_redone}
use Rattle.coll_history.proofs.histories.Session.redo.Goals as goal

pub returns-in_default-clause-refused : goal.returns-in_default-clause-refused
returns-in_default-clause-refused c =
    let s = c.self.inside in
    subst (λ (v : SessionValue). put_again v.history ≡ Err NothingToRedo) c.self.view_is
    (put_again_none (uncounted s.table) s.remaining.items s.undone.items (nothing_left _ (omega (arith, c.in_default.ensures.cases.0, s.undone.ok.0))))

-- the record that was turned
turned_record : (c : goal.After-len) → IsTurned (uncounted c.self.inside.table) c.in-Some.kept (record { statement = c.in-Some.kept.statement; change = c.flip.new.kept }) (uncounted c.flip.new.self)
turned_record c =
    let s = c.self.inside in
    is_turned c.lemma_records_turn_back.ensures s.table c.flip.new.self c.in-Some.kept _ c.lemma_well_formed.ensures.table
    (leads_next (uncounted s.table) c.pop.new.self.items c.in-Some.kept (subst (λ (ks : List Kept). LeadsOn (uncounted s.table) (reverse ks)) c.in-Some.ensures.items c.self.invariant.leads_on)).fits
    refl c.flip.ensures.turned c.flip.ensures.record

pub flip-requires : goal.flip-requires
flip-requires c =
    let s = c.self.inside in
    record {
      fits = fits_counted s.table c.in-Some.kept (leads_next (uncounted s.table) c.pop.new.self.items c.in-Some.kept
          (subst (λ (ks : List Kept). LeadsOn (uncounted s.table) (reverse ks)) c.in-Some.ensures.items c.self.invariant.leads_on)).fits;
    }

pub invariant_of-self-2 : goal.invariant_of-self-2
invariant_of-self-2 c =
    let s = c.self.inside in
    let leads_on : LeadsOn (uncounted s.table) (reverse (c.pop.new.self.items ++ c.in-Some.kept ∷ [])) =
    subst (λ (ks : List Kept). LeadsOn (uncounted s.table) (reverse ks)) c.in-Some.ensures.items c.self.invariant.leads_on in
    record {
      leads = subst (Leads (uncounted c.flip.new.self)) (sym c.push_reserved.ensures.items)
          (leads_longer (uncounted s.table) (uncounted c.flip.new.self) s.remaining.items c.pop.new.self.items c.in-Some.kept _ (turned_record c) leads_on c.self.invariant.leads);
      leads_on = leads_on_shorter (uncounted s.table) (uncounted c.flip.new.self) c.pop.new.self.items c.in-Some.kept _ (turned_record c) leads_on;
      few = omega (arith, c.in-Some.ensures.cases, c.self.invariant.few, c.push_reserved.ensures.len);
      undo_room = omega (arith, c.in-Some.ensures.cases, c.self.invariant.undo_room, c.push_reserved.ensures.len, c.pop.ensures.capacity);
      redo_room = omega (arith, c.in-Some.ensures.cases, c.self.invariant.redo_room, c.push_reserved.ensures.len, c.push_reserved.ensures.capacity);
      places = rw (c.behind_redo-self-inside.ensures, c.push_reserved.ensures.items)
          (places_redone s.numbers (uncounted s.table) (uncounted c.flip.new.self) s.remaining.items c.pop.new.self.items c.in-Some.kept _ (turned_record c) s.standing
          (subst (λ (ks : List Kept). ArePlaces s.standing s.numbers (uncounted s.table) s.remaining.items ks) c.in-Some.ensures.items c.self.invariant.places));
    }

pub returns-clause-redone : goal.returns-clause-redone
returns-clause-redone c =
    let s = c.self.inside in
    subst (λ (v : SessionValue). put_again v.history ≡ Ok (history_of (uncounted c.flip.new.self) c.push_reserved.new.self.items c.pop.new.self.items)) c.self.view_is
    (ap (λ (ks : List Kept). put_again (history_of (uncounted s.table) s.remaining.items ks)) c.in-Some.ensures.items
    ∙ history_redone (uncounted s.table) (uncounted c.flip.new.self) s.remaining.items c.pop.new.self.items c.in-Some.kept _ (turned_record c)
    ∙ ap (λ (ks : List Kept). Ok (history_of (uncounted c.flip.new.self) ks c.pop.new.self.items)) (sym c.push_reserved.ensures.items))

pub returns-clause-steps : goal.returns-clause-steps
returns-clause-steps c =
    let s = c.self.inside in
    let leads_on : LeadsOn (uncounted s.table) (reverse (c.pop.new.self.items ++ c.in-Some.kept ∷ [])) =
    subst (λ (ks : List Kept). LeadsOn (uncounted s.table) (reverse ks)) c.in-Some.ensures.items c.self.invariant.leads_on in
    subst (λ (v : SessionValue). c.flip.new.self.steps ≡ more_steps v.steps (redo_steps v.history)) c.self.view_is
    (c.flip.ensures.steps ∙ ap (more_steps s.table.steps) (c.flip.ensures.count
    ∙ steps_redone (uncounted s.table) s.remaining.items c.pop.new.self.items c.in-Some.kept c.self.invariant.leads leads_on
    ∙ ap (λ (ks : List Kept). redo_steps (history_of (uncounted s.table) s.remaining.items ks)) (sym c.in-Some.ensures.items)))
