-- An undo, a redo and an accepted statement, by the records that a session keeps.
use Rattle.std.proofs.Common.{◌≡◌, Bool, true, false, not, List, [], ◌∷◌, ◌++◌, reverse, Ok, refl, sym, ap, ◌∙◌, subst}
use Rattle.std.proofs.lemmas.List.{reverse-append}
use Rattle.coll_syntax.specs.Proper.{IsProper}
use Rattle.coll_syntax.specs.declared.statements.Statement.{Statement}
use Rattle.coll_history.proofs.HistoryLemmas.{undone_by-push, statements_of-push, Leads-push, Leads-last, SameCollation, taken_back_push, leads_wider, leads_narrower, replayed, stepped_back_push}
use Rattle.coll_table.specs.Delta.{delta}
use Rattle.coll_history.specs.Histories.{History, taken_back, put_again, stepped_back, redo_steps, undo_steps, first_steps, table_now}
use Rattle.coll_history.specs.Kept.{statements_of, undone_by, uncounted, IsChange, Leads, LeadsOn, history_of}
use Rattle.coll_table.specs.Record.{Extends, Fits, IsSame, statement_steps, turn, turned}
use Rattle.coll_table.specs.RecordLaws.{RecordsTurnBack, RecordsFitWider, RecordsFitNarrower}
use Rattle.coll_nodes.specs.SoundLayouts.{IsTable}
use Rattle.coll_nodes.specs.Table.{Collation}
use Rattle.coll_nodes.specs.TableLayout.{TableValue, collation}
use Rattle.coll_table.specs.Turning.{steps_of}
use Rattle.coll_history.specs.Withdrawing.{IsTurned}
use Rattle.coll_history.specs.declared.histories.Kept.{Kept}

-- A table without its count of steps.

pub fits_counted : (t : TableValue) (k : Kept) → Fits (uncounted t) k.change → Fits t k.change
unfolding turn collation
fits_counted t k f = record { few = f.few; goes = f.goes; well_formed = f.well_formed }

pub fits_uncounted : (t : TableValue) (k : Kept) → Fits t k.change → Fits (uncounted t) k.change
unfolding turn collation
fits_uncounted t k f = record { few = f.few; goes = f.goes; well_formed = f.well_formed }

pub table_uncounted : (t : TableValue) → IsTable t → IsTable (uncounted t)
unfolding collation
table_uncounted t it = record { sound = it.sound; well_formed = it.well_formed }

pub collation_uncounted : (t : TableValue) → collation (uncounted t) ≡ collation t
unfolding collation
collation_uncounted t = refl

pub turn_uncounted : (t : TableValue) (k : Kept) → turn (uncounted t) k.change ≡ uncounted (turn t k.change)
unfolding turn
turn_uncounted t k = refl

pub turned_uncounted : (t : TableValue) (k : Kept) → turned (uncounted t) k.change ≡ turned t k.change
unfolding turned
turned_uncounted t k = refl

pub extends_uncounted : (wide table : TableValue) → Extends wide table → Extends (uncounted wide) (uncounted table)
extends_uncounted wide table e = record { rules = e.rules; rings = e.rings; nodes = e.nodes }

pub same_parts : (a b : TableValue) → a.rules ≡ b.rules → a.layout ≡ b.layout → uncounted a ≡ uncounted b
same_parts a b r l =
    ap (λ rules. record { rules = rules; layout = a.layout; steps = 0 }) r ∙ ap (λ layout. record { rules = b.rules; layout = layout; steps = 0 }) l

-- A record that was turned on a table.

-- what turning a record ensures, without the counts
pub is_turned : RecordsTurnBack → (t t1 : TableValue) (k k1 : Kept) → IsTable t → Fits (uncounted t) k.change → k1.statement ≡ k.statement → IsSame t1 (turn t k.change) → k1.change ≡ turned t k.change
    → IsTurned (uncounted t) k k1 (uncounted t1)
is_turned turns t t1 k k1 it f statement same change =
    let law = turns (uncounted t) k.change (table_uncounted t it) f in
    let table_is : uncounted t1 ≡ turn (uncounted t) k.change = same_parts t1 (turn t k.change) same.rules same.layout ∙ sym (turn_uncounted t k) in
    let change_is : k1.change ≡ turned (uncounted t) k.change = change ∙ sym (turned_uncounted t k) in
    record {
      statement = statement;
      table_is = table_is;
      change_is = change_is;
      fits = subst (λ (x : TableValue). Fits x k1.change) (sym table_is) (subst (λ r. Fits (turn (uncounted t) k.change) r) (sym change_is) law.fits);
      back = ap (λ (x : TableValue). turn x k1.change) table_is ∙ ap (turn (turn (uncounted t) k.change)) change_is ∙ law.back;
      steps = ap (λ r. steps_of r.items) change_is ∙ law.steps;
    }

undone_turns : (table : TableValue) (k k1 : Kept) → k1.change ≡ turned table k.change → (b : Bool) → k.change.undone ≡ b → k1.change.undone ≡ not b
unfolding turned
undone_turns table k k1 e b was = ap (λ r. r.undone) e ∙ ap not was

-- a change, by a record that was turned
turned_change : (table table1 : TableValue) (k k1 : Kept) → IsTurned table k k1 table1 → (before after : TableValue) → IsChange before after k → IsChange before after k1
turned_change table table1 k k1 t before after it = record {
  proper = subst IsProper (sym t.statement) it.proper;
  accepted = ap (delta (collation before)) t.statement ∙ it.accepted;
  steps = t.steps ∙ it.steps ∙ sym (ap (statement_steps (collation before)) t.statement);
}

-- An undo.

pub leads_shorter : (table table1 : TableValue) (kept : List Kept) (k k1 : Kept) → IsTurned table k k1 table1 → Leads table (kept ++ k ∷ []) → Leads table1 kept
leads_shorter table table1 kept k k1 t leads = subst (λ (x : TableValue). Leads x kept) (sym t.table_is) (Leads-last table kept k leads).earlier

pub leads_on_longer : (table table1 : TableValue) (kept undone : List Kept) (k k1 : Kept) → IsTurned table k k1 table1 → Leads table (kept ++ k ∷ []) → LeadsOn table (reverse undone)
    → LeadsOn table1 (reverse (undone ++ k1 ∷ []))
unfolding LeadsOn
leads_on_longer table table1 kept undone k k1 t leads leads_on =
    let last = Leads-last table kept k leads in
    let change : IsChange table1 (turn table1 k1.change) k1 =
    subst (λ (x : TableValue). IsChange table1 x k1) (sym t.back)
    (subst (λ (x : TableValue). IsChange x table k1) (sym t.table_is) (turned_change table table1 k k1 t (turn table k.change) table last.change)) in
    subst (LeadsOn table1) (sym (reverse-append undone (k1 ∷ [])))
    (change, undone_turns table k k1 t.change_is false last.in_force, t.fits, subst (λ (x : TableValue). LeadsOn x (reverse undone)) (sym t.back) leads_on)

abbrev pub made : Collation → List Statement → List Statement → History
made start remaining undone = record { start = start; remaining = remaining; undone = undone }

pub made_same : (s t : Collation) (a b u v : List Statement) → s ≡ t → a ≡ b → u ≡ v → made s a u ≡ made t b v
made_same s t a b u v p q r = ap (λ (x : Collation). made x a u) p ∙ ap (λ (x : List Statement). made t x u) q ∙ ap (λ (x : List Statement). made t b x) r

-- the history of which the last statement is set apart
pub before_undo : (table table1 : TableValue) (kept undone : List Kept) (k k1 : Kept) → IsTurned table k k1 table1
    → history_of table (kept ++ k ∷ []) undone ≡ made (collation (undone_by table1 kept)) (statements_of kept ++ k.statement ∷ []) (reverse (statements_of undone))
before_undo table table1 kept undone k k1 t =
    made_same _ _ _ _ _ _ (ap collation (undone_by-push table kept k ∙ ap (λ (x : TableValue). undone_by x kept) (sym t.table_is))) (statements_of-push kept k) refl

pub after_undo : (table1 : TableValue) (kept undone : List Kept) (k k1 : Kept) → k1.statement ≡ k.statement
    → made (collation (undone_by table1 kept)) (statements_of kept) (k.statement ∷ reverse (statements_of undone)) ≡ history_of table1 kept (undone ++ k1 ∷ [])
after_undo table1 kept undone k k1 same =
    made_same _ _ _ _ _ _ refl refl
    (sym (ap reverse (statements_of-push undone k1) ∙ reverse-append (statements_of undone) (k1.statement ∷ []) ∙ ap (λ (s : Statement). s ∷ reverse (statements_of undone)) same))

taken_back_made : (start : Collation) (kept : List Statement) (s : Statement) (undone : List Statement) → taken_back (made start (kept ++ s ∷ []) undone) ≡ Ok (made start kept (s ∷ undone))
taken_back_made = taken_back_push

pub history_undone : (table table1 : TableValue) (kept undone : List Kept) (k k1 : Kept) → IsTurned table k k1 table1
    → taken_back (history_of table (kept ++ k ∷ []) undone) ≡ Ok (history_of table1 kept (undone ++ k1 ∷ []))
history_undone table table1 kept undone k k1 t =
    ap taken_back (before_undo table table1 kept undone k k1 t)
    ∙ taken_back_made (collation (undone_by table1 kept)) (statements_of kept) k.statement (reverse (statements_of undone))
    ∙ ap Ok (after_undo table1 kept undone k k1 t.statement)

pub steps_undone : (table table1 : TableValue) (kept undone : List Kept) (k k1 : Kept) → IsTurned table k k1 table1 → Leads table (kept ++ k ∷ [])
    → steps_of k.change.items ≡ undo_steps (history_of table (kept ++ k ∷ []) undone)
unfolding undo_steps redo_steps
steps_undone table table1 kept undone k k1 t leads =
    let last = Leads-last table kept k leads in
    let earlier : Leads table1 kept = leads_shorter table table1 kept k k1 t leads in
    sym (
    ap (λ (h : History). first_steps (table_now (stepped_back h)) (stepped_back h).undone) (before_undo table table1 kept undone k k1 t)
    ∙ ap (λ (h : History). first_steps (table_now h) h.undone) (stepped_back_push (collation (undone_by table1 kept)) (statements_of kept) k.statement (reverse (statements_of undone)))
    ∙ ap (λ (c : Collation). statement_steps c k.statement) (replayed table1 kept earlier ∙ ap collation t.table_is)
    ∙ sym last.change.steps)

-- A redo.

pub reversed : (undone : List Kept) (k : Kept) → reverse (undone ++ k ∷ []) ≡ k ∷ reverse undone
reversed undone k = reverse-append undone (k ∷ [])

-- what holds of the record that is the next to be turned
pub record LeadsNext (table : TableValue) (undone : List Kept) (k : Kept) : Type 0 where
  pub change : IsChange table (turn table k.change) k
  pub is_undone : k.change.undone ≡ true
  pub fits : Fits table k.change
  pub later : LeadsOn (turn table k.change) (reverse undone)

pub leads_next : (table : TableValue) (undone : List Kept) (k : Kept) → LeadsOn table (reverse (undone ++ k ∷ [])) → LeadsNext table undone k
unfolding LeadsOn
leads_next table undone k leads_on =
    let it : LeadsOn table (k ∷ reverse undone) = subst (LeadsOn table) (reversed undone k) leads_on in
    record { change = it.0; is_undone = it.1; fits = it.2; later = it.3 }

pub leads_longer : (table table1 : TableValue) (kept undone : List Kept) (k k1 : Kept) → IsTurned table k k1 table1 → LeadsOn table (reverse (undone ++ k ∷ [])) → Leads table kept
    → Leads table1 (kept ++ k1 ∷ [])
leads_longer table table1 kept undone k k1 t leads_on leads =
    let next = leads_next table undone k leads_on in
    let change : IsChange (turn table1 k1.change) table1 k1 =
    subst (λ (x : TableValue). IsChange x table1 k1) (sym t.back)
    (subst (λ (x : TableValue). IsChange table x k1) (sym t.table_is) (turned_change table table1 k k1 t table (turn table k.change) next.change)) in
    Leads-push table1 kept k1
    (record { earlier = subst (λ (x : TableValue). Leads x kept) (sym t.back) leads; change = change; in_force = undone_turns table k k1 t.change_is true next.is_undone; fits = t.fits })

pub leads_on_shorter : (table table1 : TableValue) (undone : List Kept) (k k1 : Kept) → IsTurned table k k1 table1 → LeadsOn table (reverse (undone ++ k ∷ [])) → LeadsOn table1 (reverse undone)
leads_on_shorter table table1 undone k k1 t leads_on = subst (λ (x : TableValue). LeadsOn x (reverse undone)) (sym t.table_is) (leads_next table undone k leads_on).later

pub before_redo : (table : TableValue) (kept undone : List Kept) (k : Kept)
    → history_of table kept (undone ++ k ∷ []) ≡ made (collation (undone_by table kept)) (statements_of kept) (k.statement ∷ reverse (statements_of undone))
before_redo table kept undone k =
    made_same _ _ _ _ _ _ refl refl (ap reverse (statements_of-push undone k) ∙ reverse-append (statements_of undone) (k.statement ∷ []))

pub after_redo : (table table1 : TableValue) (kept undone : List Kept) (k k1 : Kept) → IsTurned table k k1 table1
    → made (collation (undone_by table kept)) (statements_of kept ++ k.statement ∷ []) (reverse (statements_of undone)) ≡ history_of table1 (kept ++ k1 ∷ []) undone
after_redo table table1 kept undone k k1 t =
    sym (made_same _ _ _ _ _ _
    (ap collation (undone_by-push table1 kept k1 ∙ ap (λ (x : TableValue). undone_by x kept) t.back))
    (statements_of-push kept k1 ∙ ap (λ (s : Statement). statements_of kept ++ s ∷ []) t.statement)
    refl)

pub history_redone : (table table1 : TableValue) (kept undone : List Kept) (k k1 : Kept) → IsTurned table k k1 table1
    → put_again (history_of table kept (undone ++ k ∷ [])) ≡ Ok (history_of table1 (kept ++ k1 ∷ []) undone)
unfolding put_again
history_redone table table1 kept undone k k1 t =
    ap put_again (before_redo table kept undone k) ∙ ap Ok (after_redo table table1 kept undone k k1 t)

pub steps_redone : (table : TableValue) (kept undone : List Kept) (k : Kept) → Leads table kept → LeadsOn table (reverse (undone ++ k ∷ []))
    → steps_of k.change.items ≡ redo_steps (history_of table kept (undone ++ k ∷ []))
unfolding redo_steps
steps_redone table kept undone k leads leads_on =
    let next = leads_next table undone k leads_on in
    sym (
    ap (λ (h : History). first_steps (table_now h) h.undone) (before_redo table kept undone k)
    ∙ ap (λ (c : Collation). statement_steps c k.statement) (replayed table kept leads)
    ∙ sym next.change.steps)

-- An accepted statement.

-- what a statement that was accepted leaves: the table after it, in which the records that are kept still lead back
pub record Accepts (old after new : TableValue) (k : Kept) : Type 0 where
  pub old_is : IsTable old
  pub after_is : IsTable after
  pub new_is : IsTable new
  pub proper : IsProper k.statement
  pub accepted : delta (collation old) k.statement ≡ Ok (collation after)
  pub in_force : k.change.undone ≡ false
  pub fits : Fits after k.change
  pub back : Extends (turn after k.change) old
  pub steps : steps_of k.change.items ≡ statement_steps (collation old) k.statement
  pub given_up : Extends after new

module _ (turns : RecordsTurnBack) (wider : RecordsFitWider) (narrower : RecordsFitNarrower) (same : SameCollation) where
  -- the records lead in the table after the statement, and at first there was the same table
  pub record LeadsWith (old now : TableValue) (kept longer : List Kept) : Type 0 where
    pub leads : Leads now longer
    pub start : collation (undone_by now longer) ≡ collation (undone_by old kept)
    pub now_is : IsTable (undone_by now longer)

  pub leads_after : (old after new : TableValue) (kept : List Kept) (k : Kept) → Accepts old after new k → Leads old kept → LeadsWith old after kept (kept ++ k ∷ [])
  leads_after old after new kept k a leads =
      let turned_is : IsTable (turn after k.change) = (turns after k.change a.after_is a.fits).stands in
      let alike = leads_wider turns wider narrower same (turn after k.change) old turned_is a.old_is a.back kept leads in
      let e : collation (turn after k.change) ≡ collation old = same (turn after k.change) old a.old_is a.back in
      let change : IsChange (turn after k.change) after k = record {
        proper = a.proper;
        accepted = ap (λ (c : Collation). delta c k.statement) e ∙ a.accepted;
        steps = a.steps ∙ sym (ap (λ (c : Collation). statement_steps c k.statement) e);
      } in
      record {
        leads = Leads-push after kept k (record { earlier = alike.leads; change = change; in_force = a.in_force; fits = a.fits });
        start = ap collation (undone_by-push after kept k) ∙ same (undone_by (turn after k.change) kept) (undone_by old kept) alike.table_is alike.extends;
        now_is = subst IsTable (sym (undone_by-push after kept k)) alike.wide_is;
      }

  pub leads_with : (old after new : TableValue) (kept : List Kept) (k : Kept) → Accepts old after new k → Leads old kept → LeadsWith old new kept (kept ++ k ∷ [])
  leads_with old after new kept k a leads =
      let then = leads_after old after new kept k a leads in
      let alike = leads_narrower turns wider narrower same after new a.after_is a.new_is a.given_up (kept ++ k ∷ []) then.leads in
      record {
        leads = alike.leads;
        start = sym (same (undone_by after (kept ++ k ∷ [])) (undone_by new (kept ++ k ∷ [])) alike.table_is alike.extends) ∙ then.start;
        now_is = alike.table_is;
      }

-- what a table's calls ensure of a statement that was accepted, without the counts
pub accepts : (old after new : TableValue) (k : Kept) → IsTable old → IsTable after → IsTable new → IsProper k.statement → delta (collation old) k.statement ≡ Ok (collation after)
    → k.change.undone ≡ false → Fits after k.change
    → Extends (turn after k.change) old → steps_of k.change.items ≡ statement_steps (collation old) k.statement → Extends after new → Accepts (uncounted old) (uncounted after) (uncounted new) k
accepts old after new k o a n proper accepted in_force fits back steps given_up = record {
  old_is = table_uncounted old o;
  after_is = table_uncounted after a;
  new_is = table_uncounted new n;
  proper = proper;
  accepted = ap (λ (c : Collation). delta c k.statement) (collation_uncounted old) ∙ accepted ∙ ap Ok (sym (collation_uncounted after));
  in_force = in_force;
  fits = fits_uncounted after k fits;
  back = subst (λ (t : TableValue). Extends t (uncounted old)) (sym (turn_uncounted after k)) (extends_uncounted (turn after k.change) old back);
  steps = steps ∙ sym (ap (λ (c : Collation). statement_steps c k.statement) (collation_uncounted old));
  given_up = extends_uncounted after new given_up;
}
