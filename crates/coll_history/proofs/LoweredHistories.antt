-- Statements taken back one after another, and put up again: one relation on histories, read both ways, and of their records that
-- they lead up to the very table.
use Rattle.std.proofs.Common.{◌≡◌, ℕ, ◌+◌, List, [], ◌∷◌, ◌++◌, length, reverse, refl, sym, ap, ◌∙◌, subst, arith, suc, add-one}
use Rattle.std.proofs.lemmas.List.{append-nil, append_assoc}
use Rattle.coll_syntax.specs.declared.statements.Statement.{Statement}
use Rattle.coll_nodes.specs.Table.{Collation}
use Rattle.coll_nodes.specs.TableLayout.{TableValue, collation}
use Rattle.coll_history.specs.Histories.{History}
use Rattle.coll_history.specs.Kept.{statements_of, undone_by, Leads, LeadsOn, history_of}
use Rattle.coll_history.specs.Withdrawing.{IsLowered, LastFits, TurnsLast, raised}
use Rattle.coll_history.specs.declared.histories.Kept.{Kept}
use Rattle.coll_history.proofs.HistoryLemmas.{Leads-last}
use Rattle.coll_history.proofs.HistorySteps.{made, made_same, before_undo, after_undo, before_redo, after_redo, leads_shorter, leads_on_longer, leads_longer, leads_on_shorter, leads_next, reversed}

-- The record that is the next to be turned fits.

pub last_fits : (table : TableValue) (kept : List Kept) → Leads table kept → LastFits table kept
last_fits table kept leads rest k e = (Leads-last table rest k (subst (Leads table) e leads)).fits

pub next_fits : (table : TableValue) (undone : List Kept) → LeadsOn table (reverse undone) → LastFits table undone
next_fits table undone leads_on rest k e = (leads_next table rest k (subst (λ (ks : List Kept). LeadsOn table (reverse ks)) e leads_on)).fits

-- Histories, of which one statement more or less was taken back.

one_lower : (high : History) (start : Collation) (prefix undone : List Statement) (s : Statement) (count : ℕ)
    → IsLowered high (made start (prefix ++ s ∷ []) undone) count → IsLowered high (made start prefix (s ∷ undone)) (suc count)
one_lower high start prefix undone s count l = record {
  moved = s ∷ l.moved;
  moved_count = ap suc l.moved_count;
  start = l.start;
  remaining = l.remaining ∙ append_assoc prefix (s ∷ []) l.moved;
  undone = ap (λ (ss : List Statement). s ∷ ss) l.undone;
}

one_higher : (high : History) (start : Collation) (prefix undone : List Statement) (s : Statement) (count : ℕ)
    → IsLowered high (made start prefix (s ∷ undone)) (suc count) → IsLowered high (made start (prefix ++ s ∷ []) undone) count
one_higher high start prefix undone s count l = by l.moved l.moved_count l.remaining l.undone where
  by : (moved : List Statement) → length moved ≡ suc count → high.remaining ≡ prefix ++ moved → s ∷ undone ≡ moved ++ high.undone → IsLowered high (made start (prefix ++ s ∷ []) undone) count
  by [] e r u = absurd (omega (arith, e))
  by (first ∷ later) e r u =
      let same : s ≡ first = cc in
      record {
        moved = later;
        moved_count = cc;
        start = l.start;
        remaining = r ∙ sym (append_assoc prefix (first ∷ []) later) ∙ ap (λ (x : Statement). (prefix ++ x ∷ []) ++ later) (sym same);
        undone = cc;
      }

pub not_lowered : (h : History) → IsLowered h h 0
not_lowered h = record { moved = []; moved_count = refl; start = refl; remaining = sym (append-nil h.remaining); undone = refl }

pub as_high : (high low : History) → IsLowered high low 0 → low ≡ high
as_high high low l = by l.moved l.moved_count l.remaining l.undone where
  by : (moved : List Statement) → length moved ≡ 0 → high.remaining ≡ low.remaining ++ moved → low.undone ≡ moved ++ high.undone → low ≡ high
  by [] e r u = made_same low.start high.start low.remaining high.remaining low.undone high.undone l.start (sym (append-nil low.remaining) ∙ sym r) u
  by (first ∷ later) e r u = absurd (omega (arith, e))

-- A statement is taken back.

module _ (table table1 : TableValue) (kept kept1 undone undone1 : List Kept) (t : TurnsLast table table1 kept kept1 undone undone1) where
  leads_of : Leads table kept → Leads table (kept1 ++ t.kept ∷ [])
  leads_of leads = subst (Leads table) t.from_is leads

  pub down_leads : Leads table kept → Leads table1 kept1
  down_leads leads = leads_shorter table table1 kept1 t.kept t.kept_turned t.is_turned (leads_of leads)

  pub down_leads_on : Leads table kept → LeadsOn table (reverse undone) → LeadsOn table1 (reverse undone1)
  down_leads_on leads leads_on =
      subst (λ (ks : List Kept). LeadsOn table1 (reverse ks)) (sym t.onto_is) (leads_on_longer table table1 kept1 undone t.kept t.kept_turned t.is_turned (leads_of leads) leads_on)

  pub down_lowered : (high : History) (count : ℕ) → IsLowered high (history_of table kept undone) count → IsLowered high (history_of table1 kept1 undone1) (count + 1)
  down_lowered high count l =
      let before : history_of table kept undone ≡ made (collation (undone_by table1 kept1)) (statements_of kept1 ++ t.kept.statement ∷ []) (reverse (statements_of undone)) =
      ap (λ (ks : List Kept). history_of table ks undone) t.from_is ∙ before_undo table table1 kept1 undone t.kept t.kept_turned t.is_turned in
      let after : made (collation (undone_by table1 kept1)) (statements_of kept1) (t.kept.statement ∷ reverse (statements_of undone)) ≡ history_of table1 kept1 undone1 =
      after_undo table1 kept1 undone t.kept t.kept_turned t.is_turned.statement ∙ ap (history_of table1 kept1) (sym t.onto_is) in
      subst (IsLowered high (history_of table1 kept1 undone1)) (sym (add-one count))
      (subst (λ (h : History). IsLowered high h (suc count)) after
      (one_lower high _ (statements_of kept1) (reverse (statements_of undone)) t.kept.statement count (subst (λ (h : History). IsLowered high h count) before l)))

  pub down_raised : (count : ℕ) → raised (count + 1) table1 (reverse undone1) ≡ raised count table (reverse undone)
  unfolding raised
  down_raised count =
      ap (λ n. raised n table1 (reverse undone1)) (add-one count)
      ∙ ap (λ (ks : List Kept). raised (suc count) table1 ks) (ap reverse t.onto_is ∙ reversed undone t.kept_turned)
      ∙ ap (λ (x : TableValue). raised count x (reverse undone)) t.is_turned.back

-- A statement is put up again.

module _ (table table1 : TableValue) (kept kept1 undone undone1 : List Kept) (t : TurnsLast table table1 undone undone1 kept kept1) where
  leads_on_of : LeadsOn table (reverse undone) → LeadsOn table (reverse (undone1 ++ t.kept ∷ []))
  leads_on_of leads_on = subst (λ (ks : List Kept). LeadsOn table (reverse ks)) t.from_is leads_on

  pub up_leads : Leads table kept → LeadsOn table (reverse undone) → Leads table1 kept1
  up_leads leads leads_on =
      subst (Leads table1) (sym t.onto_is) (leads_longer table table1 kept undone1 t.kept t.kept_turned t.is_turned (leads_on_of leads_on) leads)

  pub up_leads_on : LeadsOn table (reverse undone) → LeadsOn table1 (reverse undone1)
  up_leads_on leads_on = leads_on_shorter table table1 undone1 t.kept t.kept_turned t.is_turned (leads_on_of leads_on)

  pub up_lowered : (high : History) (count less : ℕ) → count ≡ suc less → IsLowered high (history_of table kept undone) count → IsLowered high (history_of table1 kept1 undone1) less
  up_lowered high count less e l =
      let before : history_of table kept undone ≡ made (collation (undone_by table kept)) (statements_of kept) (t.kept.statement ∷ reverse (statements_of undone1)) =
      ap (history_of table kept) t.from_is ∙ before_redo table kept undone1 t.kept in
      let after : made (collation (undone_by table kept)) (statements_of kept ++ t.kept.statement ∷ []) (reverse (statements_of undone1)) ≡ history_of table1 kept1 undone1 =
      after_redo table table1 kept undone1 t.kept t.kept_turned t.is_turned ∙ ap (λ (ks : List Kept). history_of table1 ks undone1) (sym t.onto_is) in
      subst (λ (h : History). IsLowered high h less) after
      (one_higher high _ (statements_of kept) (reverse (statements_of undone1)) t.kept.statement less
      (subst (λ (h : History). IsLowered high h (suc less)) before (subst (IsLowered high (history_of table kept undone)) e l)))

  pub up_raised : (count less : ℕ) → count ≡ suc less → raised less table1 (reverse undone1) ≡ raised count table (reverse undone)
  unfolding raised
  up_raised count less e =
      ap (λ (x : TableValue). raised less x (reverse undone1)) t.is_turned.table_is
      ∙ sym (ap (λ (ks : List Kept). raised (suc less) table ks) (ap reverse t.from_is ∙ reversed undone1 t.kept))
      ∙ ap (λ n. raised n table (reverse undone)) (sym e)

pub raised_none : (table : TableValue) (kept : List Kept) → raised 0 table kept ≡ table
unfolding raised
raised_none table kept = refl
