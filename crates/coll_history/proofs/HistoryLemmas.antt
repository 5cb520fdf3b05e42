-- The records that a session keeps, and the history that they stand for.
use Rattle.std.proofs.Common.{◌≡◌, ℕ, ◌-◌, ◌<◌, ◌≤◌, Bool, false, List, [], ◌∷◌, ◌++◌, length, reverse, take, drop, Result, Ok, Err, refl, sym, ap, ◌∙◌, subst, arith, length-append, add-one, suc, eqb}
use Rattle.std.specs.Prelude.{if◌then◌else◌}
use Rattle.std.proofs.lemmas.Bool.{le-leb, lt-leb, ne_eqb}
use Rattle.std.proofs.Math.Seq.{take-append_seam, drop-append_seam}
use Rattle.coll_syntax.specs.declared.statements.Statement.{Statement}
use Rattle.coll_nodes.specs.Table.{Collation}
use Rattle.coll_nodes.specs.TableLayout.{TableValue, collation}
use Rattle.coll_table.specs.Delta.{delta}
use Rattle.coll_table.specs.Record.{Extends, Fits, statement_steps, turn}
use Rattle.coll_table.specs.RecordLaws.{RecordsTurnBack, RecordsFitWider, RecordsFitNarrower}
use Rattle.coll_nodes.specs.SoundLayouts.{IsTable}
use Rattle.coll_history.specs.Replay.{given_or, replay}
use Rattle.coll_history.specs.Histories.{History, begun, table_now, with_statement, judged_by, judged, stepped_back, taken_back, put_again}
use Rattle.coll_history.specs.Limits.{most_remaining}
use Rattle.coll_history.specs.Kept.{statements_of, undone_by, uncounted, IsChange, Leads, LeadsOn, history_of}
use Rattle.coll_table.specs.declared.refusals.Refusal.{Refusal}
use Rattle.coll_history.specs.declared.history_faults.BenchFault.TheVariants.{Table, NothingToUndo, NothingToRedo, HistoryFull}
use Rattle.coll_history.specs.declared.histories.Kept.{Kept}

-- the last record is turned first
pub undone_by-push : (table : TableValue) (kept : List Kept) (k : Kept) → undone_by table (kept ++ k ∷ []) ≡ undone_by (turn table k.change) kept
unfolding undone_by
undone_by-push table [] k = refl
undone_by-push table (first ∷ kept) k = ap (λ (t : TableValue). turn t first.change) (undone_by-push table kept k)

pub statements_of-push : (kept : List Kept) (k : Kept) → statements_of (kept ++ k ∷ []) ≡ statements_of kept ++ k.statement ∷ []
statements_of-push [] k = refl
statements_of-push (first ∷ kept) k = ap (λ (ss : List Statement). first.statement ∷ ss) (statements_of-push kept k)

-- what holds of the last record that is kept
pub record LeadsBack (table : TableValue) (kept : List Kept) (k : Kept) : Type 0 where
  pub earlier : Leads (turn table k.change) kept
  pub change : IsChange (turn table k.change) table k
  pub in_force : k.change.undone ≡ false
  pub fits : Fits table k.change

pub Leads-push : (table : TableValue) (kept : List Kept) (k : Kept) → LeadsBack table kept k → Leads table (kept ++ k ∷ [])
unfolding Leads undone_by
Leads-push table [] k back = (back.change, back.in_force, back.fits, tt)
Leads-push table (first ∷ kept) k back =
    let e = sym (undone_by-push table kept k) in
    let leads = back.earlier in (
      subst (λ (t : TableValue). IsChange (turn t first.change) t first) e leads.0,
      leads.1,
      subst (λ (t : TableValue). Fits t first.change) e leads.2,
      Leads-push table kept k (record { earlier = leads.3; change = back.change; in_force = back.in_force; fits = back.fits }),
    )

pub Leads-last : (table : TableValue) (kept : List Kept) (k : Kept) → Leads table (kept ++ k ∷ []) → LeadsBack table kept k
unfolding Leads undone_by
Leads-last table [] k leads = record { earlier = tt; change = leads.0; in_force = leads.1; fits = leads.2 }
Leads-last table (first ∷ kept) k leads =
    let e = undone_by-push table kept k in
    let rest = Leads-last table kept k leads.3 in
    record {
      earlier = (subst (λ (t : TableValue). IsChange (turn t first.change) t first) e leads.0, leads.1, subst (λ (t : TableValue). Fits t first.change) e leads.2, rest.earlier);
      change = rest.change;
      in_force = rest.in_force;
      fits = rest.fits;
    }

-- the table is the replay of the statements that are kept
pub replayed : (table : TableValue) (kept : List Kept) → Leads table kept → replay (collation (undone_by table kept)) (statements_of kept) ≡ collation table
unfolding Leads undone_by replay
replayed table [] leads = refl
replayed table (k ∷ kept) leads =
    ap (λ (r : Result Collation Refusal). replay (given_or (collation (turn (undone_by table kept) k.change)) r) (statements_of kept)) leads.0.accepted ∙ replayed table kept leads.3

-- Records over a table that has loose nodes more.

-- records lead over two tables alike, of which one extends the other, and turned back by them they still are such tables
pub record LeadAlike (wide table own : TableValue) (kept : List Kept) : Type 0 where
  pub leads : Leads own kept
  pub extends : Extends (undone_by wide kept) (undone_by table kept)
  pub wide_is : IsTable (undone_by wide kept)
  pub table_is : IsTable (undone_by table kept)

-- tables that extend one another are one collation
abbrev pub SameCollation : Type 0
SameCollation = (wide table : TableValue) → IsTable table → Extends wide table → collation wide ≡ collation table

module _ (turns : RecordsTurnBack) (wider : RecordsFitWider) (narrower : RecordsFitNarrower) (same : SameCollation) where
  changed : (before before2 after after2 : TableValue) (k : Kept) → collation before ≡ collation before2 → collation after ≡ collation after2 → IsChange before after k → IsChange before2 after2 k
  changed before before2 after after2 k p q it = record {
    proper = it.proper;
    accepted = ap (λ (t : Collation). delta t k.statement) (sym p) ∙ it.accepted ∙ ap Ok q;
    steps = it.steps ∙ ap (λ (t : Collation). statement_steps t k.statement) p;
  }

  pub leads_wider : (wide table : TableValue) → IsTable wide → IsTable table → Extends wide table → (kept : List Kept) → Leads table kept → LeadAlike wide table wide kept
  unfolding Leads undone_by
  leads_wider wide table w t extends [] leads = record { leads = tt; extends = extends; wide_is = w; table_is = t }
  leads_wider wide table w t extends (k ∷ kept) leads =
      let rest = leads_wider wide table w t extends kept leads.3 in
      let alike = wider (undone_by wide kept) (undone_by table kept) k.change rest.wide_is rest.table_is rest.extends leads.2 in
      let table_is : IsTable (turn (undone_by table kept) k.change) = (turns (undone_by table kept) k.change rest.table_is leads.2).stands in
      record {
        leads = (changed _ _ _ _ k (sym (same _ _ table_is alike.extends)) (sym (same _ _ rest.table_is rest.extends)) leads.0, leads.1, alike.fits, rest.leads);
        extends = alike.extends;
        wide_is = (turns (undone_by wide kept) k.change rest.wide_is alike.fits).stands;
        table_is = table_is;
      }

  pub leads_narrower : (wide table : TableValue) → IsTable wide → IsTable table → Extends wide table → (kept : List Kept) → Leads wide kept → LeadAlike wide table table kept
  unfolding Leads undone_by
  leads_narrower wide table w t extends [] leads = record { leads = tt; extends = extends; wide_is = w; table_is = t }
  leads_narrower wide table w t extends (k ∷ kept) leads =
      let rest = leads_narrower wide table w t extends kept leads.3 in
      let alike = narrower (undone_by wide kept) (undone_by table kept) k.change rest.wide_is rest.table_is rest.extends leads.1 leads.2 in
      let table_is : IsTable (turn (undone_by table kept) k.change) = (turns (undone_by table kept) k.change rest.table_is alike.fits).stands in
      record {
        leads = (changed _ _ _ _ k (same _ _ table_is alike.extends) (same _ _ rest.table_is rest.extends) leads.0, leads.1, alike.fits, rest.leads);
        extends = alike.extends;
        wide_is = (turns (undone_by wide kept) k.change rest.wide_is leads.2).stands;
        table_is = table_is;
      }

-- What becomes of a statement, by what its history and the table say.

pub judged_full : (h : History) (s : Statement) → most_remaining ≤ length h.remaining → judged h s ≡ Err HistoryFull
unfolding judged
judged_full h s full = ap (λ (b : Bool). if b then Err HistoryFull else judged_by h s (delta (table_now h) s)) (le-leb most_remaining (length h.remaining) full)

pub judged_where_room : (h : History) (s : Statement) → length h.remaining < most_remaining → judged h s ≡ judged_by h s (delta (table_now h) s)
unfolding judged
judged_where_room h s room = ap (λ (b : Bool). if b then Err HistoryFull else judged_by h s (delta (table_now h) s)) (lt-leb most_remaining (length h.remaining) room)

length-statements_of : (kept : List Kept) → length (statements_of kept) ≡ length kept
length-statements_of [] = refl
length-statements_of (k ∷ kept) = ap suc (length-statements_of kept)

abbrev made : Collation → List Statement → List Statement → History
made start remaining undone = record { start = start; remaining = remaining; undone = undone }

made_same : (s t : Collation) (a b u v : List Statement) → s ≡ t → a ≡ b → u ≡ v → made s a u ≡ made t b v
made_same s t a b u v p q r = ap (λ (x : Collation). made x a u) p ∙ ap (λ (x : List Statement). made t x u) q ∙ ap (λ (x : List Statement). made t b x) r

-- the history with an accepted statement, in which nothing is left to be put again
pub history_with : (start start2 : Collation) (kept undone kept2 undone2 : List Kept) (k : Kept) → kept2 ≡ kept ++ k ∷ [] → undone2 ≡ [] → start2 ≡ start
    → made start2 (statements_of kept2) (reverse (statements_of undone2)) ≡ with_statement (made start (statements_of kept) (reverse (statements_of undone))) k.statement
history_with start start2 kept undone kept2 undone2 k grown emptied same =
    made_same _ _ _ _ _ _ same
    (ap statements_of grown ∙ statements_of-push kept k)
    (ap (λ (ks : List Kept). reverse (statements_of ks)) emptied)

pub LeadsOn_none : (T : TableValue) (undone : List Kept) → undone ≡ [] → LeadsOn T (reverse undone)
unfolding LeadsOn
LeadsOn_none T undone emptied = subst (λ (ks : List Kept). LeadsOn T (reverse ks)) (sym emptied) tt

pub judged_accepted : (h : History) (s : Statement) (T2 : Collation) → length h.remaining < most_remaining → delta (table_now h) s ≡ Ok T2 → judged h s ≡ Ok (with_statement h s)
judged_accepted h s T2 room accepted = judged_where_room h s room ∙ ap (judged_by h s) accepted

pub judged_refused : (h : History) (s : Statement) (reason : Refusal) → length h.remaining < most_remaining → delta (table_now h) s ≡ Err reason → judged h s ≡ Err (Table reason)
judged_refused h s reason room refused = judged_where_room h s room ∙ ap (judged_by h s) refused

pub length-remaining : (T : TableValue) (kept undone : List Kept) → length (history_of T kept undone).remaining ≡ length kept
length-remaining T kept undone = length-statements_of kept

-- The history after an undo and after a redo.

pub taken_back_none : (T : TableValue) (kept undone : List Kept) → kept ≡ [] → taken_back (history_of T kept undone) ≡ Err NothingToUndo
unfolding taken_back
taken_back_none T kept undone none = ap (λ (ks : List Kept). taken_back (history_of T ks undone)) none

pub put_again_none : (T : TableValue) (kept undone : List Kept) → undone ≡ [] → put_again (history_of T kept undone) ≡ Err NothingToRedo
unfolding put_again
put_again_none T kept undone none = ap (λ (ks : List Kept). put_again (history_of T kept ks)) none

pub length-push : {A : Type 0} (xs : List A) (x : A) → length (xs ++ x ∷ []) ≡ suc (length xs)
length-push xs x = length-append xs (x ∷ []) ∙ add-one (length xs)

pub stepped_back_push : (start : Collation) (kept : List Statement) (s : Statement) (undone : List Statement)
    → stepped_back (made start (kept ++ s ∷ []) undone) ≡ made start kept (s ∷ undone)
stepped_back_push start kept s undone =
    let count = length-push kept s in
    let less : length (kept ++ s ∷ []) - 1 ≡ length kept = omega (arith, count) in
    ap (λ (n : ℕ). made start (take n (kept ++ s ∷ [])) (drop n (kept ++ s ∷ []) ++ undone)) less
    ∙ ap (λ (xs : List Statement). made start xs (drop (length kept) (kept ++ s ∷ []) ++ undone)) (take-append_seam kept (s ∷ []))
    ∙ ap (λ (xs : List Statement). made start kept (xs ++ undone)) (drop-append_seam kept (s ∷ []))

pub taken_back_push : (start : Collation) (kept : List Statement) (s : Statement) (undone : List Statement)
    → taken_back (made start (kept ++ s ∷ []) undone) ≡ Ok (made start kept (s ∷ undone))
unfolding taken_back
taken_back_push start kept s undone =
    let none : eqb (length (kept ++ s ∷ [])) 0 ≡ false = ne_eqb (length (kept ++ s ∷ [])) 0 (omega (arith, length-push kept s)) in
    ap (λ (b : Bool). if b then Err NothingToUndo else Ok (stepped_back (made start (kept ++ s ∷ []) undone))) none
    ∙ ap Ok (stepped_back_push start kept s undone)

-- a list of no members
pub nothing_left : (kept : List Kept) → length kept ≡ 0 → kept ≡ []
nothing_left [] none = refl
nothing_left (k ∷ kept) none = absurd (omega (arith, none))

pub Leads_none : (T : TableValue) (kept : List Kept) → kept ≡ [] → Leads T kept
unfolding Leads
Leads_none T kept emptied = subst (Leads T) (sym emptied) tt

pub history_begun : (T : TableValue) (kept undone : List Kept) → kept ≡ [] → undone ≡ [] → history_of (uncounted T) kept undone ≡ begun (collation T)
unfolding undone_by collation
history_begun T kept undone none nothing = ap (λ (ks : List Kept). history_of (uncounted T) ks undone) none ∙ ap (history_of (uncounted T) []) nothing
