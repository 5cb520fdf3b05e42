-- Statements that are put to a table anew, with their new records: what they make of it, and how they are given back.
use Rattle.std.proofs.Common.{◌≡◌, ℕ, ◌+◌, ◌<◌, Bool, true, false, not, List, [], ◌∷◌, ◌++◌, length, reverse, Result, Ok, Err, refl, sym, ap, ◌∙◌, subst, arith, suc, cond, add-one}
use Rattle.std.specs.Prelude.{if◌then◌else◌}
use Rattle.std.proofs.lemmas.Bool.{ne_eqb}
use Rattle.std.proofs.lemmas.List.{append-nil, append_assoc, reverse-append}
use Rattle.coll_order.specs.declared.places.NodeId.{NodeId}
use Rattle.coll_syntax.specs.Proper.{IsProper}
use Rattle.coll_syntax.specs.declared.statements.Statement.{Statement}
use Rattle.coll_nodes.specs.SoundLayouts.{IsTable}
use Rattle.coll_nodes.specs.Table.{Collation}
use Rattle.coll_nodes.specs.TableLayout.{TableLayout, TableValue, collation}
use Rattle.coll_table.specs.Delta.{delta}
use Rattle.coll_table.specs.Record.{AreLoose, Fits, IsSame, KeepsLoose, added_nodes, dropped_nodes, turn, turned, without_nodes}
use Rattle.coll_table.specs.RecordLaws.{RecordsAddAlike, RecordsTurnBack, RecordsFitWider, RecordsFitNarrower, UndonePutIn}
use Rattle.coll_table.specs.declared.records.Record.{Record}
use Rattle.coll_table.specs.declared.refusals.Refusal.{Refusal}
use Rattle.coll_history.specs.Kept.{statements_of, undone_by, uncounted, Leads}
use Rattle.coll_history.specs.Withdrawal.{going_on, withdrawn_from}
use Rattle.coll_history.specs.Withdrawing.{AreProper, CanGiveBack, IsRebuilt, given_back, paired, with_record}
use Rattle.coll_history.specs.declared.histories.Kept.{Kept}
use Rattle.coll_history.specs.declared.history_faults.BenchFault.TheVariants.{StillNeeded}
use Rattle.coll_history.proofs.HistoryLemmas.{SameCollation}
use Rattle.coll_history.proofs.HistorySteps.{leads_after, same_parts, Accepts}

-- What the statements make of the table.

-- the next one is accepted
pub goes_on : (left_out number : ℕ) (table next : Collation) (s : Statement) (later : List Statement) → left_out < number → delta table s ≡ Ok next
    → withdrawn_from left_out number table (s ∷ later) ≡ withdrawn_from left_out (suc number) next later
unfolding withdrawn_from
goes_on left_out number table next s later above accepted =
    ap (λ (b : Bool). if b then withdrawn_from left_out (suc number) table later else going_on number (delta table s) (λ (t : Collation). withdrawn_from left_out (suc number) t later))
    (ne_eqb number left_out (λ e. omega (arith, e, above)))
    ∙ ap (λ (r : Result Collation Refusal). going_on number r (λ (t : Collation). withdrawn_from left_out (suc number) t later)) accepted

-- it is refused
pub stops : (left_out number : ℕ) (table : Collation) (s : Statement) (later : List Statement) (refusal : Refusal) → left_out < number → delta table s ≡ Err refusal
    → withdrawn_from left_out number table (s ∷ later) ≡ Err (StillNeeded number refusal)
unfolding withdrawn_from
stops left_out number table s later refusal above refused =
    ap (λ (b : Bool). if b then withdrawn_from left_out (suc number) table later else going_on number (delta table s) (λ (t : Collation). withdrawn_from left_out (suc number) t later))
    (ne_eqb number left_out (λ e. omega (arith, e, above)))
    ∙ ap (λ (r : Result Collation Refusal). going_on number r (λ (t : Collation). withdrawn_from left_out (suc number) t later)) refused

-- none is left
pub is_made : (left_out number : ℕ) (table : Collation) (left : List Kept) → left ≡ [] → withdrawn_from left_out number table (statements_of (reverse left)) ≡ Ok table
unfolding withdrawn_from
is_made left_out number table left none = ap (λ (ks : List Kept). withdrawn_from left_out number table (statements_of (reverse ks))) none

-- the last one of a list comes first
pub comes_first : (left rest : List Kept) (k : Kept) → left ≡ rest ++ k ∷ [] → reverse left ≡ k ∷ reverse rest
comes_first left rest k e = ap reverse e ∙ reverse-append rest (k ∷ [])

pub goes_on_with : (left_out number : ℕ) (table next : Collation) (left rest : List Kept) (k : Kept) → left ≡ rest ++ k ∷ [] → left_out < number → delta table k.statement ≡ Ok next
    → withdrawn_from left_out number table (statements_of (reverse left)) ≡ withdrawn_from left_out (number + 1) next (statements_of (reverse rest))
goes_on_with left_out number table next left rest k e above accepted =
    ap (λ (ks : List Kept). withdrawn_from left_out number table (statements_of ks)) (comes_first left rest k e)
    ∙ goes_on left_out number table next k.statement (statements_of (reverse rest)) above accepted
    ∙ ap (λ n. withdrawn_from left_out n next (statements_of (reverse rest))) (sym (add-one number))

pub stops_at : (left_out number : ℕ) (table : Collation) (left rest : List Kept) (k : Kept) (refusal : Refusal) → left ≡ rest ++ k ∷ [] → left_out < number → delta table k.statement ≡ Err refusal
    → withdrawn_from left_out number table (statements_of (reverse left)) ≡ Err (StillNeeded number refusal)
stops_at left_out number table left rest k refusal e above refused =
    ap (λ (ks : List Kept). withdrawn_from left_out number table (statements_of ks)) (comes_first left rest k e)
    ∙ stops left_out number table k.statement (statements_of (reverse rest)) refusal above refused

-- proper statements
pub first_proper : (left rest : List Kept) (k : Kept) → left ≡ rest ++ k ∷ [] → AreProper (reverse left) → IsProper k.statement × AreProper (reverse rest)
unfolding AreProper
first_proper left rest k e proper = subst AreProper (comes_first left rest k e) proper

-- Pairs.

-- the statements that have no new record yet
unfoldable pub unpaired : List Kept → List Record → List Kept
unpaired [] fresh = []
unpaired (k ∷ kept) [] = k ∷ kept
unpaired (k ∷ kept) (change ∷ fresh) = unpaired kept fresh

pub unpaired_all : (kept : List Kept) (fresh : List Record) → fresh ≡ [] → unpaired kept fresh ≡ kept
unfolding unpaired
unpaired_all [] fresh none = refl
unpaired_all (k ∷ kept) fresh none = ap (unpaired (k ∷ kept)) none

pub paired_none : (kept : List Kept) (fresh : List Record) → fresh ≡ [] → paired kept fresh ≡ []
unfolding paired
paired_none [] fresh none = ap (paired []) none
paired_none (k ∷ kept) fresh none = ap (paired (k ∷ kept)) none

-- one more
pub unpaired_less : (kept rest : List Kept) (fresh : List Record) (k : Kept) (change : Record) → unpaired kept fresh ≡ k ∷ rest → unpaired kept (fresh ++ change ∷ []) ≡ rest
unfolding unpaired
unpaired_less [] rest fresh k change e = cc
unpaired_less (first ∷ kept) rest [] k change e = unpaired_all kept [] refl ∙ later first k kept rest e where
  later : (x y : Kept) (xs ys : List Kept) → x ∷ xs ≡ y ∷ ys → xs ≡ ys
  later x y xs ys e = cc
unpaired_less (first ∷ kept) rest (f ∷ fresh) k change e = unpaired_less kept rest fresh k change e

pub paired_more : (kept rest : List Kept) (fresh : List Record) (k : Kept) (change : Record) → unpaired kept fresh ≡ k ∷ rest
    → paired kept (fresh ++ change ∷ []) ≡ paired kept fresh ++ with_record k change ∷ []
unfolding paired unpaired
paired_more [] rest fresh k change e = cc
paired_more (first ∷ kept) rest [] k change e =
    ap (λ (ks : List Kept). with_record first change ∷ ks) (paired_none kept [] refl) ∙ ap (λ (x : Kept). with_record x change ∷ []) (one first k kept rest e) where
      one : (x y : Kept) (xs ys : List Kept) → x ∷ xs ≡ y ∷ ys → x ≡ y
      one x y xs ys e = cc
paired_more (first ∷ kept) rest (f ∷ fresh) k change e = ap (λ (ks : List Kept). with_record first f ∷ ks) (paired_more kept rest fresh k change e)

-- A table that was rebuilt.

pub rebuilt_none : (table : TableValue) (kept : List Kept) → kept ≡ [] → IsRebuilt table table kept
rebuilt_none table kept none = subst (IsRebuilt table table) (sym none) (record {
  leads = λ before leads. subst (Leads table) (sym (append-nil before)) leads;
  start = λ before leads. ap (λ (ks : List Kept). collation (undone_by table ks)) (append-nil before);
  loose = λ node it apart made. (apart, made);
})

pub loose_on : (a b c : TableLayout) → KeepsLoose a b → KeepsLoose b c → KeepsLoose a c
loose_on a b c p q node it apart made = let still = p node it apart made in q node it still.0 still.1

module _ (turns : RecordsTurnBack) (wider : RecordsFitWider) (narrower : RecordsFitNarrower) (same : SameCollation) where
  pub rebuilt_more : (old now after : TableValue) (kept : List Kept) (k : Kept) → IsRebuilt old now kept → Accepts now after after k → KeepsLoose now.layout after.layout
      → IsRebuilt old after (kept ++ k ∷ [])
  rebuilt_more old now after kept k r a loose = record {
    leads = λ before leads.
        subst (Leads after) (append_assoc before kept (k ∷ [])) (leads_after turns wider narrower same now after after (before ++ kept) k a (r.leads before leads)).leads;
    start = λ before leads.
        ap (λ (ks : List Kept). collation (undone_by after ks)) (sym (append_assoc before kept (k ∷ [])))
        ∙ (leads_after turns wider narrower same now after after (before ++ kept) k a (r.leads before leads)).start
        ∙ r.start before leads;
    loose = loose_on old.layout now.layout after.layout r.loose loose;
  }

-- The way back.

-- a table without its count of steps
pub record_fits : (t : TableValue) (r : Record) → Fits t r → Fits (uncounted t) r
unfolding turn collation
record_fits t r f = record { few = f.few; goes = f.goes; well_formed = f.well_formed }

pub record_fits_counted : (t : TableValue) (r : Record) → Fits (uncounted t) r → Fits t r
unfolding turn collation
record_fits_counted t r f = record { few = f.few; goes = f.goes; well_formed = f.well_formed }

without_uncounted : (t : TableValue) (nodes : List NodeId) → without_nodes (uncounted t) nodes ≡ uncounted (without_nodes t nodes)
unfolding without_nodes
without_uncounted t nodes = refl

turn_record_uncounted : (t : TableValue) (r : Record) → turn (uncounted t) r ≡ uncounted (turn t r)
unfolding turn
turn_record_uncounted t r = refl

turned_record_uncounted : (t : TableValue) (r : Record) → turned (uncounted t) r ≡ turned t r
unfolding turned
turned_record_uncounted t r = refl

-- the newest record, given back, leaves the table that its statement was put to
pub one_back : (table after : TableValue) (r : Record) → IsSame (without_nodes (turn after r) (added_nodes r.items)) table
    → without_nodes (turn (uncounted after) r) (added_nodes r.items) ≡ uncounted table
one_back table after r same =
    ap (λ (t : TableValue). without_nodes t (added_nodes r.items)) (turn_record_uncounted after r)
    ∙ without_uncounted (turn after r) (added_nodes r.items)
    ∙ same_parts (without_nodes (turn after r) (added_nodes r.items)) table same.rules same.layout

pub can_more : (table after : TableValue) (fresh : List Record) (r : Record) → r.undone ≡ false → Fits after r → IsSame (without_nodes (turn after r) (added_nodes r.items)) table
    → CanGiveBack (uncounted table) (reverse fresh) → CanGiveBack (uncounted after) (reverse (fresh ++ r ∷ []))
unfolding CanGiveBack
can_more table after fresh r in_force fits same can =
    subst (CanGiveBack (uncounted after)) (sym (reverse-append fresh (r ∷ [])))
    (in_force, record_fits after r fits, subst (λ (t : TableValue). CanGiveBack t (reverse fresh)) (sym (one_back table after r same)) can)

pub back_more : (table after : TableValue) (fresh : List Record) (r : Record) → IsSame (without_nodes (turn after r) (added_nodes r.items)) table
    → given_back (uncounted after) (reverse (fresh ++ r ∷ [])) ≡ given_back (uncounted table) (reverse fresh)
unfolding given_back
back_more table after fresh r same =
    ap (given_back (uncounted after)) (reverse-append fresh (r ∷ []))
    ∙ ap (λ (t : TableValue). given_back t (reverse fresh)) (one_back table after r same)

pub can_none : (table : TableValue) (fresh : List Record) → fresh ≡ [] → CanGiveBack table (reverse fresh)
unfolding CanGiveBack
can_none table fresh none = subst (λ (rs : List Record). CanGiveBack table (reverse rs)) (sym none) tt

pub back_none : (table : TableValue) (fresh : List Record) → fresh ≡ [] → given_back table (reverse fresh) ≡ table
unfolding given_back
back_none table fresh none = ap (λ (rs : List Record). given_back table (reverse rs)) none

-- the newest record is the next to be given back
pub can_newest : (table : TableValue) (fresh rest : List Record) (r : Record) → fresh ≡ rest ++ r ∷ [] → CanGiveBack table (reverse fresh)
    → (r.undone ≡ false) × Fits table r × CanGiveBack (without_nodes (turn table r) (added_nodes r.items)) (reverse rest)
unfolding CanGiveBack
can_newest table fresh rest r e can = subst (CanGiveBack table) (ap reverse e ∙ reverse-append rest (r ∷ [])) can

pub back_newest : (table : TableValue) (fresh rest : List Record) (r : Record) → fresh ≡ rest ++ r ∷ []
    → given_back table (reverse fresh) ≡ given_back (without_nodes (turn table r) (added_nodes r.items)) (reverse rest)
unfolding given_back
back_newest table fresh rest r e = ap (given_back table) (ap reverse e ∙ reverse-append rest (r ∷ []))

-- a record in force, turned, is undone
pub is_undone : (table : TableValue) (r r1 : Record) → r.undone ≡ false → r1 ≡ turned table r → r1.undone ≡ true
unfolding turned
is_undone table r r1 in_force e = ap (λ (x : Record). x.undone) e ∙ ap not in_force

pub drops_added : (r : Record) → r.undone ≡ true → dropped_nodes r ≡ added_nodes r.items
drops_added r undone = ap (λ (b : Bool). cond b (added_nodes r.items) []) undone

pub turned_loose : UndonePutIn → (table : TableValue) (r : Record) → IsTable table → r.undone ≡ true → Fits table r → AreLoose table.layout (dropped_nodes r)
turned_loose put_in table r is undone fits = subst (AreLoose table.layout) (sym (drops_added r undone)) (put_in table r is undone fits).loose

-- a record that was turned and forgotten
pub is_given_back : RecordsAddAlike → (table turned_table after : TableValue) (r r1 : Record) → r.undone ≡ false → IsSame turned_table (turn table r) → r1 ≡ turned table r
    → after ≡ without_nodes turned_table (dropped_nodes r1)
    → uncounted after ≡ without_nodes (turn (uncounted table) r) (added_nodes r.items)
is_given_back add table turned_table after r r1 in_force same e forgotten =
    ap uncounted forgotten
    ∙ sym (without_uncounted turned_table (dropped_nodes r1))
    ∙ ap (without_nodes (uncounted turned_table)) (drops_added r1 (is_undone table r r1 in_force e) ∙ ap (λ (x : Record). added_nodes x.items) e ∙ add table r)
    ∙ ap (λ (t : TableValue). without_nodes t (added_nodes r.items)) (same_parts turned_table (turn table r) same.rules same.layout ∙ sym (turn_record_uncounted table r))

-- a list of no members
pub none_left : {X : Type 0} (xs : List X) → length xs ≡ 0 → xs ≡ []
none_left [] none = refl
none_left (x ∷ xs) none = absurd (omega (arith, none))
