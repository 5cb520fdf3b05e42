-- A statement that is taken back and put again leaves the history, and where none is, the table before it is that of now.
use Rattle.std.proofs.Common.{◌≡◌, ℕ, ◌==◌, not, Bool, true, false, if◌then◌else◌, List, [], ◌∷◌, ◌++◌, length, Result, Ok, Err, refl, sym, ap, ◌∙◌, arith}
use Rattle.std.specs.Prelude.{IfOk, IfErr}
use Rattle.coll_nodes.specs.Table.{Collation}
use Rattle.coll_syntax.specs.declared.statements.Statement.{Statement}
use Rattle.std.proofs.lemmas.Bool.{eqb-true}
use Rattle.coll_history.specs.Histories.{History, taken_back, put_again, stepped_back, table_now}
use Rattle.coll_history.specs.declared.history_faults.BenchFault.{BenchFault}
use Rattle.coll_history.specs.declared.history_faults.BenchFault.TheVariants.{NothingToUndo}
use Rattle.coll_history.proofs.HistoryLemmas.{taken_back_push}
use Rattle.coll_edit_replies.specs.WordLists.{table_before}

-- a list with a member has a last one
last_of : (x : Statement) (xs : List Statement) → (init : List Statement) × (last : Statement) × (x ∷ xs ≡ init ++ last ∷ [])
last_of x [] = ([], x, refl)
last_of x (y ∷ ys) = let (init, last, is) = last_of y ys in (x ∷ init, last, ap (λ (l : List Statement). x ∷ l) is)

-- what was taken back last is put again
again_at : (start : Collation) (remaining undone : List Statement) (h1 : History) → taken_back (record { start = start; remaining = remaining; undone = undone }) ≡ Ok h1
    → put_again h1 ≡ Ok (record { start = start; remaining = remaining; undone = undone })
unfolding taken_back put_again
again_at start [] undone h1 back = absurd cc
again_at start (x ∷ xs) undone h1 back =
    let (init, last, is) = last_of x xs in
    let pushed : taken_back (record { start = start; remaining = init ++ last ∷ []; undone = undone }) ≡ Ok (record { start = start; remaining = init; undone = last ∷ undone }) =
    taken_back_push start init last undone in
    let stepped : taken_back (record { start = start; remaining = x ∷ xs; undone = undone }) ≡ Ok (record { start = start; remaining = init; undone = last ∷ undone }) =
    ap (λ (l : List Statement). taken_back (record { start = start; remaining = l; undone = undone })) is ∙ pushed in
    let same : record { start = start; remaining = init; undone = last ∷ undone } ≡ h1 = cc in
    ap put_again (sym same) ∙ ap (λ (l : List Statement). Ok (record { start = start; remaining = l; undone = undone })) (sym is)

pub put_back : (h h1 h2 : History) (r : Result ℕ BenchFault) → taken_back h ≡ Ok h1 → IfOk r (λ _. put_again h1 ≡ Ok h2) → IfErr r (λ fault. put_again h1 ≡ Err fault) → h2 ≡ h
put_back h h1 h2 (Ok count) back again refused = let is : put_again h1 ≡ Ok h = again_at h.start h.remaining h.undone h1 back in cc
put_back h h1 h2 (Err fault) back again refused = let is : put_again h1 ≡ Ok h = again_at h.start h.remaining h.undone h1 back in absurd cc

-- the table before the last statement is that behind an undo
taken_if : (h h1 : History) (none : Bool) → (if none then Err NothingToUndo else Ok (stepped_back h)) ≡ Ok h1 → stepped_back h ≡ h1
taken_if h h1 true e = absurd cc
taken_if h h1 false e = cc

pub before_taken : (h h1 : History) → taken_back h ≡ Ok h1 → table_now h1 ≡ table_before h
unfolding taken_back
before_taken h h1 e = sym (ap (λ (x : History). table_now x) (taken_if h h1 (length h.remaining == 0) e))

-- or that of now, where none remains
none_taken : (start : Collation) (remaining undone : List Statement) → length remaining ≡ 0
    → table_before (record { start = start; remaining = remaining; undone = undone }) ≡ table_now (record { start = start; remaining = remaining; undone = undone })
none_taken start [] undone none = refl
none_taken start (s ∷ remaining) undone none = absurd (omega (arith, none))

refused_if : (h : History) (fault : BenchFault) (none : Bool) → (length h.remaining == 0) ≡ none → (if none then Err NothingToUndo else Ok (stepped_back h)) ≡ Err fault
    → length h.remaining ≡ 0
refused_if h fault true is e = eqb-true (length h.remaining) 0 is
refused_if h fault false is e = absurd cc

pub before_none : (h : History) (fault : BenchFault) → taken_back h ≡ Err fault → table_now h ≡ table_before h
unfolding taken_back
before_none h fault e = sym (none_taken h.start h.remaining h.undone (refused_if h fault (length h.remaining == 0) refl e))

pub before_uncounted : (h : History) (count : ℕ) (none : Bool) → (count == 0) ≡ none → not none ≡ false → count ≡ length h.remaining → table_before h ≡ table_now h
before_uncounted h count true is e same = none_taken h.start h.remaining h.undone (sym same ∙ eqb-true count 0 is)
before_uncounted h count false is e same = absurd cc
