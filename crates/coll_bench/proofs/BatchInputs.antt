-- The inputs of a batch, one after another: what the delta files so far give, and what one at fault says.
use Rattle.std.proofs.Common.{◌≡◌, ℕ, zero, suc, pred, ◌+◌, Bool, true, false, if◌then◌else◌, List, [], ◌∷◌, ◌++◌, map, take}
use Rattle.std.proofs.Common.{drop, set, length, Option, Some, Result, Ok, Err, refl, sym, ap, ◌∙◌, subst, arith}
use Rattle.std.specs.Prelude.{slice_get, ◌==◌}
use Rattle.coll_devices.specs.Devices.{raised}
use Rattle.coll_nodes.specs.Table.{Collation}
use Rattle.coll_faults.specs.Faults.{fault_number}
use Rattle.coll_bench.specs.BatchOutcome.{unless_faulty, after_delta, after_deltas}
use Rattle.coll_bench.specs.BatchReading.{DeltaFails, CountsDelta, DeltasFail, CountsDeltas}
use Rattle.coll_bench.specs.BatchRuns.{Ending, ReadFailed, WriteFailed, Starved, Refused, raised_at, DeltaStopsWithin, DeltasStopWithin, DeltaStarves, DeltasStarve}
use Rattle.coll_faults.specs.declared.faults.RunFault.{RunFault}
use Rattle.coll_bench.proofs.Members.{got-map, set-same, split_got, take_got, length-take_got}

after_by : (r : Result Collation RunFault) (n k : ℕ) (xs ys : List (List ℕ))
    → ((t : Collation) → after_deltas (suc n) t (xs ++ ys) ≡ unless_faulty (after_deltas (suc n) t xs) (λ c. after_deltas k c ys))
    → unless_faulty r (λ t. after_deltas (suc n) t (xs ++ ys)) ≡ unless_faulty (unless_faulty r (λ t. after_deltas (suc n) t xs)) (λ c. after_deltas k c ys)
after_by (Ok t) n k xs ys h = h t
after_by (Err f) n k xs ys h = refl

-- delta files, and then others
after_deltas-append : (n k : ℕ) (table : Collation) (xs ys : List (List ℕ)) → k ≡ n + length xs → after_deltas n table (xs ++ ys) ≡ unless_faulty (after_deltas n table xs) (λ c. after_deltas k c ys)
unfolding after_deltas
after_deltas-append n k table [] ys e = let same : k ≡ n = omega (arith, e) in ap (λ m. after_deltas m table ys) (sym same)
after_deltas-append n k table (x ∷ xs) ys e = after_by (after_delta n table x) n k xs ys (λ t. after_deltas-append (suc n) k t xs ys (omega (arith, e)))

one_after : (n : ℕ) (table : Collation) (x : List ℕ) (r : Result Collation RunFault) → after_delta n table x ≡ r → after_deltas n table (x ∷ []) ≡ r
unfolding after_deltas
one_after n table x (Ok t) e = ap (λ r. unless_faulty r (λ t. after_deltas (suc n) t [])) e
one_after n table x (Err f) e = ap (λ r. unless_faulty r (λ t. after_deltas (suc n) t [])) e

fault_first : (n : ℕ) (table : Collation) (x : List ℕ) (ys : List (List ℕ)) (f : RunFault) → after_delta n table x ≡ Err f → after_deltas n table (x ∷ ys) ≡ Err f
unfolding after_deltas
fault_first n table x ys f e = ap (λ r. unless_faulty r (λ t. after_deltas (suc n) t ys)) e

pub none_after : (table : Collation) (texts : List (List ℕ)) → after_deltas 1 table (take 0 texts) ≡ Ok table
unfolding after_deltas
none_after table texts = refl

module _ (first table : Collation) (texts : List (List ℕ)) (i : ℕ) (text : List ℕ) (at : slice_get texts i ≡ Some text) (taken : after_deltas 1 first (take i texts) ≡ Ok table) where
  number : i + 1 ≡ 1 + length (take i texts)
  number = let long = length-take_got texts i text at in omega (arith, long)

  -- one more delta file gives a table
  pub one_more : (changed : Collation) → after_delta (i + 1) table text ≡ Ok changed → after_deltas 1 first (take (i + 1) texts) ≡ Ok changed
  one_more changed e =
      ap (after_deltas 1 first) (take_got texts i text at)
      ∙ (after_deltas-append 1 (i + 1) first (take i texts) (text ∷ []) number
      ∙ (ap (λ r. unless_faulty r (λ c. after_deltas (i + 1) c (text ∷ []))) taken ∙ one_after (i + 1) table text (Ok changed) e))

  -- one more is at fault
  pub one_faulty : (ended : RunFault) → after_delta (i + 1) table text ≡ Err ended → after_deltas 1 first texts ≡ Err ended
  one_faulty ended e =
      ap (after_deltas 1 first) (split_got texts i text at)
      ∙ (after_deltas-append 1 (i + 1) first (take i texts) (text ∷ drop (i + 1) texts) number
      ∙ (ap (λ r. unless_faulty r (λ c. after_deltas (i + 1) c (text ∷ drop (i + 1) texts))) taken ∙ fault_first (i + 1) table text (drop (i + 1) texts) ended e))

  -- what it says of itself it says of all
  pub fails_all : (kind : Ending) (left : Option (List ℕ)) (lefts : List (Option (List ℕ))) (ended : RunFault) → slice_get lefts i ≡ Some left → ended.input ≡ i + 1
      → DeltaFails kind (i + 1) table text left ended → DeltasFail kind first texts lefts ended
  fails_all ReadFailed left lefts ended here input h =
      let before : i ≡ pred ended.input = omega (arith, input) in
      let next : i + 1 ≡ suc i = omega arith in
      (h.0, subst (λ n. DeltasStopWithin n first texts lefts) before (table, text, left, taken, at, here, subst (λ n. DeltaStopsWithin n table text left) next h.1))
  fails_all WriteFailed left lefts ended here input h = h
  fails_all Starved left lefts ended here input h =
      let before : i ≡ pred ended.input = omega (arith, input) in
      let next : i + 1 ≡ suc i = omega arith in
      subst (λ n. DeltasStarve n first texts ended.line) before (table, text, taken, at, subst (λ n. DeltaStarves n table text ended.line) next h)
  fails_all Refused left lefts ended here input h = one_faulty ended h

-- The counts of the files.

raised_by : (f : List ℕ) (i c : ℕ) → slice_get f i ≡ Some c → raised_at i f ≡ set f i (raised c)
raised_by [] i c e = refl
raised_by (x ∷ xs) zero c e = let same : x ≡ c = cc in ap (λ n. raised n ∷ xs) same
raised_by (x ∷ xs) (suc i) c e = ap (λ l. x ∷ l) (raised_by xs i c e)

pub counts_all : {X : Type 0} (failed : X → ℕ) (start now : List X) (i : ℕ) (d new : X) (ended : RunFault) → map failed now ≡ map failed start → slice_get now i ≡ Some d → ended.input ≡ i + 1
    → CountsDelta (failed d) (failed new) (Err ended)
    → CountsDeltas (map failed start) (map failed (set now i new)) (Err ended)
counts_all {X = X} failed start now i d new ended same at input h =
    let before : i ≡ pred ended.input = omega (arith, input) in
    by_kind (fault_number ended.fault == 67) before h
  where
    set_map : (xs : List X) (i : ℕ) → map failed (set xs i new) ≡ set (map failed xs) i (failed new)
    set_map [] i = refl
    set_map (x ∷ xs) zero = refl
    set_map (x ∷ xs) (suc i) = ap (λ l. failed x ∷ l) (set_map xs i)

    by_kind : (b : Bool) → i ≡ pred ended.input → failed new ≡ (if b then raised (failed d) else failed d)
        → map failed (set now i new) ≡ (if b then raised_at (pred ended.input) (map failed start) else map failed start)
    by_kind true before h =
        set_map now i ∙ (ap (set (map failed now) i) h
        ∙ (sym (raised_by (map failed now) i (failed d) (got-map failed now i d at)) ∙ (ap (λ l. raised_at i l) same ∙ ap (λ n. raised_at n (map failed start)) before)))
    by_kind false before h = set-same failed now i d new at h ∙ same
