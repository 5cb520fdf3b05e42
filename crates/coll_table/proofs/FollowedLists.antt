-- Nodes that have numbers one after another: one is taken out, and put in elsewhere.
use Rattle.std.proofs.Common.{◌≡◌, ◌≤◌, ◌<◌, ◌+◌, ◌-◌, ◌^◌, min, ℕ, suc, true, false, ◌||◌, cond, List, [], ◌∷◌, ◌++◌, Option, Some, None, length, sym, ap, subst, ◌∙◌, refl, arith}
use Rattle.std.proofs.lemmas.Bool.{lt-ltb, le-ltb, le-leb, lt-leb}
use Rattle.std.proofs.lemmas.List.{length-append}
use Rattle.std.proofs.lemmas.List.Folds.{list_any-append}
use Rattle.std.specs.Option.{option_or, unwrap_or}
use Rattle.coll_order.specs.Lists.{same_node, has_node}
use Rattle.coll_order.specs.Sound.{AreDistinct}
use Rattle.coll_order.specs.declared.places.NodeId.{NodeId}
use Rattle.coll_order.specs.declared.places.Place.{Place}
use Rattle.coll_order.specs.declared.places.Place.TheVariants.{Head, After}
use Rattle.coll_order.proofs.ListLemmas.{neither}
use Rattle.coll_order.proofs.Sameness.{by_test, not_both, other_node_turned, same_node_is, same_node_itself}
use Rattle.coll_lookups.specs.EntryNumbers.{lowered, moved, number_at, raised}
use Rattle.coll_nodes.specs.NodeNumbers.{last_number}
use Rattle.coll_table.specs.Following.{AreGiven, AreNumbered, GoesAmong, IsLeft, IsTaken, LeavesFrom, TakesTo}

-- Single numbers.

low_stays : (from n : ℕ) → n ≤ from → lowered from n ≡ n
low_stays from n low = ap (λ b. cond b (n - 1) n) (le-ltb from n low)

high_falls : (from n : ℕ) → from < n → lowered from n ≡ n - 1
high_falls from n high = ap (λ b. cond b (n - 1) n) (lt-ltb from n high)

small_stays : (to n : ℕ) → n < to → raised to n ≡ n
small_stays to n small = ap (λ b. cond b (min (n + 1) (2 ^ 32 - 1)) n) (lt-leb to n small)

large_rises : (to n : ℕ) → to ≤ n → n + 1 < 2 ^ 32 → raised to n ≡ suc n
large_rises to n large most = ap (λ b. cond b (min (n + 1) (2 ^ 32 - 1)) n) (le-leb to n large) ∙ (let rises : min (n + 1) (2 ^ 32 - 1) ≡ suc n = omega (arith, most) in rises)

-- Lists.

append-one : (xs : List NodeId) (y : NodeId) (ys : List NodeId) → (xs ++ y ∷ []) ++ ys ≡ xs ++ y ∷ ys
append-one [] y ys = refl
append-one (x ∷ xs) y ys = ap (λ zs. x ∷ zs) (append-one xs y ys)

-- two lists, one behind the other
pub given_parts : (f : NodeId → ℕ) (k : ℕ) (xs ys : List NodeId) → AreGiven f k (xs ++ ys) → AreGiven f k xs × AreGiven f (k + length xs) ys
given_parts f k [] ys given = (tt, subst (λ n. AreGiven f n ys) (let same : k ≡ k + 0 = omega arith in same) given)
given_parts f k (x ∷ xs) ys given =
    let later = given_parts f (suc k) xs ys given.1 in
    ((given.0, later.0), subst (λ n. AreGiven f n ys) (let same : suc k + length xs ≡ k + suc (length xs) = omega arith in same) later.1)

pub given_joined : (f : NodeId → ℕ) (k : ℕ) (xs ys : List NodeId) → AreGiven f k xs → AreGiven f (k + length xs) ys → AreGiven f k (xs ++ ys)
given_joined f k [] ys here later = subst (λ n. AreGiven f n ys) (let same : k + 0 ≡ k = omega arith in same) later
given_joined f k (x ∷ xs) ys here later =
    (here.0, given_joined f (suc k) xs ys here.1 (subst (λ n. AreGiven f n ys) (let same : k + suc (length xs) ≡ suc k + length xs = omega arith in same) later))

-- a node of the list has one of the numbers
pub given_above : (f : NodeId → ℕ) (k : ℕ) (xs : List NodeId) (node : NodeId) → AreGiven f k xs → has_node xs node ≡ true → k < f node
given_above f k [] node given there = not_both there refl
given_above f k (x ∷ xs) node given there =
    by_test (λ b. same_node node x ≡ b → (b || has_node xs node) ≡ true → k < f node) (same_node node x)
    (λ on e _. let is : f node ≡ suc k = ap f (same_node_is node x e) ∙ given.0 in omega (arith, is))
    (λ off e later. let above = given_above f (suc k) xs node given.1 later in omega (arith, above)) refl there

-- so none stands twice
pub given_distinct : (f : NodeId → ℕ) (k : ℕ) (xs : List NodeId) → AreGiven f k xs → AreDistinct xs
given_distinct f k [] given = tt
given_distinct f k (x ∷ xs) given = (
  by_test (λ b. has_node xs x ≡ b → b ≡ false) (has_node xs x)
      (λ on e. let above = given_above f (suc k) xs x given.1 e in let is = given.0 in absurd (omega (arith, above, is)))
      (λ off e. refl) refl,
  given_distinct f (suc k) xs given.1,
)

-- the last number of a node is its number
pub given_last : (f : NodeId → ℕ) (k : ℕ) (xs : List NodeId) (node : NodeId) → AreGiven f k xs → f node ≡ unwrap_or (last_number k xs node) (f node)
given_last f k [] node given = refl
given_last f k (x ∷ xs) node given = by (last_number (suc k) xs node) (given_last f (suc k) xs node given.1) where
  by : (p : Option ℕ) → f node ≡ unwrap_or p (f node) → f node ≡ unwrap_or (option_or p (cond (same_node node x) (Some (suc k)) None)) (f node)
  by None same = by_test (λ b. same_node node x ≡ b → f node ≡ unwrap_or (cond b (Some (suc k)) None) (f node)) (same_node node x)
      (λ on e. ap f (same_node_is node x e) ∙ given.0) (λ off e. refl) refl
  by (Some n) same = same

-- Places that are left and taken.

lowered_low : (f : NodeId → ℕ) (from k : ℕ) (xs : List NodeId) → AreGiven f k xs → k + length xs ≤ from → AreGiven (λ x. lowered from (f x)) k xs
lowered_low f from k [] given low = tt
lowered_low f from k (x ∷ xs) given low =
    (ap (lowered from) given.0 ∙ low_stays from (suc k) (omega (arith, low)), lowered_low f from (suc k) xs given.1 (omega (arith, low)))

lowered_high : (f : NodeId → ℕ) (from k : ℕ) (xs : List NodeId) → AreGiven f (suc k) xs → from ≤ suc k → AreGiven (λ x. lowered from (f x)) k xs
lowered_high f from k [] given high = tt
lowered_high f from k (x ∷ xs) given high = (
  ap (lowered from) given.0 ∙ (high_falls from (suc (suc k)) (omega (arith, high)) ∙ (let one : suc (suc k) - 1 ≡ suc k = omega arith in one)),
  lowered_high f from (suc k) xs given.1 (omega (arith, high)),
)

raised_low : (f : NodeId → ℕ) (to k : ℕ) (xs : List NodeId) → AreGiven f k xs → k + length xs < to → AreGiven (λ x. raised to (f x)) k xs
raised_low f to k [] given low = tt
raised_low f to k (x ∷ xs) given low =
    (ap (raised to) given.0 ∙ small_stays to (suc k) (omega (arith, low)), raised_low f to (suc k) xs given.1 (omega (arith, low)))

raised_high : (f : NodeId → ℕ) (to k : ℕ) (xs : List NodeId) → AreGiven f k xs → to ≤ suc k → k + length xs + 1 < 2 ^ 32 → AreGiven (λ x. raised to (f x)) (suc k) xs
raised_high f to k [] given high most = tt
raised_high f to k (x ∷ xs) given high most =
    (ap (raised to) given.0 ∙ large_rises to (suc k) high (omega (arith, most)), raised_high f to (suc k) xs given.1 (omega (arith, high)) (omega (arith, most)))

-- a number that only one node outside the list has otherwise
given_apart : (f g : NodeId → ℕ) (node : NodeId) (to k : ℕ) (xs : List NodeId) → has_node xs node ≡ false → ((other : NodeId) → g other ≡ cond (same_node other node) to (f other)) → AreGiven f k xs
    → AreGiven g k xs
given_apart f g node to k [] apart told given = tt
given_apart f g node to k (x ∷ xs) apart told given =
    let parts = neither (same_node node x) (has_node xs node) apart in
    (told x ∙ (ap (λ b. cond b to (f x)) (other_node_turned node x parts.0) ∙ given.0), given_apart f g node to (suc k) xs parts.1 told given.1)

-- the numbers of the others where a place is left
pub left_given : (f : NodeId → ℕ) (had : Option Place) (node : NodeId) (from : ℕ) (old rest : List NodeId) → IsLeft had node old rest → LeavesFrom had (f node) from → length old < 2 ^ 32 → AreGiven f 0 old
    → AreGiven (λ x. lowered from (f x)) 0 rest × (length rest ≤ length old)
left_given f None node from old rest left leaves few given =
    let same = ap length left in
    (subst (AreGiven (λ x. lowered from (f x)) 0) left (lowered_low f from 0 old given (omega (arith, few, leaves))), omega (arith, same))
left_given f (Some place) node from old rest left leaves few given =
    let before = left.0 in let after = left.1 in
    let parts = given_parts f 0 before (node ∷ after) (subst (AreGiven f 0) left.2 given) in
    let at = parts.1.0 in
    let whole = ap length left.2 ∙ length-append before (node ∷ after) in
    let all = ap length left.3 ∙ length-append before after in
    let one : suc (0 + length before) ≡ suc (length before) = omega arith in
    let low = lowered_low f from 0 before parts.0 (omega (arith, leaves, at)) in
    let high = lowered_high f from (0 + length before) after parts.1.1 (omega (arith, leaves, at)) in
    (subst (AreGiven (λ x. lowered from (f x)) 0) (sym left.3) (given_joined (λ x. lowered from (f x)) 0 before after low high), omega (arith, whole, all))

-- the numbers of all where a place is taken
pub taken_given : (f g h : NodeId → ℕ) (has : Option Place) (node : NodeId) (from to : ℕ) (rest new : List NodeId) → has_node rest node ≡ false → IsTaken has node rest new → TakesTo has f from to
    → length rest + 2 < 2 ^ 32 → ((other : NodeId) → h other ≡ lowered from (f other)) → ((other : NodeId) → g other ≡ cond (same_node other node) to (raised to (h other))) → AreGiven h 0 rest
    → AreGiven g 0 new × (length new ≤ suc (length rest))
taken_given f g h None node from to rest new apart taken takes few lower told given =
    let same = ap length taken in
    (subst (AreGiven g 0) (sym taken) (given_apart (λ x. raised to (h x)) g node to 0 rest apart told (raised_low h to 0 rest given (omega (arith, few, takes)))), omega (arith, same))
taken_given f g h (Some (Head ring)) node from to rest new apart taken takes few lower told given = absurd takes
taken_given f g h (Some (After other)) node from to rest new apart taken takes few lower told given =
    let before = taken.0 in let after = taken.1 in
    let front = before ++ other ∷ [] in
    let rest_is : rest ≡ front ++ after = taken.2 ∙ sym (append-one before other after) in
    let new_is : new ≡ front ++ node ∷ after = taken.3 ∙ sym (append-one before other (node ∷ after)) in
    let parts = given_parts h 0 front after (subst (AreGiven h 0) rest_is given) in
    let at = (given_parts h 0 before (other ∷ []) parts.0).1.0 in
    let place : lowered from (f other) ≡ suc (0 + length before) = sym (lower other) ∙ at in
    let front_length = length-append before (other ∷ []) in
    let one : length (other ∷ []) ≡ 1 = refl in
    let rest_length = ap length rest_is ∙ length-append front after in
    let new_length = ap length new_is ∙ length-append front (node ∷ after) in
    let more : length (node ∷ after) ≡ suc (length after) = refl in
    let to_is : to ≡ suc (length front) = omega (arith, takes, place, front_length, one, few, rest_length) in
    let apart_front : has_node front node ≡ false = (neither (has_node front node) (has_node after node) (sym (list_any-append (same_node node) front after) ∙ (sym (ap (λ nodes. has_node nodes node) rest_is) ∙ apart))).0 in
    let apart_after : has_node after node ≡ false = (neither (has_node front node) (has_node after node) (sym (list_any-append (same_node node) front after) ∙ (sym (ap (λ nodes. has_node nodes node) rest_is) ∙ apart))).1 in
    let low = given_apart (λ x. raised to (h x)) g node to 0 front apart_front told (raised_low h to 0 front parts.0 (omega (arith, to_is))) in
    let high = given_apart (λ x. raised to (h x)) g node to (suc (0 + length front)) after apart_after told
    (raised_high h to (0 + length front) after parts.1 (omega (arith, to_is)) (omega (arith, few, rest_length))) in
    let own : g node ≡ suc (0 + length front) = told node ∙ (ap (λ b. cond b to (raised to (h node))) (same_node_itself node) ∙ (let same : to ≡ suc (0 + length front) = omega (arith, to_is) in same)) in
    (subst (AreGiven g 0) (sym new_is) (given_joined g 0 front (node ∷ after) low (own, high)), omega (arith, rest_length, new_length, more))

-- a node that goes among others: all have their numbers
pub goes_given : (f g : NodeId → ℕ) (had has : Option Place) (node : NodeId) (from to : ℕ) (old rest new : List NodeId) → GoesAmong had has node old rest new → LeavesFrom had (f node) from
    → TakesTo has f from to → length old + 2 < 2 ^ 32 → ((other : NodeId) → g other ≡ cond (same_node other node) to (moved from to (f other))) → AreGiven f 0 old
    → AreGiven g 0 new × (length new ≤ suc (length old))
goes_given f g had has node from to old rest new goes leaves takes few told given =
    let left = left_given f had node from old rest goes.left leaves (omega (arith, few)) given in
    let fewer = left.1 in
    let taken = taken_given f g (λ x. lowered from (f x)) has node from to rest new goes.apart goes.taken takes (omega (arith, few, fewer)) (λ other. refl) told left.0 in
    let most = taken.1 in
    (taken.0, omega (arith, most, fewer))

-- so they are numbered, and are at most one more
pub goes_numbered : (numbers after : List ℕ) (had has : Option Place) (node : NodeId) (from to : ℕ) (old rest new : List NodeId) (most : ℕ) → most < 2000000 → GoesAmong had has node old rest new
    → LeavesFrom had (number_at numbers node) from → TakesTo has (number_at numbers) from to
    → ((other : NodeId) → number_at after other ≡ cond (same_node other node) to (moved from to (number_at numbers other))) → AreNumbered numbers old most → AreNumbered after new (suc most)
goes_numbered numbers after had has node from to old rest new most small goes leaves takes told numbered =
    let few = numbered.few in
    let gives = goes_given (number_at numbers) (number_at after) had has node from to old rest new goes leaves takes (omega (arith, small, few)) told numbered.given in
    let more = gives.1 in
    record { given = gives.0; few = omega (arith, few, more) }
