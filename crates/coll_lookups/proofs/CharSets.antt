-- Characters in a set: what is found there, and what one more does.
use Rattle.std.proofs.Common.{◌≡◌, ◌<◌, ◌≤◌, ◌+◌, ◌-◌, ◌*◌, ℕ, zero, suc, Bool, true, false, ◌||◌, ◌&&◌, not, cond, nat_eq, nat_lt, List, ◌∷◌, Some, None, length, slice_index_or, slice_set, arith, sym, ap, ◌∙◌, refl}
use Rattle.std.specs.List.{list_any}
use Rattle.std.proofs.lemmas.Bool.{ltb-true, ltb-false}
use Rattle.std.proofs.lemmas.Bool.Decides.{Decides-eqb}
use Rattle.coll_lookups.proofs.CharPages.{itself, last_or_before, no_greater, past_pages, slot_read, slot_there, slot_written}
use Rattle.coll_lookups.specs.CharPages.{place_of, slot_of, ArePages, SameSlots}
use Rattle.coll_lookups.specs.CharSets.{marked_at, marked_below}

-- What one mark more says.

here_mark : (k : ℕ) (b : Bool) (later : List ℕ) → list_any (nat_eq k) later ≡ false → list_any (nat_eq k) (cond b (k ∷ later) later) ≡ b
here_mark k true later none = ap (λ b. b || list_any (nat_eq k) later) (itself k)
here_mark k false later none = none

other_mark : (c k : ℕ) (b : Bool) (later : List ℕ) → nat_eq c k ≡ false → list_any (nat_eq c) (cond b (k ∷ later) later) ≡ list_any (nat_eq c) later
other_mark c k true later e = ap (λ b. b || list_any (nat_eq c) later) e
other_mark c k false later e = refl

module _ (mark : ℕ → Bool) where
  -- no greater code point is among those below a number
  past_mark : (count c : ℕ) → count ≤ c → list_any (nat_eq c) (marked_below mark count) ≡ false
  unfolding marked_below
  past_mark zero c h = refl
  past_mark (suc k) c h = other_mark c k (mark k) (marked_below mark k) (no_greater c k h) ∙ past_mark k c (omega arith)

  below_mark : (count c : ℕ) → c < count → list_any (nat_eq c) (marked_below mark count) ≡ mark c
  unfolding marked_below
  below_mark zero c h = absurd (omega arith)
  below_mark (suc k) c h = by (λ before. below_mark k c before) (past_mark k k (omega arith)) (nat_eq c k) refl where
    by : (c < k → list_any (nat_eq c) (marked_below mark k) ≡ mark c) → list_any (nat_eq k) (marked_below mark k) ≡ false → (b : Bool) → nat_eq c k ≡ b
        → list_any (nat_eq c) (cond (mark k) (k ∷ marked_below mark k) (marked_below mark k)) ≡ mark c
    by before past true t =
        let same : c ≡ k = (Decides-eqb c k).0 t in
        ap (λ n. list_any (nat_eq n) (cond (mark k) (k ∷ marked_below mark k) (marked_below mark k))) same ∙ (here_mark k (mark k) (marked_below mark k) past ∙ ap mark (sym same))
    by before past false t = other_mark c k (mark k) (marked_below mark k) t ∙ before (last_or_before c k h t)

  -- no marks behind all others are no characters
  more_unmarked : (more count : ℕ) → ((c : ℕ) → count ≤ c → mark c ≡ false) → marked_below mark (more + count) ≡ marked_below mark count
  unfolding marked_below
  more_unmarked zero count none = let same : 0 + count ≡ count = omega arith in ap (marked_below mark) same
  more_unmarked (suc more) count none =
      let one : suc more + count ≡ suc (more + count) = omega arith in
      ap (marked_below mark) one
      ∙ (ap (λ b. cond b ((more + count) ∷ marked_below mark (more + count)) (marked_below mark (more + count))) (none (more + count) (omega arith)) ∙ more_unmarked more count none)

module _ (pages : List ℕ) (marks : List Bool) where
  -- a character is found where its mark says so
  pub found_mark : (c : ℕ) → list_any (nat_eq c) (marked_at pages marks) ≡ slot_of false pages marks c
  found_mark c = by (nat_lt c (length pages * 128)) refl where
    by : (b : Bool) → nat_lt c (length pages * 128) ≡ b → list_any (nat_eq c) (marked_at pages marks) ≡ slot_of false pages marks c
    by true t = below_mark (slot_of false pages marks) (length pages * 128) c (ltb-true _ _ t)
    by false t = past_mark (slot_of false pages marks) (length pages * 128) c (ltb-false _ _ t) ∙ sym (past_pages false pages marks c (ltb-false _ _ t))

  -- and so by the mark at its place
  pub found_at_place : (c place : ℕ) (mark : Bool) → ArePages pages (length marks) → place_of pages c ≡ Some place → mark ≡ slice_index_or marks place mark → mark
      ≡ list_any (nat_eq c) (marked_at pages marks)
  found_at_place c place mark are at read = slot_read false pages marks are c place at mark read ∙ sym (found_mark c)

  -- and it isn't where it has no place
  pub found_nowhere : (c : ℕ) → None ≡ place_of pages c → false ≡ list_any (nat_eq c) (marked_at pages marks)
  found_nowhere c none = ap (λ p. slot_there false marks p) none ∙ sym (found_mark c)

-- Marks that are the same, of which one is then set.

module _ (old : List ℕ) (old_marks : List Bool) (new : List ℕ) (marks : List Bool) (same : SameSlots false old old_marks new marks) where
  -- the same marks are the same characters
  pub same_marked : length old ≤ length new → marked_at new marks ≡ marked_at old old_marks
  same_marked longer =
      let more : ℕ = (length new - length old) * 128 in
      let count : length new * 128 ≡ more + length old * 128 = omega (arith, longer) in
      (λ i. marked_below (λ c. same c i) (length new * 128))
      ∙ (ap (marked_below (slot_of false old old_marks)) count ∙ more_unmarked (slot_of false old old_marks) more (length old * 128) (past_pages false old old_marks))

  -- the mark of a character was there if the character was
  pub marked_before : ArePages new (length marks) → (c place : ℕ) (mark : Bool) → place_of new c ≡ Some place → mark ≡ slice_index_or marks place mark → mark
      ≡ list_any (nat_eq c) (marked_at old old_marks)
  marked_before are c place mark at read = slot_read false new marks are c place at mark read ∙ (same c ∙ sym (found_mark old old_marks c))

  -- the character is there, and each other where it was
  pub marked_more : ArePages new (length marks) → (c place : ℕ) → place_of new c ≡ Some place → (other : ℕ)
      → list_any (nat_eq other) (marked_at new (slice_set marks place true)) ≡ (nat_eq other c || list_any (nat_eq other) (marked_at old old_marks))
  marked_more are c place at other =
      found_mark new (slice_set marks place true) other
      ∙ (slot_written false new marks are c place at true other
      ∙ (either (nat_eq other c) (slot_of false new marks other) ∙ ap (λ b. nat_eq other c || b) (same other ∙ sym (found_mark old old_marks other)))) where
        either : (a b : Bool) → cond a true b ≡ (a || b)
        either true b = refl
        either false b = refl

-- A mark that is taken away.

module _ (pages : List ℕ) (marks : List Bool) where
  -- the character isn't there any more, and each other where it was
  pub marked_less : ArePages pages (length marks) → (c place : ℕ) → place_of pages c ≡ Some place → (other : ℕ)
      → list_any (nat_eq other) (marked_at pages (slice_set marks place false)) ≡ (not (nat_eq other c) && list_any (nat_eq other) (marked_at pages marks))
  marked_less are c place at other =
      found_mark pages (slice_set marks place false) other
      ∙ (slot_written false pages marks are c place at false other
      ∙ (neither (nat_eq other c) (slot_of false pages marks other) ∙ ap (λ b. not (nat_eq other c) && b) (sym (found_mark pages marks other)))) where
        neither : (a b : Bool) → cond a false b ≡ (not a && b)
        neither true b = refl
        neither false b = refl

  -- nothing changes where it has no place, since it isn't there
  pub unmarked : (c : ℕ) → None ≡ place_of pages c → (other : ℕ) → list_any (nat_eq other) (marked_at pages marks) ≡ (not (nat_eq other c) && list_any (nat_eq other) (marked_at pages marks))
  unmarked c none other = by (nat_eq other c) refl where
    by : (b : Bool) → nat_eq other c ≡ b → list_any (nat_eq other) (marked_at pages marks) ≡ (not b && list_any (nat_eq other) (marked_at pages marks))
    by true t = ap (λ k. list_any (nat_eq k) (marked_at pages marks)) ((Decides-eqb other c).0 t) ∙ sym (found_nowhere pages marks c none)
    by false t = refl
