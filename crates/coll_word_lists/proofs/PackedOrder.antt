-- Packed keys have the order of the keys: what a number is packed as tells its order, whatever stands behind it.
use Rattle.std.proofs.Common.{◌≡◌, ℕ, ◌+◌, ◌/◌, ◌%◌, ◌<◌, ◌≤◌, ◌==◌, nat_lt, min, if◌then◌else◌, List, [], ◌∷◌, ◌++◌, Less, Greater}
use Rattle.std.proofs.Common.{refl, sym, ap, ◌∙◌, ⊎_elim, arith}
use Rattle.std.specs.Cmp.{nat_cmp_is}
use Rattle.std.specs.Ordering.{nat_cmp, ordering_then, ordering_reverse}
use Rattle.std.proofs.lemmas.Bool.{cases_lt, ltb-true, ltb-false, eqb-true}
use Rattle.std.proofs.lemmas.Cmp.{nat_list_cmp_total, by_ranked, ranked}
use Rattle.coll_ranks.specs.WeightNumbers.{rank_step}
use Rattle.coll_key.specs.TextOrder.{list_order}
use Rattle.coll_key.proofs.ForwardLemmas.{first_same}
use Rattle.coll_elements.proofs.Tests.{by_test}
use Rattle.coll_word_lists.specs.PackedKeys.{short_ranks, packed_rank, packed_whole, packed_above, packed_number, packed_key, PackedKeysAreOrderedAlike}

-- the first numbers decide, where they differ
first_less : (a b : ℕ) (ks ls : List ℕ) → a < b → list_order (a ∷ ks) (b ∷ ls) ≡ Less
first_less a b ks ls less = ap (λ o. ordering_then o (list_order ks ls)) (sym (nat_cmp_is a b Less less))

-- a number that is no greater decides for less, or leaves it to the later ones
first_upto : (a b : ℕ) (ks ls : List ℕ) → a ≤ b → (a ≡ b → list_order ks ls ≡ Less) → list_order (a ∷ ks) (b ∷ ls) ≡ Less
first_upto a b ks ls upto later =
    ⊎_elim
    (λ (less : a < b). first_less a b ks ls less)
    (λ (more : b ≤ a). let same : a ≡ b = omega arith in first_same a b ks ls same ∙ later same)
    (cases_lt a b)

-- what both begin with decides nothing
same_before : (xs ks ls : List ℕ) → list_order (xs ++ ks) (xs ++ ls) ≡ list_order ks ls
same_before [] ks ls = refl
same_before (x ∷ xs) ks ls = first_same x x (xs ++ ks) (xs ++ ls) refl ∙ same_before xs ks ls

-- what a number is packed as, by its kind
by_kind : (P : List ℕ → Type 0) (n : ℕ) → (n < rank_step → P (n ∷ [])) → (rank_step ≤ n → n % rank_step ≡ 0 → n / rank_step < short_ranks → P (packed_rank (n / rank_step) ∷ []))
    → (rank_step ≤ n → P (packed_whole n)) → P (packed_number n)
by_kind P n plain short whole =
    by_test (λ b. P (if b then n ∷ [] else packed_above n)) (nat_lt n rank_step) (λ on. plain (ltb-true n rank_step on)) (λ off. above (ltb-false n rank_step off))
  where
    above : rank_step ≤ n → P (packed_above n)
    above high =
        by_test (λ b. P (if b then (if nat_lt (n / rank_step) short_ranks then packed_rank (n / rank_step) ∷ [] else packed_whole n) else packed_whole n)) (n % rank_step == 0)
        (λ on.
        by_test (λ b. P (if b then packed_rank (n / rank_step) ∷ [] else packed_whole n)) (nat_lt (n / rank_step) short_ranks)
        (λ below. short high (eqb-true (n % rank_step) 0 on) (ltb-true (n / rank_step) short_ranks below))
        (λ not_below. whole high))
        (λ off. whole high)

-- the number that is less is packed as less
below : (x y : ℕ) → x < y → (ks ls : List ℕ) → list_order (packed_number x ++ ks) (packed_number y ++ ls) ≡ Less
below x y less ks ls =
    by_kind (λ xs. list_order (xs ++ ks) (packed_number y ++ ls) ≡ Less) x
    (λ plain.
    by_kind (λ ys. list_order (x ∷ ks) (ys ++ ls) ≡ Less) y (λ other. first_less x y ks ls less)
    (λ high even short. first_less x (packed_rank (y / rank_step)) ks ls (omega arith))
    (λ high. first_less x (packed_rank (min (y / rank_step) short_ranks) + 1) ks (y / 4294967296 ∷ y % 4294967296 ∷ ls) (omega arith)))
    (λ high even short.
    by_kind (λ ys. list_order (packed_rank (x / rank_step) ∷ ks) (ys ++ ls) ≡ Less) y (λ other. absurd (omega arith))
    (λ other_high other_even other_short. first_less (packed_rank (x / rank_step)) (packed_rank (y / rank_step)) ks ls (omega arith))
    (λ other_high. first_less (packed_rank (x / rank_step)) (packed_rank (min (y / rank_step) short_ranks) + 1) ks (y / 4294967296 ∷ y % 4294967296 ∷ ls) (omega arith)))
    (λ high.
    by_kind (λ ys. list_order (packed_whole x ++ ks) (ys ++ ls) ≡ Less) y (λ other. absurd (omega arith))
    (λ other_high other_even other_short. first_less (packed_rank (min (x / rank_step) short_ranks) + 1) (packed_rank (y / rank_step)) (x / 4294967296 ∷ x % 4294967296 ∷ ks) ls (omega arith))
    (λ other_high.
    first_upto (packed_rank (min (x / rank_step) short_ranks) + 1) (packed_rank (min (y / rank_step) short_ranks) + 1) (x / 4294967296 ∷ x % 4294967296 ∷ ks) (y / 4294967296 ∷ y % 4294967296 ∷ ls)
    (omega arith)
    (λ same. first_upto (x / 4294967296) (y / 4294967296) (x % 4294967296 ∷ ks) (y % 4294967296 ∷ ls) (omega arith) (λ alike. first_less (x % 4294967296) (y % 4294967296) ks ls (omega arith)))))

-- a number decides, or leaves it to what stands behind it
number_order : (x y : ℕ) (ks ls : List ℕ) → list_order (packed_number x ++ ks) (packed_number y ++ ls) ≡ ordering_then (nat_cmp x y) (list_order ks ls)
number_order x y ks ls =
    by_ranked (x < y) (x ≡ y) (y < x) (nat_cmp x y) (ranked x y (nat_cmp x y) refl)
    (λ is less. below x y less ks ls ∙ sym (ap (λ o. ordering_then o (list_order ks ls)) is))
    (λ is same.
    ap (λ z. list_order (packed_number x ++ ks) (packed_number z ++ ls)) (sym same) ∙ same_before (packed_number x) ks ls ∙ sym (ap (λ o. ordering_then o (list_order ks ls)) is))
    (λ is more.
    nat_list_cmp_total.antisymm (packed_number x ++ ks) (packed_number y ++ ls) ∙ ap ordering_reverse (below y x more ls ks) ∙ sym (ap (λ o. ordering_then o (list_order ks ls)) is))

-- a key that ends first is less
ends_first : (y : ℕ) (ls : List ℕ) → list_order [] (packed_number y ++ ls) ≡ Less
ends_first y ls = by_kind (λ ys. list_order [] (ys ++ ls) ≡ Less) y (λ plain. refl) (λ high even short. refl) (λ high. refl)

ends_later : (x : ℕ) (ks : List ℕ) → list_order (packed_number x ++ ks) [] ≡ Greater
ends_later x ks = by_kind (λ xs. list_order (xs ++ ks) [] ≡ Greater) x (λ plain. refl) (λ high even short. refl) (λ high. refl)

-- packed keys are ordered as the keys are
pub packed_in_order : PackedKeysAreOrderedAlike
packed_in_order [] [] = refl
packed_in_order [] (y ∷ ys) = ends_first y (packed_key ys)
packed_in_order (x ∷ xs) [] = ends_later x (packed_key xs)
packed_in_order (x ∷ xs) (y ∷ ys) = number_order x y (packed_key xs) (packed_key ys) ∙ ap (ordering_then (nat_cmp x y)) (packed_in_order xs ys)
