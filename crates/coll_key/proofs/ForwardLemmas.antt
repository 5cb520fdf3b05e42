-- The steps along the numbers of a text at a forward level, and texts that begin alike.
use Rattle.std.proofs.Common.{◌≡◌, ℕ, suc, ◌+◌, ◌<◌, ◌≤◌, Bool, true, false, nat_lt, List, [], ◌∷◌, ◌++◌, length, map, Option}
use Rattle.std.proofs.Common.{None, Some, Less, Equal, Greater, refl, sym, ap, ◌∙◌, add-one, add-zero, arith}
use Rattle.std.specs.Cmp.{nat_cmp_is}
use Rattle.std.specs.Ordering.{nat_cmp, ordering_then}
use Rattle.std.proofs.lemmas.Bool.{ltb-false}
use Rattle.std.proofs.lemmas.Bool.Decides.{Decides-ltb}
use Rattle.std.proofs.lemmas.Grind.{flat_map-append}
use Rattle.coll_key.specs.ForwardNumbers.{items_left, before, gap_count}
use Rattle.coll_ranks.specs.AlikePrefixes.{BeginAlike}
use Rattle.coll_key.specs.LevelList.{items_of, items, listed}
use Rattle.coll_key.specs.TextOrder.{list_order}
use Rattle.coll_elements.proofs.Tests.{by_test}

-- the next item is a number
pub number_next : (p : Bool) (gaps n : ℕ) (seq : List (Option ℕ)) → listed p gaps (Some n ∷ seq) ≡ before p (record { position = gaps + 1; number = n }) (listed p 0 seq)
number_next true gaps n seq = ap (λ k. k ∷ n ∷ listed true 0 seq) (sym (add-one gaps))
number_next false gaps n seq = refl

-- none is left
pub none_left : {X : Type 0} (xs : List X) → length xs ≡ 0 → xs ≡ []
none_left [] none = refl
none_left (x ∷ xs) none = absurd (omega arith)

-- an element is one gap at most
pub gap_count_small : (xs : List ℕ) → gap_count xs ≤ 1
gap_count_small [] = omega arith
gap_count_small (x ∷ xs) = omega arith

module _ {P : Type 0} (f : P → List ℕ) (g₀ g : ℕ → ℕ) (old ranks : List ℕ) (held elements : List P) (element : P) (none : old ≡ []) (next : held ≡ element ∷ elements)
    (weighs : map g ranks ≡ f element) where
  -- what is left begins with this element
  begins : items_left f (map g₀ old) held ≡ items_of (map g ranks) ++ items f elements
  begins = ap (λ os. items_left f (map g₀ os) held) none ∙ ap (items f) next ∙ ap (λ ns. items_of ns ++ items f elements) (sym weighs)

  -- an element is taken, and may be a gap
  pub element_taken : (p : Bool) (gaps n : ℕ) → n ≡ gap_count ranks → listed p gaps (items_left f (map g₀ old) held) ≡ listed p (gaps + n) (items_left f (map g ranks) elements)
  element_taken p gaps n count = ap (listed p gaps) begins ∙ counted ranks ∙ ap (λ k. listed p (gaps + k) (items_left f (map g ranks) elements)) (sym count)
    where
      counted : (rs : List ℕ) → listed p gaps (items_of (map g rs) ++ items f elements) ≡ listed p (gaps + gap_count rs) (items_left f (map g rs) elements)
      counted [] = ap (λ k. listed p k (items f elements)) (sym (add-one gaps))
      counted (r ∷ rs) = ap (λ k. listed p k (items_left f (map g (r ∷ rs)) elements)) (sym (add-zero gaps))

  -- it leaves no more than there was
  pub element_shorter : length (items_left f (map g ranks) elements) ≤ length (items_left f (map g₀ old) held)
  element_shorter = omega (arith, ap length begins, no_longer ranks)
    where
      no_longer : (rs : List ℕ) → length (items_left f (map g rs) elements) ≤ length (items_of (map g rs) ++ items f elements)
      no_longer [] = omega arith
      no_longer (r ∷ rs) = omega arith

-- Texts that begin alike.

-- the order of two numbers is that of two others which are as much more
order_shifted : (g a b : ℕ) → nat_cmp (suc (g + a)) (suc (g + b)) ≡ nat_cmp (suc a) (suc b)
order_shifted g a b =
    by_test (λ _. nat_cmp (suc (g + a)) (suc (g + b)) ≡ nat_cmp (suc a) (suc b)) (nat_lt a b)
    (λ less.
    let before : a < b = (Decides-ltb a b).0 less in
    sym (nat_cmp_is (suc (g + a)) (suc (g + b)) Less (omega arith)) ∙ nat_cmp_is (suc a) (suc b) Less (omega arith))
    (λ no_less.
    let behind : b ≤ a = ltb-false a b no_less in
    by_test (λ _. nat_cmp (suc (g + a)) (suc (g + b)) ≡ nat_cmp (suc a) (suc b)) (nat_lt b a)
    (λ greater.
    let above : b < a = (Decides-ltb b a).0 greater in
    sym (nat_cmp_is (suc (g + a)) (suc (g + b)) Greater (omega arith)) ∙ nat_cmp_is (suc a) (suc b) Greater (omega arith))
    (λ no_greater.
    let low : a ≤ b = ltb-false b a no_greater in
    sym (nat_cmp_is (suc (g + a)) (suc (g + b)) Equal (omega arith)) ∙ nat_cmp_is (suc a) (suc b) Equal (omega arith)))

-- one more gap
more : (g n : ℕ) → suc (g + n) ≡ g + suc n
more g n = omega arith

-- as many gaps more before both change no order
gaps_shifted : (p : Bool) (g a b : ℕ) (xs ys : List (Option ℕ)) → list_order (listed p (g + a) xs) (listed p (g + b) ys) ≡ list_order (listed p a xs) (listed p b ys)
gaps_shifted p g a b [] [] = refl
gaps_shifted p g a b [] (None ∷ ys) = ap (λ n. list_order [] (listed p n ys)) (more g b) ∙ gaps_shifted p g a (suc b) [] ys
gaps_shifted true g a b [] (Some n ∷ ys) = refl
gaps_shifted false g a b [] (Some n ∷ ys) = refl
gaps_shifted p g a b (None ∷ xs) ys = ap (λ n. list_order (listed p n xs) (listed p (g + b) ys)) (more g a) ∙ gaps_shifted p g (suc a) b xs ys
gaps_shifted true g a b (Some n ∷ xs) [] = refl
gaps_shifted false g a b (Some n ∷ xs) [] = refl
gaps_shifted p g a b (Some n ∷ xs) (None ∷ ys) = ap (λ m. list_order (listed p (g + a) (Some n ∷ xs)) (listed p m ys)) (more g b) ∙ gaps_shifted p g a (suc b) (Some n ∷ xs) ys
gaps_shifted true g a b (Some n ∷ xs) (Some m ∷ ys) = ap (λ o. ordering_then o (list_order (n ∷ listed true 0 xs) (m ∷ listed true 0 ys))) (order_shifted g a b)
gaps_shifted false g a b (Some n ∷ xs) (Some m ∷ ys) = refl

-- the same number before both changes no order
pub first_same : (a b : ℕ) (xs ys : List ℕ) → a ≡ b → list_order (a ∷ xs) (b ∷ ys) ≡ list_order xs ys
first_same a b xs ys same = ap (λ o. ordering_then o (list_order xs ys)) (sym (nat_cmp_is a b Equal same))

-- what stands before both changes no order
order_behind : (p : Bool) (gaps : ℕ) (prefix xs ys : List (Option ℕ)) → list_order (listed p gaps (prefix ++ xs)) (listed p gaps (prefix ++ ys)) ≡ list_order (listed p 0 xs) (listed p 0 ys)
order_behind p gaps [] xs ys = ap (λ n. list_order (listed p n xs) (listed p n ys)) (sym (add-zero gaps)) ∙ gaps_shifted p gaps 0 0 xs ys
order_behind p gaps (None ∷ prefix) xs ys = order_behind p (suc gaps) prefix xs ys
order_behind true gaps (Some n ∷ prefix) xs ys =
    first_same (suc gaps) (suc gaps) (n ∷ listed true 0 (prefix ++ xs)) (n ∷ listed true 0 (prefix ++ ys)) refl
    ∙ (first_same n n (listed true 0 (prefix ++ xs)) (listed true 0 (prefix ++ ys)) refl ∙ order_behind true 0 prefix xs ys)
order_behind false gaps (Some n ∷ prefix) xs ys = first_same n n (listed false 0 (prefix ++ xs)) (listed false 0 (prefix ++ ys)) refl ∙ order_behind false 0 prefix xs ys

-- the order of two ways that begin alike is that of what is left of them
pub order_alike : {P : Type 0} (p : Bool) (f : P → List ℕ) (xs ys later others : List P) → BeginAlike xs ys later others → list_order (listed p 0 (items f xs)) (listed p 0 (items f ys))
    ≡ list_order (listed p 0 (items f later)) (listed p 0 (items f others))
order_alike p f xs ys later others alike =
    ap (λ zs. list_order (listed p 0 (items f zs)) (listed p 0 (items f ys))) alike.1
    ∙ (ap (λ zs. list_order (listed p 0 (items f (alike.0 ++ later))) (listed p 0 (items f zs))) alike.2
    ∙ (ap (λ is. list_order (listed p 0 is) (listed p 0 (items f (alike.0 ++ others)))) (flat_map-append (λ q. items_of (f q)) alike.0 later)
    ∙ (ap (λ is. list_order (listed p 0 (items f alike.0 ++ items f later)) (listed p 0 is)) (flat_map-append (λ q. items_of (f q)) alike.0 others)
    ∙ order_behind p 0 (items f alike.0) (items f later) (items f others))))
