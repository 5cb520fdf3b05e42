-- The first numbers of two keys decide, or leave it to the keys.
use Rattle.std.proofs.Common.{◌≡◌, ℕ, zero, suc, ◌<◌, List, [], ◌∷◌, Ordering, Less, Equal, Greater, refl, sym, ap, ◌∙◌, ⊎_elim, arith}
use Rattle.std.specs.Cmp.{nat_cmp_is}
use Rattle.std.specs.Ordering.{nat_cmp, ordering_then}
use Rattle.std.proofs.lemmas.Bool.{cases_lt}
use Rattle.coll_key.specs.TextOrder.{list_order}
use Rattle.coll_word_lists.specs.LedWords.{lead_of}

-- so many first numbers, with 0 in place of those that there aren't
abbrev lead : ℕ → List ℕ → List ℕ
lead zero key = []
lead (suc n) [] = 0 ∷ lead n []
lead (suc n) (k ∷ key) = k ∷ lead n key

-- what both begin with
begun : (o r s : Ordering) → ordering_then r s ≡ s → ordering_then (ordering_then o r) (ordering_then o s) ≡ ordering_then o s
begun Less r s h = refl
begun Equal r s h = h
begun Greater r s h = refl

-- 0 is less than a number, or the same
zero_first : (k : ℕ) (r : Ordering) → ordering_then r Less ≡ Less → ordering_then (ordering_then (nat_cmp 0 k) r) Less ≡ Less
zero_first k r h =
    ⊎_elim
    (λ (less : 0 < k). ap (λ o. ordering_then (ordering_then o r) Less) (sym (nat_cmp_is 0 k Less less)))
    (λ none. ap (λ o. ordering_then (ordering_then o r) Less) (sym (nat_cmp_is 0 k Equal (omega arith))) ∙ h)
    (cases_lt 0 k)

zero_last : (k : ℕ) (r : Ordering) → ordering_then r Greater ≡ Greater → ordering_then (ordering_then (nat_cmp k 0) r) Greater ≡ Greater
zero_last k r h =
    ⊎_elim
    (λ (less : 0 < k). ap (λ o. ordering_then (ordering_then o r) Greater) (sym (nat_cmp_is k 0 Greater less)))
    (λ none. ap (λ o. ordering_then (ordering_then o r) Greater) (sym (nat_cmp_is k 0 Equal (omega arith))) ∙ h)
    (cases_lt 0 k)

-- a key that ended isn't greater
ended_first : (n : ℕ) (other : List ℕ) → ordering_then (list_order (lead n []) (lead n other)) Less ≡ Less
ended_first zero other = refl
ended_first (suc n) [] = zero_first 0 (list_order (lead n []) (lead n [])) (ended_first n [])
ended_first (suc n) (k ∷ other) = zero_first k (list_order (lead n []) (lead n other)) (ended_first n other)

ended_last : (n : ℕ) (key : List ℕ) → ordering_then (list_order (lead n key) (lead n [])) Greater ≡ Greater
ended_last zero key = refl
ended_last (suc n) [] = zero_last 0 (list_order (lead n []) (lead n [])) (ended_last n [])
ended_last (suc n) (k ∷ key) = zero_last k (list_order (lead n key) (lead n [])) (ended_last n key)

-- where both ended they are the same
both_ended : (n : ℕ) → list_order (lead n []) (lead n []) ≡ Equal
both_ended zero = refl
both_ended (suc n) = ap (λ o. ordering_then o (list_order (lead n []) (lead n []))) (sym (nat_cmp_is 0 0 Equal refl)) ∙ both_ended n

-- the first numbers decide as the keys
led : (n : ℕ) (key other : List ℕ) → ordering_then (list_order (lead n key) (lead n other)) (list_order key other) ≡ list_order key other
led zero key other = refl
led (suc n) [] [] = ap (λ o. ordering_then o Equal) (both_ended (suc n))
led (suc n) [] (l ∷ other) = ended_first (suc n) (l ∷ other)
led (suc n) (k ∷ key) [] = ended_last (suc n) (k ∷ key)
led (suc n) (k ∷ key) (l ∷ other) = begun (nat_cmp k l) (list_order (lead n key) (lead n other)) (list_order key other) (led n key other)

-- four of them
four : (key : List ℕ) → lead 4 key ≡ lead_of key
four [] = refl
four (a ∷ []) = refl
four (a ∷ b ∷ []) = refl
four (a ∷ b ∷ c ∷ []) = refl
four (a ∷ b ∷ c ∷ d ∷ key) = refl

led_by_four : (key other : List ℕ) → ordering_then (list_order (lead_of key) (lead_of other)) (list_order key other) ≡ list_order key other
led_by_four key other =
    ap (λ first. ordering_then (list_order first (lead_of other)) (list_order key other)) (sym (four key))
    ∙ ap (λ first. ordering_then (list_order (lead 4 key) first) (list_order key other)) (sym (four other))
    ∙ led 4 key other

-- an order that decides is that of the keys
decides : (o s : Ordering) → ordering_then o s ≡ s → (o ≡ Less → Less ≡ s) × (o ≡ Greater → Greater ≡ s)
decides Less s h = (λ e. h, λ e. absurd cc)
decides Equal s h = (λ e. absurd cc, λ e. absurd cc)
decides Greater s h = (λ e. absurd cc, λ e. h)

module _ (key other : List ℕ) where
  pub led_less : list_order (lead_of key) (lead_of other) ≡ Less → Less ≡ list_order key other
  led_less = (decides (list_order (lead_of key) (lead_of other)) (list_order key other) (led_by_four key other)).0

  pub led_greater : list_order (lead_of key) (lead_of other) ≡ Greater → Greater ≡ list_order key other
  led_greater = (decides (list_order (lead_of key) (lead_of other)) (list_order key other) (led_by_four key other)).1
