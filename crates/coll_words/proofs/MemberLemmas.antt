-- What was moved is stable, if it is so for each of its members.
use Rattle.std.proofs.Common.{◌≡◌, Bool, true, false, not, ◌&&◌, cond, List, [], ◌∷◌, All, ⊎_elim, inl, inr}
use Rattle.std.proofs.Common.{refl, sym, ap, ap₂, ◌∙◌}
use Rattle.std.specs.Prelude.{◌⊎◌}
use Rattle.std.specs.Cmp.{IsStrictWeakOrder}
use Rattle.std.specs.List.{filter}
use Rattle.std.specs.List.Sorted.{IsPermutation, ties}
use Rattle.std.proofs.lemmas.List.Elements.{All-nil, All-cons}
use Rattle.std.proofs.lemmas.List.Sorted.{All-permutation}
use Rattle.coll_key.proofs.KeyOrder.{All-first, All-others}

-- two tests that pass the same
alike : (b c : Bool) → (b ≡ true → c ≡ true) → (c ≡ true → b ≡ true) → b ≡ c
alike true c on back = sym (on refl)
alike false true on back = back refl
alike false false on back = refl

both : (b c : Bool) → b ≡ false → c ≡ false → (not b && not c) ≡ true
both b c off other_off = ap₂ (λ (b c : Bool). not b && not c) off other_off

first_of : (b c : Bool) → (not b && not c) ≡ true → b ≡ false
first_of true c h = absurd cc
first_of false c h = refl

second_of : (b c : Bool) → (not b && not c) ≡ true → c ≡ false
second_of true c h = absurd cc
second_of false true h = absurd cc
second_of false false h = refl

module _ {X : Type 0} where
  step_none : (x : X) (us : List X) (b : Bool) → b ≡ false → us ≡ [] → cond b (x ∷ us) us ≡ []
  step_none x us b off none = ap (λ (t : Bool). cond t (x ∷ us) us) off ∙ none

  -- where no member passes, none is left
  none_pass : (p : X → Bool) (xs : List X) → All (λ (x : X). p x ≡ false) xs → filter p xs ≡ []
  none_pass p [] all = refl
  none_pass p (x ∷ xs) all = step_none x (filter p xs) (p x) (All-first (λ (x : X). p x ≡ false) x xs all) (none_pass p xs (All-others (λ (x : X). p x ≡ false) x xs all))

  -- tests that answer alike leave the same
  same_pass : (p q : X → Bool) → ((x : X) → p x ≡ q x) → (xs : List X) → filter p xs ≡ filter q xs
  same_pass p q same [] = refl
  same_pass p q same (x ∷ xs) =
      ap (λ (b : Bool). cond b (x ∷ filter p xs) (filter p xs)) (same x)
      ∙ ap (λ (l : List X). cond (q x) (x ∷ l) l) (same_pass p q same xs)

  module _ (less : X → X → Bool) (order : IsStrictWeakOrder less) where
    ties_on : (x z y : X) → ties less x z ≡ true → ties less x y ≡ true → ties less z y ≡ true
    ties_on x z y tie other =
        both (less z y) (less y z)
        (order.chain z x y (second_of (less x z) (less z x) tie) (first_of (less x y) (less y x) other))
        (order.chain y x z (second_of (less x y) (less y x) other) (first_of (less x z) (less z x) tie))

    ties_back : (x z : X) → ties less x z ≡ true → ties less z x ≡ true
    ties_back x z tie = both (less z x) (less x z) (second_of (less x z) (less z x) tie) (first_of (less x z) (less z x) tie)

    -- what ties with the same ties with the same others
    ties_alike : (x z : X) → ties less x z ≡ true → (y : X) → ties less x y ≡ ties less z y
    ties_alike x z tie y = alike (ties less x y) (ties less z y) (ties_on x z y tie) (ties_on z x y (ties_back x z tie))

    module _ (P : X → Type 0) (x : X) where
      -- none of some ties with this one, or one of which this holds
      abbrev Found : List X → Type 0
      Found zs = (All (λ (z : X). ties less x z ≡ false) zs) ⊎ ((z : X) × P z × (ties less x z ≡ true))

      found_step : (z : X) (zs : List X) → P z → (b : Bool) → ties less x z ≡ b → Found zs → Found (z ∷ zs)
      found_step z zs holds true tie later = inr (z, holds, tie)
      found_step z zs holds false tie (inl none) = inl (All-cons (λ (z : X). ties less x z ≡ false) z zs tie none)
      found_step z zs holds false tie (inr one) = inr one

      found : (zs : List X) → All P zs → Found zs
      found [] all = inl (All-nil (λ (z : X). ties less x z ≡ false))
      found (z ∷ zs) all = found_step z zs (All-first P z zs all) (ties less x z) refl (found zs (All-others P z zs all))

    -- so what is stable for each member is stable
    pub stable_by_members : (xs ys : List X) → IsPermutation xs ys → All (λ (x : X). filter (ties less x) ys ≡ filter (ties less x) xs) xs
        → (x : X) → filter (ties less x) ys ≡ filter (ties less x) xs
    stable_by_members xs ys moved all x =
        ⊎_elim
        (λ (none : All (λ (z : X). ties less x z ≡ false) xs).
        none_pass (ties less x) ys (All-permutation (λ (z : X). ties less x z ≡ false) xs ys moved none) ∙ sym (none_pass (ties less x) xs none))
        (λ one.
        same_pass (ties less x) (ties less one.0) (ties_alike x one.0 one.2) ys ∙ one.1
        ∙ sym (same_pass (ties less x) (ties less one.0) (ties_alike x one.0 one.2) xs))
        (found (λ (x : X). filter (ties less x) ys ≡ filter (ties less x) xs) x xs all)
