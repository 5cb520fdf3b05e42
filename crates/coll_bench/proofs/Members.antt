-- The member of a list at a place.
use Rattle.std.proofs.Common.{◌≡◌, ℕ, zero, suc, ◌+◌, ◌<◌, List, [], ◌∷◌, ◌++◌, map, take, drop, set, length, get_or, Option, Some, refl, ap, sym, ◌∙◌, arith, add-one}
use Rattle.std.specs.Prelude.{slice_get}

module _ {X : Type 0} where
  -- a member that is found at a place stands there
  pub got : (xs : List X) (i : ℕ) (x : X) → i < length xs → x ≡ get_or xs i x → slice_get xs i ≡ Some x
  got [] i x within is = absurd (omega (arith, within))
  got (y ∷ ys) zero x within is = ap Some (sym is)
  got (y ∷ ys) (suc i) x within is = got ys i x (omega (arith, within)) is

  -- it is the first of those from its place on
  pub got-drop : (xs : List X) (i : ℕ) → slice_get xs i ≡ slice_get (drop i xs) 0
  got-drop [] zero = refl
  got-drop [] (suc i) = refl
  got-drop (y ∷ ys) zero = refl
  got-drop (y ∷ ys) (suc i) = got-drop ys i

  -- a member that is exchanged stands at its place
  pub got-set : (xs : List X) (i : ℕ) (x new : X) → slice_get xs i ≡ Some x → slice_get (set xs i new) i ≡ Some new
  got-set [] i x new at = absurd (cc)
  got-set (y ∷ ys) zero x new at = refl
  got-set (y ∷ ys) (suc i) x new at = got-set ys i x new at

  drop-set_by : (xs : List X) (i : ℕ) (new : X) → drop (suc i) (set xs i new) ≡ drop (suc i) xs
  drop-set_by [] i new = refl
  drop-set_by (y ∷ ys) zero new = refl
  drop-set_by (y ∷ ys) (suc i) new = drop-set_by ys i new

  -- and those behind it stay
  pub drop-set : (xs : List X) (i : ℕ) (new : X) → drop (i + 1) (set xs i new) ≡ drop (i + 1) xs
  drop-set xs i new = rw add-one (drop-set_by xs i new)

  drop-one_by : (xs ys : List X) (i : ℕ) → drop i xs ≡ drop i ys → drop (suc i) xs ≡ drop (suc i) ys
  drop-one_by xs ys zero e = ap (drop 1) e
  drop-one_by [] [] (suc i) e = refl
  drop-one_by [] (y ∷ ys) (suc i) e = drop-one_by [] ys i (drop-nil i ∙ e)
    where
      drop-nil : (i : ℕ) → drop {A = X} i [] ≡ []
      drop-nil zero = refl
      drop-nil (suc i) = refl
  drop-one_by (x ∷ xs) [] (suc i) e = drop-one_by xs [] i (e ∙ sym (drop-nil i))
    where
      drop-nil : (i : ℕ) → drop {A = X} i [] ≡ []
      drop-nil zero = refl
      drop-nil (suc i) = refl
  drop-one_by (x ∷ xs) (y ∷ ys) (suc i) e = drop-one_by xs ys i e

  -- lists that are the same from a place on are so from the next
  pub drop-one : (xs ys : List X) (i : ℕ) → drop i xs ≡ drop i ys → drop (i + 1) xs ≡ drop (i + 1) ys
  drop-one xs ys i e = rw add-one (drop-one_by xs ys i e)

  -- a list is what stands before a member, the member, and what stands behind it
  split_by : (xs : List X) (i : ℕ) (x : X) → slice_get xs i ≡ Some x → xs ≡ take i xs ++ x ∷ drop (suc i) xs
  split_by [] i x at = absurd (cc)
  split_by (y ∷ ys) zero x at = let same : y ≡ x = cc in ap (λ z. z ∷ ys) same
  split_by (y ∷ ys) (suc i) x at = ap (λ l. y ∷ l) (split_by ys i x at)

  pub split_got : (xs : List X) (i : ℕ) (x : X) → slice_get xs i ≡ Some x → xs ≡ take i xs ++ x ∷ drop (i + 1) xs
  split_got xs i x at = rw add-one (split_by xs i x at)

  -- what stands before a member, and the member
  take_by : (xs : List X) (i : ℕ) (x : X) → slice_get xs i ≡ Some x → take (suc i) xs ≡ take i xs ++ x ∷ []
  take_by [] i x at = absurd (cc)
  take_by (y ∷ ys) zero x at = let same : y ≡ x = cc in ap (λ z. z ∷ []) same
  take_by (y ∷ ys) (suc i) x at = ap (λ l. y ∷ l) (take_by ys i x at)

  pub take_got : (xs : List X) (i : ℕ) (x : X) → slice_get xs i ≡ Some x → take (i + 1) xs ≡ take i xs ++ x ∷ []
  take_got xs i x at = rw add-one (take_by xs i x at)

  -- so many members stand before it
  pub length-take_got : (xs : List X) (i : ℕ) (x : X) → slice_get xs i ≡ Some x → length (take i xs) ≡ i
  length-take_got [] i x at = absurd (cc)
  length-take_got (y ∷ ys) zero x at = refl
  length-take_got (y ∷ ys) (suc i) x at = ap suc (length-take_got ys i x at)

  -- where each member is there, so is the one at a place
  pub text_got : (options : List (Option X)) (xs : List X) (i : ℕ) (o : Option X) → options ≡ map Some xs → slice_get options i ≡ Some o → (x : X) × (slice_get xs i ≡ Some x) × (o ≡ Some x)
  text_got options xs i o e at = by_list xs i (ap (λ l. slice_get l i) (sym e) ∙ at)
    where
      by_list : (xs : List X) (i : ℕ) → slice_get (map Some xs) i ≡ Some o → (x : X) × (slice_get xs i ≡ Some x) × (o ≡ Some x)
      by_list [] i at = absurd (cc)
      by_list (x ∷ xs) zero at = (x, refl, cc)
      by_list (x ∷ xs) (suc i) at = by_list xs i at

module _ {X Y : Type 0} (f : X → Y) where
  -- what a member is turned into
  pub got-map : (xs : List X) (i : ℕ) (x : X) → slice_get xs i ≡ Some x → slice_get (map f xs) i ≡ Some (f x)
  got-map [] i x at = absurd (cc)
  got-map (y ∷ ys) zero x at = let same : y ≡ x = cc in ap (λ z. Some (f z)) same
  got-map (y ∷ ys) (suc i) x at = got-map ys i x at

  -- a member that is exchanged for one alike
  pub set-same : (xs : List X) (i : ℕ) (x new : X) → slice_get xs i ≡ Some x → f new ≡ f x → map f (set xs i new) ≡ map f xs
  set-same [] i x new at e = refl
  set-same (y ∷ ys) zero x new at e = let same : y ≡ x = cc in ap (λ z. z ∷ map f ys) (e ∙ ap f (sym same))
  set-same (y ∷ ys) (suc i) x new at e = ap (λ l. f y ∷ l) (set-same ys i x new at e)
