-- Lists in which each stands once.
use Rattle.std.proofs.Common.{◌≡◌, Bool, false, List, [], ◌∷◌, ◌++◌, ◌∙◌, refl}
use Rattle.std.specs.List.{list_any}
use Rattle.coll_lookups.proofs.Sameness.{neither, nor}
use Rattle.coll_nodes.specs.WellFormed.{AreDistinct}

module _ {X : Type 0} (same : X → X → Bool) (symmetric : (a b : X) → same a b ≡ same b a) where
  -- what is in no part of a list isn't in the list
  pub absent_append : (x : X) (xs ys : List X) → list_any (same x) xs ≡ false → list_any (same x) ys ≡ false → list_any (same x) (xs ++ ys) ≡ false
  absent_append x [] ys p q = q
  absent_append x (y ∷ xs) ys p q = let h = neither _ _ p in nor _ _ h.0 (absent_append x xs ys h.1 q)

  -- one more at the end that wasn't there
  pub distinct_push : (xs : List X) (y : X) → AreDistinct same xs → list_any (same y) xs ≡ false → AreDistinct same (xs ++ y ∷ [])
  distinct_push [] y d a = (refl, tt)
  distinct_push (x ∷ xs) y d a =
      let h = neither _ _ a in
      (absent_append x xs (y ∷ []) d.0 (nor (same x y) false (symmetric x y ∙ h.0) refl), distinct_push xs y d.1 h.1)

  -- each stands apart from those before it
  pub distinct_before : (xs : List X) (y : X) (ys : List X) → AreDistinct same (xs ++ y ∷ ys) → list_any (same y) xs ≡ false
  distinct_before [] y ys d = refl
  distinct_before (x ∷ xs) y ys d =
      nor (same y x) _ (symmetric y x ∙ first_apart x xs y ys d.0) (distinct_before xs y ys d.1) where
        first_apart : (x : X) (xs : List X) (y : X) (ys : List X) → list_any (same x) (xs ++ y ∷ ys) ≡ false → same x y ≡ false
        first_apart x [] y ys e = (neither _ _ e).0
        first_apart x (z ∷ xs) y ys e = first_apart x xs y ys (neither _ _ e).1

  -- what is in a prefix of a list is in the list
  pub absent_prefix : (x : X) (xs ys : List X) → list_any (same x) (xs ++ ys) ≡ false → list_any (same x) xs ≡ false
  absent_prefix x [] ys e = refl
  absent_prefix x (y ∷ xs) ys e = let h = neither _ _ e in nor _ _ h.0 (absent_prefix x xs ys h.1)
