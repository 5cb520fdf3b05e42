-- The weights that an entry keeps, made one after another.
use Rattle.std.proofs.Common.{◌≡◌, ℕ, zero, suc, ◌+◌, ◌-◌, ◌<◌, List, [], ◌∷◌, ◌++◌, length, get_or, set, take, drop, map, replicate, ap, ◌∙◌, refl, arith, length-append, append_assoc, add-one}
use Rattle.std.proofs.lemmas.List.{replicate-append-replicate, length-replicate}

module _ {X : Type 0} where
  -- one more member of a list is turned
  turned_step : (f : X → X) (xs : List X) (i : ℕ) (d : X) → i < length xs → set (map f (take i xs) ++ drop i xs) i (f (get_or (map f (take i xs) ++ drop i xs) i d))
      ≡ map f (take (suc i) xs) ++ drop (suc i) xs
  turned_step f [] i d below = absurd (omega arith)
  turned_step f (x ∷ xs) zero d below = refl
  turned_step f (x ∷ xs) (suc i) d below = ap (λ ys. f x ∷ ys) (turned_step f xs i d (omega arith))

  -- the same of a list of which the members up to one were turned
  pub turned_more : (f : X → X) (xs now : List X) (i : ℕ) (d new : X) → now ≡ map f (take i xs) ++ drop i xs → i < length xs → new ≡ f (get_or now i d)
      → set now i new ≡ map f (take (i + 1) xs) ++ drop (i + 1) xs
  turned_more f xs now i d new turned below made =
      let value : new ≡ f (get_or (map f (take i xs) ++ drop i xs) i d) = made ∙ ap (λ ys. f (get_or ys i d)) turned in
      rw (turned, value, add-one) (turned_step f xs i d below)

  -- one more is put behind those that are there
  pub filled_more : (start now new : List X) (x : X) → now ≡ start ++ replicate (length now - length start) x → new ≡ now ++ x ∷ [] → new ≡ start ++ replicate (length new - length start) x
  filled_more start now new x filled more =
      let longer : length now ≡ length start + (length now - length start) =
      ap length filled ∙ (length-append start (replicate (length now - length start) x) ∙ ap (λ n. length start + n) (length-replicate (length now - length start) x)) in
      let counted : (length now - length start) + 1 ≡ length new - length start = omega (arith, ap length more, length-append now (x ∷ [])) in
      more ∙ (ap (λ xs. xs ++ x ∷ []) filled ∙ (append_assoc start (replicate (length now - length start) x) (x ∷ [])
      ∙ ap (λ xs. start ++ xs) (replicate-append-replicate (length now - length start) 1 x ∙ ap (λ n. replicate n x) counted)))
