-- A text is split into elements, one after another.
use Rattle.std.proofs.Common.{◌≡◌, ◌<◌, ◌≤◌, ℕ, zero, suc, ◌-◌, List, [], ◌∷◌, ◌++◌, length, Option, Some, sym, ap, ap₂, ◌∙◌, refl, arith}
use Rattle.coll_elements.specs.Elements.{beyond_first, longest, split}

module _ {X P : Type 0} (string_of : X → List ℕ) (xs : List X) (element : Option X → ℕ → P) where
  -- characters that are skipped are as if they weren't there
  pub split_skips : (prefix rest : List ℕ) → split string_of xs element (length prefix) (prefix ++ rest) ≡ split string_of xs element 0 rest
  split_skips [] rest = refl
  split_skips (c ∷ prefix) rest = split_skips prefix rest

  -- what is made of a longest element, and what is behind it
  pub split_found : (x : X) (p : P) (text rest : List ℕ) → longest string_of xs text ≡ Some x → ((c : ℕ) → element (Some x) c ≡ p) → text ≡ string_of x ++ rest → 0 < length (string_of x)
      → split string_of xs element 0 text ≡ p ∷ split string_of xs element 0 rest
  split_found x p text rest found same goes_on some = by (string_of x) refl where
    by : (string : List ℕ) → string_of x ≡ string → split string_of xs element 0 text ≡ p ∷ split string_of xs element 0 rest
    by [] e = absurd (let none : length (string_of x) ≡ 0 = ap length e in omega arith)
    by (c ∷ string) e =
        let whole : text ≡ c ∷ (string ++ rest) = goes_on ∙ ap (λ s. s ++ rest) e in
        let here : longest string_of xs (c ∷ (string ++ rest)) ≡ Some x = ap (longest string_of xs) (sym whole) ∙ found in
        let more : length (string_of x) - 1 ≡ length string = ap (λ s. length s - 1) e ∙ (let one : suc (length string) - 1 ≡ length string = omega arith in one) in
        ap (split string_of xs element 0) whole
        ∙ (ap (λ l. element l c ∷ split string_of xs element (beyond_first string_of l) (string ++ rest)) here
        ∙ ap₂ (λ (q : P) (n : ℕ). q ∷ split string_of xs element n (string ++ rest)) (same c) more
        ∙ ap (λ ps. p ∷ ps) (split_skips string rest))

-- a text is split into no more elements than it has characters
pub few_split : {X P : Type 0} (string_of : X → List ℕ) (xs : List X) (element : Option X → ℕ → P) (skipped : ℕ) (text : List ℕ) → length (split string_of xs element skipped text) ≤ length text
few_split string_of xs element skipped [] = omega arith
few_split string_of xs element (suc skipped) (c ∷ text) = omega (arith, few_split string_of xs element skipped text)
few_split string_of xs element zero (c ∷ text) = omega (arith, few_split string_of xs element (beyond_first string_of (longest string_of xs (c ∷ text))) text)
