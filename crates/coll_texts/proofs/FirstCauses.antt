-- The first cause among identifiers that are gathered from the members of a list, one after another.
use Rattle.std.proofs.Common.{◌≡◌, ℕ, ◌+◌, ◌<◌, zero, suc, List, [], ◌∷◌, ◌++◌, length, get_or, drop, Option, Some, None, sym, ap, ◌∙◌, refl, arith, drop-cons, add-one}
use Rattle.std.specs.List.{flat_map}
use Rattle.std.specs.Option.{option_or}

module _ {A C : Type 0} (cause : A → Option C) (first : List A → Option C) (none : first [] ≡ None) (more : (a : A) (later : List A) → first (a ∷ later) ≡ option_or (cause a) (first later)) where
  -- the first among those of two lists
  first_append : (xs ys : List A) → first (xs ++ ys) ≡ option_or (first xs) (first ys)
  first_append [] ys = ap (λ c. option_or c (first ys)) (sym none)
  first_append (x ∷ xs) ys = more x (xs ++ ys) ∙ (ap (option_or (cause x)) (first_append xs ys) ∙ (again (cause x) (first xs) (first ys) ∙ ap (λ c. option_or c (first ys)) (sym (more x xs)))) where
    again : (a b c : Option C) → option_or a (option_or b c) ≡ option_or (option_or a b) c
    again (Some x) b c = refl
    again None b c = refl

  module _ {X : Type 0} (f : X → List A) (xs : List X) (i : ℕ) (x : X) (whole : Option C) (left : first (flat_map f (drop i xs)) ≡ whole) (below : i < length xs) (read : x ≡ get_or xs i x) where
    -- from a member on it is that member's, or that of those behind it
    first_from : whole ≡ option_or (first (f x)) (first (flat_map f (drop (i + 1) xs)))
    first_from =
        let cut : drop i xs ≡ x ∷ drop (i + 1) xs = drop-cons xs i x below ∙ rw (← read, add-one) refl in
        sym left ∙ (ap (λ later. first (flat_map f later)) cut ∙ first_append (f x) (flat_map f (drop (i + 1) xs)))

    -- a member that has one has the first
    pub first_found : (it : C) → Some it ≡ first (f x) → Some it ≡ whole
    first_found it found = ap (λ c. option_or c (first (flat_map f (drop (i + 1) xs)))) found ∙ sym first_from

    -- behind one that has none it is left
    pub first_left : None ≡ first (f x) → first (flat_map f (drop (i + 1) xs)) ≡ whole
    first_left absent = ap (λ c. option_or c (first (flat_map f (drop (i + 1) xs)))) absent ∙ sym first_from

  -- neither of two has one where the first of both is none
  neither_has : (a b : Option C) → option_or a b ≡ None → (a ≡ None) × (b ≡ None)
  neither_has None b e = (refl, e)
  neither_has (Some x) b e = cc

  -- where none among all has one, a member has none
  pub member_absent : {X : Type 0} (f : X → List A) (xs : List X) (i : ℕ) (x : X) → first (flat_map f xs) ≡ None → i < length xs → x ≡ get_or xs i x → first (f x) ≡ None
  member_absent f [] i x absent below read = absurd (omega arith)
  member_absent f (y ∷ ys) zero x absent below read = ap (λ it. first (f it)) read ∙ (neither_has (first (f y)) (first (flat_map f ys)) (sym (first_append (f y) (flat_map f ys)) ∙ absent)).0
  member_absent f (y ∷ ys) (suc i) x absent below read =
      member_absent f ys i x (neither_has (first (f y)) (first (flat_map f ys)) (sym (first_append (f y) (flat_map f ys)) ∙ absent)).1 (omega arith) read
