-- The steps along the numbers of two texts at a level.
use Rattle.std.proofs.Common.{◌≡◌, ℕ, zero, suc, ◌+◌, ◌<◌, Bool, true, false, List, [], ◌∷◌, ◌++◌, length, map, reverse, Option, Some, refl, sym, ap, ◌∙◌, add-one, arith}
use Rattle.std.specs.Ordering.{is_ne, ordering_then}
use Rattle.std.specs.declared.cmp.Ordering.{Ordering}
use Rattle.std.specs.declared.cmp.Ordering.TheVariants.{Less, Equal, Greater}
use Rattle.std.proofs.lemmas.List.{reverse-append}
use Rattle.coll_nodes.specs.Table.{Collation}
use Rattle.coll_key.specs.ForwardNumbers.{gap_count, items_left}
use Rattle.coll_key.specs.LevelList.{items, listed}
use Rattle.coll_key.specs.TextOrder.{list_order}
use Rattle.coll_key.proofs.ForwardLemmas.{order_alike}
use Rattle.coll_letters.specs.LetterWeights.{order_behind, text_numbers}
use Rattle.coll_letters.specs.LevelNumbers.{placed, themselves}
use Rattle.coll_letters.specs.declared.level_numbers.PlacedNumber.{PlacedNumber}

-- What is next.

module _ (g : ℕ → ℕ) (ranks others : List ℕ) (rank : ℕ) (begins : ranks ≡ rank ∷ others) (seq : List (Option ℕ)) where
  -- a number comes first
  pub found_next : (p : Bool) (gaps : ℕ) (found : PlacedNumber) → found.position ≡ gaps + 1 → found.number ≡ g rank
      → listed p gaps (map Some (map g ranks) ++ seq) ≡ placed p found (listed p 0 (map Some (map g others) ++ seq))
  found_next p gaps found at is = ap (λ (rs : List ℕ). listed p gaps (map Some (map g rs) ++ seq)) begins ∙ one p
    where
      one : (p : Bool) → listed p gaps (Some (g rank) ∷ map Some (map g others) ++ seq) ≡ placed p found (listed p 0 (map Some (map g others) ++ seq))
      one true =
          ap (λ (k : ℕ). k ∷ g rank ∷ listed true 0 (map Some (map g others) ++ seq)) (sym (add-one gaps) ∙ sym at)
          ∙ ap (λ (k : ℕ). found.position ∷ k ∷ listed true 0 (map Some (map g others) ++ seq)) (sym is)
      one false = ap (λ (k : ℕ). k ∷ listed false 0 (map Some (map g others) ++ seq)) (sym is)

  -- and leaves less behind it
  pub found_shorter : length (map Some (map g others) ++ seq) < length (map Some (map g ranks) ++ seq)
  found_shorter = omega (arith, ap (λ (rs : List ℕ). length (map Some (map g rs) ++ seq)) begins)

-- nothing is left
pub nothing_left : {P : Type 0} (f : P → List ℕ) (g : ℕ → ℕ) (ranks : List ℕ) (held : List P) → ranks ≡ [] → held ≡ [] → (p : Bool) (gaps : ℕ)
    → listed p gaps (items_left f (map g ranks) held) ≡ []
nothing_left {P} f g ranks held none ended p gaps =
    ap (λ (rs : List ℕ). listed p gaps (items_left f (map g rs) held)) none ∙ ap (λ (ps : List P). listed p gaps (items f ps)) ended

-- a list reversed has a number where the list has one
pub gap_count_reversed : (xs : List ℕ) → gap_count (reverse xs) ≡ gap_count xs
gap_count_reversed [] = refl
gap_count_reversed (x ∷ xs) = ap gap_count (reverse-append (x ∷ []) xs) ∙ some (reverse xs)
  where
    some : (ys : List ℕ) → gap_count (ys ++ x ∷ []) ≡ 0
    some [] = refl
    some (y ∷ ys) = refl

-- What decides.

passes : (order later : Ordering) → false ≡ is_ne order → ordering_then order later ≡ later
passes Less later eq = absurd cc
passes Equal later eq = refl
passes Greater later eq = absurd cc

decides : (order later : Ordering) → true ≡ is_ne order → order ≡ ordering_then order later
decides Less later ne = refl
decides Equal later ne = absurd cc
decides Greater later ne = refl

module _ (p : Bool) (first : PlacedNumber) (ls xs : List ℕ) (left : ls ≡ placed p first xs) where
  module _ (second : PlacedNumber) (rs ys : List ℕ) (right : rs ≡ placed p second ys) (order : Ordering)
      (so : (list later : List ℕ) → list_order (placed p first list) (placed p second later) ≡ ordering_then order (list_order list later)) where
    both : list_order ls rs ≡ ordering_then order (list_order xs ys)
    both = ap (λ (l : List ℕ). list_order l rs) left ∙ ap (list_order (placed p first xs)) right ∙ so xs ys

    -- two numbers leave it to what is behind them
    pub numbers_pass : false ≡ is_ne order → list_order ls rs ≡ list_order xs ys
    numbers_pass eq = both ∙ passes order (list_order xs ys) eq

    -- or decide
    pub numbers_decide : true ≡ is_ne order → order ≡ list_order ls rs
    numbers_decide ne = decides order (list_order xs ys) ne ∙ sym both

  -- where the other text has ended
  pub greater_than_ended : (rs : List ℕ) → rs ≡ [] → Greater ≡ list_order ls rs
  greater_than_ended rs ended = sym (ap (λ (l : List ℕ). list_order l rs) left ∙ ap (list_order (placed p first xs)) ended ∙ at p)
    where
      at : (p : Bool) → list_order (placed p first xs) [] ≡ Greater
      at true = refl
      at false = refl

  -- or this is the other one
  pub less_than_going_on : (rs : List ℕ) → rs ≡ [] → Less ≡ list_order rs ls
  less_than_going_on rs ended = sym (ap (λ (l : List ℕ). list_order l ls) ended ∙ ap (list_order []) left ∙ at p)
    where
      at : (p : Bool) → list_order [] (placed p first xs) ≡ Less
      at true = refl
      at false = refl

-- both have
pub both_ended : (ls rs : List ℕ) → ls ≡ [] → rs ≡ [] → Equal ≡ list_order ls rs
both_ended ls rs left right = sym (ap (λ (l : List ℕ). list_order l rs) left ∙ ap (list_order []) right)

-- As many gaps before both tell nothing.

abbrev ignored : ℕ → List (List ℕ)
ignored zero = []
ignored (suc n) = [] ∷ ignored n

behind_ignored : (p : Bool) (gaps n : ℕ) (later : List (List ℕ)) → listed p gaps (items themselves (ignored n ++ later)) ≡ listed p (n + gaps) (items themselves later)
behind_ignored p gaps zero later = ap (λ (k : ℕ). listed p k (items themselves later)) (as_many gaps)
  where
    as_many : (gaps : ℕ) → gaps ≡ 0 + gaps
    as_many gaps = omega arith
behind_ignored p gaps (suc n) later = behind_ignored p (suc gaps) n later ∙ ap (λ (k : ℕ). listed p k (items themselves later)) (one_more n gaps)
  where
    one_more : (n gaps : ℕ) → n + suc gaps ≡ suc n + gaps
    one_more n gaps = omega arith

pub gaps_tell_nothing : (table : Collation) (level : ℕ) (p : Bool) (gaps : ℕ) (text other : List ℕ) → order_behind table level p gaps text other ≡ order_behind table level p 0 text other
gaps_tell_nothing table level p gaps text other =
    let xs = text_numbers table level text in
    let ys = text_numbers table level other in
    let none : gaps + 0 ≡ gaps = omega arith in
    ap (λ (n : ℕ). list_order (listed p n (items themselves xs)) (listed p n (items themselves ys))) (sym none)
    ∙ ap (λ (l : List ℕ). list_order l (listed p (gaps + 0) (items themselves ys))) (sym (behind_ignored p 0 gaps xs))
    ∙ ap (list_order (listed p 0 (items themselves (ignored gaps ++ xs)))) (sym (behind_ignored p 0 gaps ys))
    ∙ order_alike p themselves (ignored gaps ++ xs) (ignored gaps ++ ys) xs ys (ignored gaps, refl, refl)
