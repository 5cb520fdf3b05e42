-- What a text begins with stands at or before it, and an earlier string that it begins with is a prefix of each between.
use Rattle.std.proofs.Common.{◌≡◌, ◌≤◌, ℕ, Bool, true, false, cond, ◌==◌, ◌&&◌, List, [], ◌∷◌, sym, ap, ◌∙◌, refl, arith}
use Rattle.std.specs.Prelude.{nat_lt}
use Rattle.std.specs.Ordering.{is_lt, nat_cmp, ordering_then}
use Rattle.std.specs.Cmp.Lexicographic.{slice_cmp}
use Rattle.std.specs.declared.cmp.Ordering.TheVariants.{Less, Equal, Greater}
use Rattle.std.proofs.lemmas.Bool.{false≢true, ltb-false}
use Rattle.std.proofs.lemmas.Bool.Decides.{Decides-eqb, Decides-ltb}
use Rattle.coll_elements.proofs.Tests.{by_test}
use Rattle.coll_elements.specs.Elements.{begins_with}
use Rattle.coll_elements.specs.ElementOrder.{stands_before}

-- what holds where something does that doesn't hold
pub not_so : (a b : Bool) → (a ≡ true → b ≡ true) → b ≡ false → a ≡ false
not_so true b so off = absurd (false≢true (sym off ∙ so refl))
not_so false b so off = refl

-- strings stand as their first numbers do, or else as the rest
heads : (x y : ℕ) (xs ys : List ℕ) → stands_before (x ∷ xs) (y ∷ ys) ≡ cond (nat_lt x y) true (cond (x == y) (stands_before xs ys) false)
heads x y xs ys = by (nat_lt x y) (x == y) where
  by : (b e : Bool) → is_lt (ordering_then (cond b Less (cond e Equal Greater)) (slice_cmp nat_cmp xs ys)) ≡ cond b true (cond e (stands_before xs ys) false)
  by true e = refl
  by false true = refl
  by false false = refl

-- where one doesn't stand before the other
record DoesNot (x y : ℕ) (later : Bool) : Type 0 where
  least : y ≤ x
  then : x ≡ y → later ≡ false

does_not : (x y : ℕ) (xs ys : List ℕ) → stands_before (x ∷ xs) (y ∷ ys) ≡ false → DoesNot x y (stands_before xs ys)
does_not x y xs ys h =
    by_test (λ b. cond b true (cond (x == y) (stands_before xs ys) false) ≡ false → DoesNot x y (stands_before xs ys)) (nat_lt x y)
    (λ on e. absurd (false≢true (sym e)))
    (λ off e. record {
      least = ltb-false x y off;
      then = λ same. sym (ap (λ b. cond b (stands_before xs ys) false) ((Decides-eqb x y).1 same)) ∙ e;
    }) (sym (heads x y xs ys) ∙ h)

-- and where it does
record Does (x y : ℕ) (later : Bool) : Type 0 where
  most : x ≤ y
  then : x ≡ y → later ≡ true

does : (x y : ℕ) (xs ys : List ℕ) → stands_before (x ∷ xs) (y ∷ ys) ≡ true → Does x y (stands_before xs ys)
does x y xs ys h =
    by_test (λ b. cond b true (cond (x == y) (stands_before xs ys) false) ≡ true → Does x y (stands_before xs ys)) (nat_lt x y)
    (λ on e. let less = (Decides-ltb x y).0 on in record { most = omega (arith, less); then = λ same. absurd (omega (arith, less, same)) })
    (λ off e.
    by_test (λ b. cond b (stands_before xs ys) false ≡ true → Does x y (stands_before xs ys)) (x == y)
    (λ same later. let is = (Decides-eqb x y).0 same in record { most = omega (arith, is); then = λ _. later })
    (λ other later. absurd (false≢true later)) e) (sym (heads x y xs ys) ∙ h)

made_not : (x y : ℕ) (xs ys : List ℕ) → y ≤ x → (x ≡ y → stands_before xs ys ≡ false) → stands_before (x ∷ xs) (y ∷ ys) ≡ false
made_not x y xs ys least then =
    heads x y xs ys ∙ by_test (λ b. cond b true (cond (x == y) (stands_before xs ys) false) ≡ false) (nat_lt x y)
    (λ on. absurd (omega (arith, least, (Decides-ltb x y).0 on)))
    (λ off. by_test (λ b. cond b (stands_before xs ys) false ≡ false) (x == y)
    (λ same. then ((Decides-eqb x y).0 same))
    (λ other. refl))

-- a text begins with the first number of a string, and goes on with the rest
record Begins (d c : ℕ) (later : Bool) : Type 0 where
  first : d ≡ c
  then : later ≡ true

begins : (d c : ℕ) (text string : List ℕ) → begins_with (d ∷ text) (c ∷ string) ≡ true → Begins d c (begins_with text string)
begins d c text string h =
    by_test (λ b. (b && begins_with text string) ≡ true → Begins d c (begins_with text string)) (d == c)
    (λ same later. record { first = (Decides-eqb d c).0 same; then = later })
    (λ other later. absurd (false≢true later)) h

-- a string between one that a text begins with and the text begins with it too
pub begun_between : (string between text : List ℕ) → stands_before between string ≡ false → stands_before text between ≡ false → begins_with text string ≡ true → begins_with between string ≡ true
begun_between [] between text low high h = refl
begun_between (c ∷ string) between [] low high h = absurd (false≢true h)
begun_between (c ∷ string) [] (d ∷ text) low high h = absurd (false≢true (sym low))
begun_between (c ∷ string) (f ∷ between) (d ∷ text) low high h =
    let lower = does_not f c between string low in
    let higher = does_not d f text between high in
    let start = begins d c text string h in
    let first : f ≡ c = omega (arith, lower.least, higher.least, start.first) in
    let second : d ≡ f = omega (arith, first, start.first) in
    ap (λ b. b && begins_with between string) ((Decides-eqb f c).1 first) ∙ begun_between string between text (lower.then first) (higher.then second) start.then

-- a text doesn't begin with a string at or behind one that it stands before
pub not_begun_behind : (string between text : List ℕ) → stands_before text between ≡ true → stands_before string between ≡ false → begins_with text string ≡ true → ⊥
not_begun_behind [] [] [] low high h = false≢true low
not_begun_behind [] [] (d ∷ text) low high h = false≢true low
not_begun_behind [] (f ∷ between) text low high h = false≢true (sym high)
not_begun_behind (c ∷ string) between [] low high h = false≢true h
not_begun_behind (c ∷ string) [] (d ∷ text) low high h = false≢true low
not_begun_behind (c ∷ string) (f ∷ between) (d ∷ text) low high h =
    let lower = does d f text between low in
    let higher = does_not c f string between high in
    let start = begins d c text string h in
    let first : d ≡ f = omega (arith, lower.most, higher.least, start.first) in
    let second : c ≡ f = omega (arith, first, start.first) in
    not_begun_behind string between text (lower.then first) (higher.then second) start.then

-- what stands at or before a string that stands at or before a text does so itself
pub not_before_all : (string between text : List ℕ) → stands_before between string ≡ false → stands_before text between ≡ false → stands_before text string ≡ false
not_before_all [] between [] low high = refl
not_before_all [] between (d ∷ text) low high = refl
not_before_all (c ∷ string) [] text low high = absurd (false≢true (sym low))
not_before_all (c ∷ string) (f ∷ between) [] low high = absurd (false≢true (sym high))
not_before_all (c ∷ string) (f ∷ between) (d ∷ text) low high =
    let lower = does_not f c between string low in
    let higher = does_not d f text between high in
    made_not d c text string (omega (arith, lower.least, higher.least)) (λ same.
    let first : f ≡ c = omega (arith, lower.least, higher.least, same) in
    let second : d ≡ f = omega (arith, first, same) in
    not_before_all string between text (lower.then first) (higher.then second))

-- no string stands before itself
pub not_before_itself : (string : List ℕ) → stands_before string string ≡ false
not_before_itself [] = refl
not_before_itself (c ∷ string) = made_not c c string string (omega arith) (λ same. not_before_itself string)

-- a text doesn't stand before a string that it begins with
pub not_before_its_prefix : (text string : List ℕ) → begins_with text string ≡ true → stands_before text string ≡ false
not_before_its_prefix [] [] h = refl
not_before_its_prefix (d ∷ text) [] h = refl
not_before_its_prefix [] (c ∷ string) h = absurd (false≢true h)
not_before_its_prefix (d ∷ text) (c ∷ string) h =
    let start = begins d c text string h in
    made_not d c text string (omega (arith, start.first)) (λ _. not_before_its_prefix text string start.then)
