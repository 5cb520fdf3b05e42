-- Which element of a list is the longest that a text begins with.
use Rattle.std.proofs.Common.{◌≡◌, ◌<◌, ◌≤◌, ℕ, zero, suc, true, false, cond, List, [], ◌∷◌, length, get_or, Option, Some, None, sym, ap, ◌∙◌, refl, arith}
use Rattle.std.specs.Prelude.{nat_lt}
use Rattle.std.proofs.lemmas.Bool.{le-ltb}
use Rattle.std.proofs.lemmas.Bool.Decides.{Decides-ltb}
use Rattle.coll_elements.proofs.Tests.{by_test}
use Rattle.coll_elements.specs.Elements.{begins_with, longer, longest}
use Rattle.coll_elements.specs.RankedElements.{RankedElement, ranked_text}

-- the length of an element's string
abbrev pub size_of : RankedElement → ℕ
size_of ranked = length (ranked_text ranked)

-- a text begins with no element
pub longest_none : (xs : List RankedElement) (text : List ℕ) → ((place : ℕ) (x : RankedElement) → place < length xs → x ≡ get_or xs place x → begins_with text (ranked_text x) ≡ false)
    → longest ranked_text xs text ≡ None
longest_none [] text none = refl
longest_none (x ∷ xs) text none =
    ap (λ b. cond b (Some (longer ranked_text x (longest ranked_text xs text))) (longest ranked_text xs text)) (none 0 x (omega arith) refl)
    ∙ longest_none xs text (λ place y there is. none (suc place) y (omega (arith, there)) is)

-- what is found is shorter than a string, if each that a text begins with is
abbrev IsShorter : Option RankedElement → ℕ → Type 0
IsShorter None size = 0 ≤ size
IsShorter (Some x) size = size_of x < size

shorter_all : (xs : List RankedElement) (text : List ℕ) (size : ℕ)
    → ((place : ℕ) (x : RankedElement) → place < length xs → x ≡ get_or xs place x → begins_with text (ranked_text x) ≡ true → size_of x < size) → IsShorter (longest ranked_text xs text) size
shorter_all [] text size all = omega arith
shorter_all (x ∷ xs) text size all =
    let later : IsShorter (longest ranked_text xs text) size = shorter_all xs text size (λ place y there is on. all (suc place) y (omega (arith, there)) is on) in
    by_test (λ b. IsShorter (cond b (Some (longer ranked_text x (longest ranked_text xs text))) (longest ranked_text xs text)) size) (begins_with text (ranked_text x))
    (λ on. of_two (longest ranked_text xs text) later (all 0 x (omega arith) refl on))
    (λ off. later) where
      of_two : (other : Option RankedElement) → IsShorter other size → size_of x < size → size_of (longer ranked_text x other) < size
      of_two None less h = h
      of_two (Some y) less h = by_test (λ b. size_of (cond b x y) < size) (nat_lt (size_of y) (size_of x)) (λ _. h) (λ _. less)

-- one that is longer than what is found stays
longer_stays : (x : RankedElement) (other : Option RankedElement) → IsShorter other (size_of x) → longer ranked_text x other ≡ x
longer_stays x None less = refl
longer_stays x (Some y) less = ap (λ b. cond b x y) ((Decides-ltb (size_of y) (size_of x)).1 less)

-- an element that a text begins with is the longest, if no other is longer, and no later one as long
pub longest_is : (xs : List RankedElement) (text : List ℕ) (place : ℕ) (x : RankedElement) → place < length xs → x ≡ get_or xs place x → begins_with text (ranked_text x) ≡ true
    → ((other : ℕ) (y : RankedElement) → other < length xs → y ≡ get_or xs other y → begins_with text (ranked_text y) ≡ true → (size_of y ≤ size_of x) × (place < other → size_of y < size_of x))
    → longest ranked_text xs text ≡ Some x
longest_is [] text place x there is on all = absurd (omega (arith, there))
longest_is (y ∷ ys) text zero x there is on all =
    ap (longest_with_first ys) (sym is) ∙ (ap (λ b. cond b (Some (longer ranked_text x (longest ranked_text ys text))) (longest ranked_text ys text)) on
    ∙ ap Some (longer_stays x (longest ranked_text ys text) (shorter_all ys text (size_of x) (λ later z below same begun. (all (suc later) z (omega (arith, below)) same begun).1 (omega arith)))))
  where
    longest_with_first : List RankedElement → RankedElement → Option RankedElement
    longest_with_first zs z = longest ranked_text (z ∷ zs) text
longest_is (y ∷ ys) text (suc place) x there is on all =
    let rest : longest ranked_text ys text ≡ Some x = longest_is ys text place x (omega (arith, there)) is on (λ other z below same begun.
    let told = all (suc other) z (omega (arith, below)) same begun in
    (told.0, λ later. told.1 (omega (arith, later)))) in
    by_test (λ b. begins_with text (ranked_text y) ≡ b → cond b (Some (longer ranked_text y (longest ranked_text ys text))) (longest ranked_text ys text) ≡ Some x) (begins_with text (ranked_text y))
    (λ _ begun.
    ap (λ found. Some (longer ranked_text y found)) rest
    ∙ ap (λ b. Some (cond b y x)) (le-ltb (size_of x) (size_of y) (all 0 y (omega arith) refl begun).0))
    (λ _ other. rest) refl
