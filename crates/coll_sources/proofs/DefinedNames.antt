-- One more name that is defined.
use Rattle.std.proofs.Common.{◌≡◌, ◌+◌, ◌<◌, ℕ, Bool, true, false, ◌||◌, cond, List, Bor, length, take, get_or, refl, sym, ap, ap₂, ◌∙◌}
use Rattle.std.specs.List.{list_any}
use Rattle.std.specs.Str.{bytes_eq}
use Rattle.std.proofs.lemmas.Bool.Decides.{Decides-like, same_from_decides}
use Rattle.std.proofs.lemmas.List.Folds.{list_any_more}
use Rattle.std.proofs.lemmas.Slice.Eq.{bytes_eq-Decides}

-- two texts are the same, whichever stands first
turned : (a b : List ℕ) → bytes_eq a b ≡ bytes_eq b a
turned a b = same_from_decides (bytes_eq a b) (bytes_eq b a) (bytes_eq-Decides a b) (Decides-like (bytes_eq b a) sym sym (bytes_eq-Decides b a))

or_same : (before same : Bool) → cond same true before ≡ (before || same)
or_same true true = refl
or_same true false = refl
or_same false true = refl
or_same false false = refl

-- a name is defined by some names and one more where it was by those, or is the one more
pub defined_more : (names : List (Bor (List ℕ))) (at : ℕ) (d : Bor (List ℕ)) (name word : List ℕ) (before after : Bool) → at < length names → word ≡ (get_or names at d).now
    → after ≡ cond (bytes_eq word name) true before → before ≡ list_any (λ other. bytes_eq name other.now) (take at names)
    → after ≡ list_any (λ other. bytes_eq name other.now) (take (at + 1) names)
defined_more names at d name word before after within is more so_far =
    more ∙ ap (λ same. cond same true before) (turned word name) ∙ or_same before (bytes_eq name word)
    ∙ ap₂ (λ (b : Bool) (w : List ℕ). b || bytes_eq name w) so_far is
    ∙ sym (list_any_more (λ (other : Bor (List ℕ)). bytes_eq name other.now) names at d within)
