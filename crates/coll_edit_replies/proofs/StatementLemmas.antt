-- The statement with a number stands before those with later numbers.
use Rattle.std.proofs.Common.{◌≡◌, ℕ, zero, suc, ◌+◌, List, [], ◌∷◌, drop, Some, sym, ap, ◌∙◌, arith}
use Rattle.std.specs.Prelude.{slice_get}
use Rattle.coll_syntax.specs.declared.statements.Statement.{Statement}
use Rattle.coll_history.specs.Histories.{numbered}

begins_by : (statements : List Statement) (n : ℕ) (s : Statement) → slice_get statements n ≡ Some s → drop n statements ≡ s ∷ drop (suc n) statements
begins_by [] n s at = absurd cc
begins_by (first ∷ later) zero s at = let same : first ≡ s = cc in ap (λ (x : Statement). x ∷ later) same
begins_by (first ∷ later) (suc n) s at = begins_by later n s at

-- what is left of some statements behind the first ones begins with the next
pub begins_next : (statements : List Statement) (n : ℕ) (s : Statement) → Some s ≡ numbered statements (n + 1) → drop n statements ≡ s ∷ drop (n + 1) statements
begins_next statements n s is =
    let next : n + 1 ≡ suc n = omega arith in
    begins_by statements n s (sym (is ∙ ap (numbered statements) next)) ∙ ap (λ (m : ℕ). s ∷ drop m statements) (sym next)
