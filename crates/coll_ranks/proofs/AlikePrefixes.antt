-- What stands behind a prefix that two lists have.
use Rattle.std.proofs.Common.{List, ◌++◌, sym, ap, ◌∙◌, append_assoc}
use Rattle.coll_ranks.specs.AlikePrefixes.{BeginAlike}

-- what begins alike, and goes on alike, begins alike
pub alike_further : {X : Type 0} (xs ys later others rest behind : List X) → BeginAlike xs ys later others → BeginAlike later others rest behind → BeginAlike xs ys rest behind
alike_further xs ys later others rest behind first second = (
  first.0 ++ second.0,
  first.1 ∙ (ap (λ zs. first.0 ++ zs) second.1 ∙ sym (append_assoc first.0 second.0 rest)),
  first.2 ∙ (ap (λ zs. first.0 ++ zs) second.2 ∙ sym (append_assoc first.0 second.0 behind)),
)
