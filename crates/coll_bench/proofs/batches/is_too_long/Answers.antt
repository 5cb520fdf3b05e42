use Rattle.std.proofs.Common.{◌≡◌, length, ap, ◌∙◌, rules, List, ℕ}
use Rattle.std.proofs.lemmas.Str.{chars_from_encodes}
use Rattle.std.specs.Prelude.{chars, nat_lt}
use Rattle.coll_bench.proofs.batches.is_too_long.Goals as goal

pub returns : goal.returns
returns c =
    let count : c.count.result ≡ length (chars c.get.result.now) = search (rules, chars_from_encodes) in
    ap (nat_lt 65536) (count ∙ ap (λ (l : List ℕ). length l) c.get.ensures.characters)
