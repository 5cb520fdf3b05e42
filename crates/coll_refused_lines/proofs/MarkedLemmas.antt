-- The columns of characters, one behind another.
use Rattle.std.proofs.Common.{◌≡◌, ◌+◌, ◌<◌, ℕ, List, ◌∷◌, ◌++◌, length, get_or, drop, ap, sym, ◌∙◌}
use Rattle.coll_refused_lines.specs.MarkedLines.{columns_at, columns_behind}
use Rattle.std.proofs.lemmas.List.{drop_more}

-- one more character is put
pub one_more : (all columns after whole : List ℕ) (n c : ℕ) → n < length all → c ≡ get_or all n c
    → after ≡ columns ++ columns_at (length columns) c → columns_behind columns (drop n all) ≡ whole
    → columns_behind after (drop (n + 1) all) ≡ whole
one_more all columns after whole n c within is put so_far =
    let begins : drop n all ≡ c ∷ drop (n + 1) all = drop_more all n c within ∙ ap (λ y. y ∷ drop (n + 1) all) (sym is) in
    let one : columns_behind columns (drop n all) ≡ columns_behind (columns ++ columns_at (length columns) c) (drop (n + 1) all) = ap (columns_behind columns) begins in
    cc
