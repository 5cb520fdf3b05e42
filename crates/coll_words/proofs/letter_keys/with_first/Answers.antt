-- The numbers are those of the row.
use Rattle.std.proofs.Common.{◌≡◌, ◌∙◌, ◌++◌, ℕ, List, map, sym, ap, subst}
use Rattle.std.specs.Prelude.{IfOk}
use Rattle.coll_ranks.specs.LevelWeights.{level_numbers, level_ranks, ranks_in}
use Rattle.coll_ranks.specs.Ranks.{added_to}
use Rattle.coll_word_lists.specs.PackedKeys.{packed_key}
use Rattle.coll_words.proofs.letter_keys.with_first.Goals as goal

pub returns-then-first-gt0-clause-numbers : goal.returns-then-first-gt0-clause-numbers
returns-then-first-gt0-clause-numbers c = c.with_short.ensures.items ∙ ap (λ (l : List ℕ). c.args.keys.items ++ l) (sym (c.requires.packed c.if-first-gt0.true))

pub returns-clause-numbers : goal.returns-clause-numbers
returns-clause-numbers c =
    let at = c.args.at_first in
    let row = c.args.first.row in
    let numbers : map (added_to c.added.result) (ranks_in c.ranks.result) ≡ level_numbers at row =
    ap (map (added_to c.added.result)) c.ranks.ensures ∙ ap (λ (n : ℕ). map (added_to n) (level_ranks at row)) c.added.ensures in
    subst (λ (l : List ℕ). IfOk c.with_weight.result (λ with. with.items ≡ c.args.keys.items ++ l))
    (ap packed_key (numbers ∙ c.requires.first.numbers row))
    c.with_weight.ensures.numbers
