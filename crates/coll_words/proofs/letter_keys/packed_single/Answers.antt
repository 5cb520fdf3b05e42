-- A row with a single rank has a single number.
use Rattle.std.proofs.Common.{◌≡◌, ◌∙◌, ◌*◌, ◌++◌, ◌∷◌, [], ℕ, List, ap, rules}
use Rattle.coll_ranks.specs.LevelWeights.{level_ranks}
use Rattle.coll_ranks.specs.Ranks.{added_to}
use Rattle.coll_word_lists.specs.PackedKeys.{packed_key}
use Rattle.coll_letters.proofs.NumberLemmas.{single_is}
use Rattle.coll_words.proofs.letter_keys.packed_single.Goals as goal

pub returns-in-Some : goal.returns-in-Some
returns-in-Some c = λ above.
    let single : c.in-Single.rank ∷ [] ≡ level_ranks c.args.at_level c.args.row = search rules in
    ap packed_key
    (single_is (added_to (c.args.at_level.times * c.args.row.code)) c.in-Single.rank c.number_of.result (level_ranks c.args.at_level c.args.row) single
    (c.number_of.ensures ∙ ap (λ n. added_to n c.in-Single.rank) c.added.ensures))
    ∙ ap (λ (l : List ℕ). l ++ []) c.in-Some.ensures
