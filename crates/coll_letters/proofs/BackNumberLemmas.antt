-- The list of a level that is looked at from the back is what is left of all rows.
use Rattle.std.proofs.Common.{◌≡◌, ℕ, Bool, true, List, [], map, reverse, sym, ap, ◌∙◌}
use Rattle.coll_ranks.specs.LevelWeights.{level_numbers, ranks_in}
use Rattle.coll_ranks.specs.Ranks.{added_to}
use Rattle.coll_ranks.specs.declared.level_weights.LevelWeights.{LevelWeights}
use Rattle.coll_ranks.specs.declared.text_elements.ElementRow.{ElementRow}
use Rattle.coll_key.specs.ForwardNumbers.{items_left}
use Rattle.coll_key.specs.LevelList.{items, level_list, listed}
use Rattle.coll_key.proofs.DirectionLemmas.{items-directed}
use Rattle.coll_letters.specs.BackNumbers.{items_before, numbers_back}
use Rattle.coll_letters.specs.declared.back_numbers.RowsBefore.{RowsBefore}

pub back_list : (weights : LevelWeights) (p : Bool) (rows : List ElementRow) (rest : RowsBefore) → ranks_in rest.ranks ≡ [] → rest.rows.now ≡ rows
    → level_list (record { backward = true; position = p }) (level_numbers weights) rows ≡ listed p 0 (items_before weights rest)
back_list weights p rows rest none all =
    ap (listed p 0) (items-directed true (level_numbers weights) rows)
    ∙ ap (λ (rs : List ElementRow). listed p 0 (items (numbers_back weights) (reverse rs))) (sym all)
    ∙ ap (λ (ns : List ℕ). listed p 0 (items_left (numbers_back weights) (map (added_to rest.added) (reverse ns)) (reverse rest.rows.now))) (sym none)
