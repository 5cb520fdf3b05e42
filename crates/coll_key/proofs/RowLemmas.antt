-- The lists of levels by the rows of elements are those of the elements.
use Rattle.std.proofs.Common.{◌≡◌, ℕ, List, [], ◌∷◌, map, refl, ap, ◌∙◌}
use Rattle.coll_syntax.specs.declared.rules.Rule.{Rule}
use Rattle.coll_ranks.specs.LevelWeights.{row_of, row_numbers}
use Rattle.coll_ranks.specs.RankLists.{WeightsValue}
use Rattle.coll_ranks.specs.Ranks.{compiled_numbers}
use Rattle.coll_ranks.specs.declared.text_elements.TextElement.{TextElement}
use Rattle.coll_ranks.specs.declared.text_elements.ElementRow.{ElementRow}
use Rattle.coll_ranks.proofs.LevelRows.{rows_of_elements}
use Rattle.coll_key.specs.LevelList.{level_list, level_lists_from}
use Rattle.coll_key.proofs.LevelLemmas.{level_list_same, level_lists_same}

-- what gives the same for each member gives the same for all
map_alike : {X Y : Type 0} (f g : X → Y) → ((x : X) → f x ≡ g x) → (xs : List X) → map f xs ≡ map g xs
map_alike f g same [] = refl
map_alike f g same (x ∷ xs) = ap (λ y. y ∷ map f xs) (same x) ∙ ap (λ ys. g x ∷ ys) (map_alike f g same xs)

-- where each row has the same numbers, a level has the same list
pub list_alike : {P : Type 0} (rule : Rule) (f g : P → List ℕ) → ((p : P) → f p ≡ g p) → (ps : List P) → level_list rule f ps ≡ level_list rule g ps
list_alike rule f g same ps = level_list_same rule f g ps ps (map_alike f g same ps)

module _ (weights : WeightsValue) (rows : List ElementRow) (elements : List TextElement) (are : rows ≡ map (row_of weights) elements) where
  -- the rows of elements have their numbers
  numbers_of_rows : (level : ℕ) → map (row_numbers weights level) rows ≡ map (compiled_numbers weights level) elements
  numbers_of_rows level = ap (map (row_numbers weights level)) are ∙ rows_of_elements weights level elements

  -- so a level has the same list
  pub list_by_rows : (rule : Rule) (level : ℕ) → level_list rule (row_numbers weights level) rows ≡ level_list rule (compiled_numbers weights level) elements
  list_by_rows rule level = level_list_same rule (row_numbers weights level) (compiled_numbers weights level) rows elements (numbers_of_rows level)

  -- and all levels have the same lists
  pub lists_by_rows : (rules : List Rule) → level_lists_from rules 0 (row_numbers weights) rows ≡ level_lists_from rules 0 (compiled_numbers weights) elements
  lists_by_rows rules = level_lists_same rules 0 (row_numbers weights) (compiled_numbers weights) rows elements (λ level low high. numbers_of_rows level)
