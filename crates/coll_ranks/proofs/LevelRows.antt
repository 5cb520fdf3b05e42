-- The numbers of an element are those of its row, and the weights of one level give them too.
use Rattle.std.proofs.Common.{◌≡◌, ℕ, ◌+◌, ◌*◌, Bool, true, false, if◌then◌else◌, List, [], ◌∷◌, map, drop, slice_index_or, refl, ap, ◌∙◌, arith}
use Rattle.std.proofs.lemmas.List.{get_or-drop}
use Rattle.coll_ranks.specs.RankLists.{WeightsValue}
use Rattle.coll_ranks.specs.Ranks.{added_to, added_at, compiled_numbers}
use Rattle.coll_ranks.specs.LevelWeights.{row_of, row_numbers}
use Rattle.coll_ranks.specs.declared.text_elements.TextElement.{TextElement}
use Rattle.coll_ranks.specs.declared.text_elements.TextElement.TheVariants.{Placed, Absent}
use Rattle.coll_ranks.specs.declared.text_elements.ElementRow.{ElementRow}

-- nothing is added to what has an entry
added_none : (own : Bool) → let none : ℕ = 0 in (if own then none else none) ≡ none
added_none true = refl
added_none false = refl

-- the numbers of an element are those of its row
pub row_of_element : (weights : WeightsValue) (level : ℕ) (element : TextElement) → row_numbers weights level (row_of weights element) ≡ compiled_numbers weights level element
row_of_element weights level (Placed rank) = ap (λ added. map (added_to added) (slice_index_or weights.lists (rank * weights.levels + level) [])) (added_none (slice_index_or weights.own level false))
row_of_element weights level (Absent c) =
    let same : 0 + level ≡ 0 * weights.levels + level = omega arith in
    ap (λ place. map (added_to (added_at weights level c)) (slice_index_or weights.lists place [])) same

-- and those of elements are those of their rows
pub rows_of_elements : (weights : WeightsValue) (level : ℕ) (elements : List TextElement) → map (row_numbers weights level) (map (row_of weights) elements) ≡ map
    (compiled_numbers weights level) elements
rows_of_elements weights level [] = refl
rows_of_elements weights level (element ∷ elements) =
    ap (λ ns. ns ∷ map (row_numbers weights level) (map (row_of weights) elements)) (row_of_element weights level element)
    ∙ ap (λ nss. compiled_numbers weights level element ∷ nss) (rows_of_elements weights level elements)

-- a member behind others
behind : {X : Type 0} (start place : ℕ) (xs : List X) (d : X) → slice_index_or (drop start xs) place d ≡ slice_index_or xs (place + start) d
behind start place xs d =
    let order : start + place ≡ place + start = omega arith in
    get_or-drop start xs place d ∙ ap (λ at. slice_index_or xs at d) order

-- a code point is added once or not at all
times_added : (own : Bool) (times code : ℕ) → times ≡ (if own then 1 else 0) → times * code ≡ (if own then code else 0)
times_added true times code once = ap (λ n. n * code) once ∙ omega arith
times_added false times code never = ap (λ n. n * code) never ∙ omega arith

-- the weights of one level give the numbers of rows there
pub level_of_weights : (weights : WeightsValue) (level : ℕ) (lists : List (List ℕ)) (times : ℕ) → lists ≡ drop level weights.lists → times ≡ (if slice_index_or weights.own level false then 1 else 0)
    → (row : ElementRow) → map (added_to (times * row.code)) (slice_index_or lists row.first []) ≡ row_numbers weights level row
level_of_weights weights level lists times later count row =
    ap (λ ls. map (added_to (times * row.code)) (slice_index_or ls row.first [])) later
    ∙ ap (map (added_to (times * row.code))) (behind level row.first weights.lists [])
    ∙ ap (λ n. map (added_to n) (slice_index_or weights.lists (row.first + level) [])) (times_added (slice_index_or weights.own level false) times row.code count)
