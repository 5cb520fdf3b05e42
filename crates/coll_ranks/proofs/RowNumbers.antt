-- Rows of compiled weights, and the numbers that they give what has an entry, and what has none.
use Rattle.std.proofs.Common.{◌≡◌, ◌<◌, ℕ, zero, suc, ◌+◌, ◌*◌, true, false, cond, List, [], ◌∷◌, ◌++◌, length, map, get_or, Some, None, is_some, sym, ap, ap₂, ◌∙◌, refl, arith}
use Rattle.std.specs.Prelude.{slice_index_or}
use Rattle.std.proofs.Math.ListN.{get_or-append, get_or-map}
use Rattle.std.proofs.lemmas.List.{get_or-append-add}
use Rattle.coll_syntax.specs.declared.identifiers.Id.{Id}
use Rattle.coll_syntax.specs.declared.identifiers.Id.TheVariants.{Char, Undefined}
use Rattle.coll_syntax.specs.declared.weights.Weight.{Weight}
use Rattle.coll_syntax.specs.declared.weights.Weight.TheVariants.{Ignore, Own, Names}
use Rattle.coll_syntax.specs.Weights.{is_own}
use Rattle.coll_nodes.specs.Placement.{entry_at}
use Rattle.coll_nodes.specs.Table.{Collation, entries_of, is_placed}
use Rattle.coll_nodes.specs.declared.entries.Entry.{Entry}
use Rattle.coll_nodes.proofs.EntryLemmas.{entry_there, found_id}
use Rattle.coll_elements.specs.Rank.{known_rank}
use Rattle.coll_ranks.specs.RankLists.{WeightsValue}
use Rattle.coll_ranks.specs.Ranks.{compiled_numbers, added_to, added_at, compiled_weight, compiled_by, compiled_row_by, filled_up}
use Rattle.coll_ranks.specs.WeightNumbers.{number_of, numbers_at, weight_at, weights_or, weight_numbers, undefined_weights, code_point}
use Rattle.coll_ranks.specs.declared.text_elements.TextElement.TheVariants.{Placed, Absent}

-- Rows of compiled weights.

-- a row has a list for each level
pub filled_length : (count : ℕ) (lists : List (List ℕ)) → length (filled_up count lists) ≡ count
filled_length zero lists = refl
filled_length (suc count) [] = ap suc (filled_length count [])
filled_length (suc count) (list ∷ lists) = ap suc (filled_length count lists)

-- and the lists that were given are in it
filled_at : (count level : ℕ) (lists : List (List ℕ)) → level < count → get_or (filled_up count lists) level [] ≡ get_or lists level []
filled_at zero level lists h = absurd (omega arith)
filled_at (suc count) zero [] h = refl
filled_at (suc count) (suc level) [] h = filled_at count level [] (omega arith)
filled_at (suc count) zero (list ∷ lists) h = refl
filled_at (suc count) (suc level) (list ∷ lists) h = filled_at count level lists (omega arith)

-- the compiled weight at a level of a row
pub row_at : (rank : Id → ℕ) (levels level : ℕ) (id : Id) (weights : List Weight) → level < levels → get_or (compiled_row_by rank levels id weights) level []
    ≡ compiled_by rank id (get_or weights level Ignore)
row_at rank levels level id weights h = filled_at levels level (map (compiled_by rank id) weights) h ∙ get_or-map (compiled_by rank id) weights level Ignore

-- the same, where the row stands behind others
pub row_behind : (rank : Id → ℕ) (levels level place : ℕ) (before later : List (List ℕ)) (id : Id) (weights : List Weight) → level < levels → place ≡ length before + level
    → get_or (before ++ (compiled_row_by rank levels id weights ++ later)) place [] ≡ compiled_by rank id (get_or weights level Ignore)
row_behind rank levels level place before later id weights within at =
    let row = compiled_row_by rank levels id weights in
    let fits : level < length (compiled_row_by rank levels id weights) = omega (arith, filled_length levels (map (compiled_by rank id) weights)) in
    ap (λ n. get_or (before ++ (row ++ later)) n []) at
    ∙ (get_or-append-add before (row ++ later) level []
    ∙ (get_or-append row later [] level fits
    ∙ row_at rank levels level id weights within))

-- Numbers.

-- nothing is added
none_added : (ranks : List ℕ) → map (added_to 0) ranks ≡ map number_of ranks
none_added [] = refl
none_added (rank ∷ ranks) = ap₂ (λ (n : ℕ) (ns : List ℕ). n ∷ ns) (let same : number_of rank + 0 ≡ number_of rank = omega arith in same) (none_added ranks)

numbers_named : (rank : Id → ℕ) (ids : List Id) → map number_of (map rank ids) ≡ map (λ named. number_of (rank named)) ids
numbers_named rank [] = refl
numbers_named rank (id ∷ ids) = ap (λ ns. number_of (rank id) ∷ ns) (numbers_named rank ids)

-- the numbers of an entry's weight
numbers_placed : (table : Collation) (id : Id) (weight : Weight) → is_placed table id ≡ true → map (added_to 0) (compiled_by (known_rank table) id weight) ≡ weight_numbers table id weight
numbers_placed table id Ignore placed = refl
numbers_placed table id Own placed =
    none_added (known_rank table id ∷ []) ∙ ap (λ b. cond b (number_of (known_rank table id)) (number_of (known_rank table Undefined) + code_point id) ∷ []) (sym placed)
numbers_placed table id (Names ids) placed = none_added (map (known_rank table) ids) ∙ numbers_named (known_rank table) ids

-- the numbers of what has no entry, where the code point is added if UNDEFINED stands for itself
numbers_absent : (table : Collation) (id : Id) (weight : Weight) → is_placed table id ≡ false
    → map (added_to (cond (is_own weight) (code_point id) 0)) (compiled_by (known_rank table) Undefined weight) ≡ weight_numbers table id weight
numbers_absent table id Ignore absent = refl
numbers_absent table id Own absent = ap (λ b. cond b (number_of (known_rank table id)) (number_of (known_rank table Undefined) + code_point id) ∷ []) (sym absent)
numbers_absent table id (Names ids) absent = none_added (map (known_rank table) ids) ∙ numbers_named (known_rank table) ids

-- compiled weights begin with those of UNDEFINED, and know where it stands for itself
pub record BeginWithUndefined (weights : WeightsValue) (table : Collation) (later : List (List ℕ)) : Type 0 where
  pub levels : weights.levels ≡ length table.rules
  pub lists : weights.lists ≡ compiled_row_by (known_rank table) (length table.rules) Undefined (undefined_weights table) ++ later
  pub own : weights.own ≡ map is_own (undefined_weights table)

module _ (weights : WeightsValue) (table : Collation) (later : List (List ℕ)) (begin : BeginWithUndefined weights table later) (level : ℕ) (within : level < length table.rules) where
  -- what has an entry, and its weights in this row
  pub entry_numbers : (id : Id) (entry : Entry) (row : ℕ) → entry_at (entries_of table) id ≡ Some entry
      → compiled_weight weights row level ≡ compiled_by (known_rank table) entry.id (get_or entry.weights level Ignore) → compiled_numbers weights level (Placed row) ≡ numbers_at table level id
  unfolding numbers_at
  entry_numbers id entry row found compiled =
      let placed : is_placed table id ≡ true = entry_there (entries_of table) id ∙ ap is_some found in
      let weight : weight_at table level id ≡ get_or entry.weights level Ignore = ap (λ e. get_or (weights_or e (undefined_weights table)) level Ignore) found in
      ap (map (added_to 0)) (compiled ∙ ap₂ (λ (i : Id) (w : Weight). compiled_by (known_rank table) i w) (found_id (entries_of table) id entry found) (sym weight))
      ∙ numbers_placed table id (weight_at table level id) placed

  -- the weight of what has no entry
  absent_weight : (id : Id) → entry_at (entries_of table) id ≡ None → weight_at table level id ≡ get_or (undefined_weights table) level Ignore
  absent_weight id none = ap (λ e. get_or (weights_or e (undefined_weights table)) level Ignore) none

  -- what is compiled for it
  absent_compiled : (id : Id) → entry_at (entries_of table) id ≡ None → compiled_weight weights 0 level ≡ compiled_by (known_rank table) Undefined (weight_at table level id)
  absent_compiled id none =
      ap₂ (λ (lists : List (List ℕ)) (levels : ℕ). get_or lists (0 * levels + level) []) begin.lists begin.levels
      ∙ (row_behind (known_rank table) (length table.rules) level (0 * length table.rules + level) [] later Undefined (undefined_weights table) within (let at : 0 * length table.rules + level
      ≡ 0 + level = omega arith in at)
      ∙ ap (compiled_by (known_rank table) Undefined) (sym (absent_weight id none)))

  pub absent_numbers : (id : Id) (added : ℕ) → entry_at (entries_of table) id ≡ None → added ≡ cond (is_own (weight_at table level id)) (code_point id) 0
      → map (added_to added) (compiled_weight weights 0 level) ≡ numbers_at table level id
  unfolding numbers_at
  absent_numbers id added none counted =
      let absent : is_placed table id ≡ false = entry_there (entries_of table) id ∙ ap is_some none in
      ap₂ (λ (n : ℕ) (rs : List ℕ). map (added_to n) rs) counted (absent_compiled id none) ∙ numbers_absent table id (weight_at table level id) absent

  -- a character without an entry
  pub character_absent : (c : ℕ) → entry_at (entries_of table) (Char c) ≡ None → compiled_numbers weights level (Absent c) ≡ numbers_at table level (Char c)
  character_absent c none =
      let own : slice_index_or weights.own level false ≡ is_own (get_or (undefined_weights table) level Ignore) =
      ap (λ o. get_or o level false) begin.own ∙ get_or-map is_own (undefined_weights table) level Ignore in
      absent_numbers (Char c) (added_at weights level c) none (ap (λ b. cond b c 0) (own ∙ ap is_own (sym (absent_weight (Char c) none))))
