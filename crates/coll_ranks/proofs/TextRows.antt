-- The elements of a text by their rows, the rows of their weights, and that their numbers are what the table says.
use Rattle.std.proofs.Common.{◌≡◌, ◌<◌, ◌≤◌, ℕ, suc, ◌+◌, ◌*◌, List, [], ◌∷◌, ◌++◌, length, map, get_or, drop, sym, ap, ap₂, ◌∙◌, refl, arith, append_assoc, append-nil, length-append, None}
use Rattle.std.specs.List.{flat_map}
use Rattle.std.proofs.lemmas.List.{at_drop_more, at_drop_all}
use Rattle.coll_syntax.specs.declared.identifiers.Id.{Id}
use Rattle.coll_syntax.specs.declared.identifiers.Id.TheVariants.{Char, Undefined}
use Rattle.coll_syntax.specs.declared.weights.Weight.TheVariants.{Ignore}
use Rattle.coll_syntax.specs.Weights.{is_own}
use Rattle.coll_nodes.specs.Placement.{entry_at}
use Rattle.coll_nodes.specs.Table.{Collation, entries_of}
use Rattle.coll_elements.specs.Elements.{elements_of, elements_placed, element_text, element_id}
use Rattle.coll_elements.specs.Rank.{known_rank}
use Rattle.coll_ranks.specs.RankLists.{WeightsValue, AddsRow}
use Rattle.coll_ranks.specs.Ranks.{compiled_numbers, compiled_by, compiled_entry, compiled_row_by, compiled_weight}
use Rattle.coll_elements.specs.ElementEntries.{AreElementsOf}
use Rattle.coll_ranks.specs.TextWeights.{element_row, elements_by_rows}
use Rattle.coll_ranks.specs.WeightNumbers.{numbers_at, undefined_weights}
use Rattle.coll_ranks.specs.declared.text_elements.TextElement.{TextElement}
use Rattle.coll_elements.specs.declared.element_entries.ElementEntry.{ElementEntry}
use Rattle.coll_elements.specs.declared.element_entries.ElementEntry.TheVariants.{Placed, Absent}
use Rattle.coll_elements.proofs.SplitTexts.{few_split}
use Rattle.coll_ranks.proofs.RowNumbers.{BeginWithUndefined, filled_length, row_behind, entry_numbers, character_absent}

-- Going along the elements.

-- with one element more
pub text_elements_go_on : (elements : List ElementEntry) (element : ElementEntry) (at row next : ℕ) (old new whole : List TextElement) → at < length elements → element ≡ get_or elements at element
    → ((later : List ElementEntry) → new ++ elements_by_rows next later ≡ old ++ elements_by_rows row (element ∷ later)) → old ++ elements_by_rows row (drop at elements) ≡ whole
    → new ++ elements_by_rows next (drop (at + 1) elements) ≡ whole
text_elements_go_on elements element at row next old new whole within is put so_far =
    put (drop (at + 1) elements)
    ∙ (ap (λ (e : ElementEntry). old ++ elements_by_rows row (e ∷ drop (at + 1) elements)) is
    ∙ (sym (at_drop_more (λ (es : List ElementEntry). old ++ elements_by_rows row es) elements at element within) ∙ so_far))

-- and its row
pub rows_go_on : {X Y : Type 0} (rows_of : X → List Y) (xs : List X) (x : X) (at : ℕ) (old new whole : List Y) → at < length xs → x ≡ get_or xs at x → new ≡ old ++ rows_of x
    → old ++ flat_map rows_of (drop at xs) ≡ whole → new ++ flat_map rows_of (drop (at + 1) xs) ≡ whole
rows_go_on rows_of xs x at old new whole within is put so_far =
    ap (λ rows. rows ++ flat_map rows_of (drop (at + 1) xs)) put
    ∙ (append_assoc old (rows_of x) (flat_map rows_of (drop (at + 1) xs))
    ∙ (ap (λ y. old ++ (rows_of y ++ flat_map rows_of (drop (at + 1) xs))) is
    ∙ (sym (at_drop_more (λ ys. old ++ flat_map rows_of ys) xs at x within) ∙ so_far)))

-- no element is left
pub text_elements_done : (elements : List ElementEntry) (at row : ℕ) (text_elements whole : List TextElement) → length elements ≤ at → text_elements ++ elements_by_rows row
    (drop at elements) ≡ whole → text_elements ≡ whole
text_elements_done elements at row text_elements whole past all = sym (append-nil text_elements) ∙
    (sym (at_drop_all (λ (es : List ElementEntry). text_elements ++ elements_by_rows row es) elements at past) ∙ all)

pub rows_done : {X Y : Type 0} (rows_of : X → List Y) (xs : List X) (at : ℕ) (rows whole : List Y) → length xs ≤ at → rows ++ flat_map rows_of (drop at xs) ≡ whole → rows ≡ whole
rows_done rows_of xs at rows whole past all = sym (append-nil rows) ∙ (sym (at_drop_all (λ ys. rows ++ flat_map rows_of ys) xs at past) ∙ all)

-- Counting.

-- elements by their rows are as many
text_elements_length : (row : ℕ) (elements : List ElementEntry) → length (elements_by_rows row elements) ≡ length elements
text_elements_length row [] = refl
text_elements_length row (Placed entry ∷ elements) = ap suc (text_elements_length (suc row) elements)
text_elements_length row (Absent c ∷ elements) = ap suc (text_elements_length row elements)

-- elements are as many as their identifiers
elements_length : (table : Collation) (ids : List Id) (elements : List ElementEntry) → AreElementsOf table ids elements → length elements ≡ length ids
elements_length table [] [] are = refl
elements_length table [] (element ∷ elements) are = absurd are
elements_length table (id ∷ ids) [] are = absurd are
elements_length table (id ∷ ids) (element ∷ elements) are = ap suc (elements_length table ids elements are.1)

-- a text has no more elements than characters
pub few_elements : (table : Collation) (text : List ℕ) (elements : List ElementEntry) → AreElementsOf table (elements_of table text) elements → length elements ≤ length text
unfolding elements_of
few_elements table text elements are =
    omega (arith, elements_length table (elements_of table text) elements are, few_split element_text (elements_placed table) element_id 0 text)

-- and no more of them by their rows
pub few_text_elements : (table : Collation) (text : List ℕ) (elements : List ElementEntry) (text_elements : List TextElement) → AreElementsOf table (elements_of table text) elements
    → text_elements ≡ elements_by_rows 1 elements → length text_elements ≤ length text
few_text_elements table text elements text_elements are made = omega (arith, few_elements table text elements are, ap length made, text_elements_length 1 elements)

-- Numbers.

module _ (weights : WeightsValue) (table : Collation) (rows : List (List ℕ)) (begin : BeginWithUndefined weights table rows) (level : ℕ) (within : level < length table.rules) where
  -- elements whose rows stand behind others have their numbers
  numbers_of_elements : (before : List (List ℕ)) (row : ℕ) (ids : List Id) (elements : List ElementEntry) → AreElementsOf table ids elements → length before ≡ row * length table.rules → weights.lists
      ≡ before ++ flat_map (element_row (known_rank table) (length table.rules)) elements → map (compiled_numbers weights level) (elements_by_rows row elements) ≡ map (numbers_at table level) ids
  numbers_of_elements before row [] [] are counted lists = refl
  numbers_of_elements before row [] (element ∷ elements) are counted lists = absurd are
  numbers_of_elements before row (id ∷ ids) [] are counted lists = absurd are
  numbers_of_elements before row (id ∷ ids) (Placed entry ∷ elements) are counted lists =
      let own = compiled_entry (known_rank table) (length table.rules) entry.now in
      let later = flat_map (element_row (known_rank table) (length table.rules)) elements in
      let at : row * length table.rules + level ≡ length before + level = omega (arith, counted) in
      let compiled : compiled_weight weights row level ≡ compiled_by (known_rank table) entry.now.id (get_or entry.now.weights level Ignore) =
      ap₂ (λ (ls : List (List ℕ)) (n : ℕ). get_or ls (row * n + level) []) lists begin.levels
      ∙ row_behind (known_rank table) (length table.rules) level (row * length table.rules + level) before later entry.now.id entry.now.weights within at in
      let longer : length (before ++ compiled_entry (known_rank table) (length table.rules) entry.now) ≡ suc row * length table.rules =
      omega (arith, counted, length-append before own, filled_length (length table.rules) (map (compiled_by (known_rank table) entry.now.id) entry.now.weights)) in
      ap₂ (λ (n : List ℕ) (ns : List (List ℕ)). n ∷ ns)
      (entry_numbers weights table rows begin level within id entry.now row are.0 compiled)
      (numbers_of_elements (before ++ own) (suc row) ids elements are.1 longer (lists ∙ sym (append_assoc before own later)))
  numbers_of_elements before row (id ∷ ids) (Absent c ∷ elements) are counted lists =
      let none : entry_at (entries_of table) (Char c) ≡ None = ap (entry_at (entries_of table)) (sym are.0.0) ∙ are.0.1 in
      ap₂ (λ (n : List ℕ) (ns : List (List ℕ)). n ∷ ns)
      (character_absent weights table rows begin level within c none ∙ ap (numbers_at table level) (sym are.0.0))
      (numbers_of_elements before row ids elements are.1 counted lists)

-- the numbers of the elements by their rows are those of the text's elements
pub text_numbers : (table ranked : Collation) (undefined weights : WeightsValue) (text : List ℕ) (elements : List ElementEntry) (text_elements : List TextElement)
    → AreElementsOf table (elements_of table text) elements → ranked ≡ table → undefined.levels ≡ length table.rules
    → undefined.lists ≡ compiled_row_by (known_rank ranked) (length table.rules) Undefined (undefined_weights table) → undefined.own ≡ map is_own (undefined_weights table)
    → AddsRow undefined weights (flat_map (element_row (known_rank ranked) undefined.levels) elements) → text_elements ≡ elements_by_rows 1 elements → (level : ℕ) → level < length table.rules
    → map (compiled_numbers weights level) text_elements ≡ map (numbers_at table level) (elements_of table text)
text_numbers table ranked undefined weights text elements text_elements are same levels lists own adds made level within =
    ap (map (compiled_numbers weights level)) made
    ∙ numbers_of_elements weights table rows begin level within first 1 (elements_of table text) elements are counted begin.lists where
      first : List (List ℕ)
      first = compiled_row_by (known_rank table) (length table.rules) Undefined (undefined_weights table)

      rows : List (List ℕ)
      rows = flat_map (element_row (known_rank table) (length table.rules)) elements

      counted : length (compiled_row_by (known_rank table) (length table.rules) Undefined (undefined_weights table)) ≡ 1 * length table.rules
      counted = omega (arith, filled_length (length table.rules) (map (compiled_by (known_rank table) Undefined) (undefined_weights table)))

      whole : weights.lists ≡ compiled_row_by (known_rank table) (length table.rules) Undefined (undefined_weights table) ++ flat_map (element_row (known_rank table) (length table.rules)) elements
      whole =
          adds.lists_are
          ∙ (ap₂ (λ (prefix : List (List ℕ)) (n : ℕ). prefix ++ flat_map (element_row (known_rank ranked) n) elements) lists levels
          ∙ ap (λ (t : Collation). compiled_row_by (known_rank t) (length table.rules) Undefined (undefined_weights table) ++ flat_map (element_row (known_rank t) (length table.rules)) elements) same)

      begin : BeginWithUndefined weights table (flat_map (element_row (known_rank table) (length table.rules)) elements)
      begin = record { levels = adds.levels_are ∙ levels; lists = whole; own = adds.own_are ∙ own }
