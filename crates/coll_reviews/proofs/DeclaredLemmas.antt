-- A statement that declares alone leaves all texts in the order that they had.
use Rattle.std.proofs.Common.{◌≡◌, ℕ, ◌+◌, ◌&&◌, ◌||◌, not, Bool, true, false, if◌then◌else◌, List, [], ◌∷◌, ◌++◌, map, get_or, Ok, refl, sym, ap, subst, ◌∙◌, append_assoc, eq-eqb}
use Rattle.std.specs.Prelude.{filter}
use Rattle.std.specs.List.{flat_map, list_any}
use Rattle.std.specs.List.Sorted.{IsSorted}
use Rattle.std.specs.declared.cmp.Ordering.{Ordering}
use Rattle.std.specs.Ordering.{is_lt, nat_cmp, ordering_then}
use Rattle.coll_syntax.specs.declared.identifiers.Id.{Id}
use Rattle.coll_syntax.specs.declared.identifiers.Id.TheVariants.{Named}
use Rattle.coll_syntax.specs.declared.statements.Statement.{Statement}
use Rattle.coll_syntax.specs.declared.statements.Statement.TheVariants as statement
use Rattle.coll_syntax.specs.declared.weights.Weight.{Weight}
use Rattle.coll_syntax.specs.declared.weights.Weight.TheVariants.{Ignore, Own, Names}
use Rattle.coll_lookups.proofs.Sameness.{found_holds, same_id_decides}
use Rattle.coll_syntax.specs.Identifier.{same_id}
use Rattle.coll_nodes.specs.OwnNames.{named_own}
use Rattle.coll_nodes.specs.Table.{Collation, entries_of, ids_of, is_declared, is_placed, name_of}
use Rattle.coll_nodes.specs.WellFormed.{IsKnown, IsWellFormed}
use Rattle.coll_nodes.specs.declared.declarations.Declaration.{Declaration}
use Rattle.coll_nodes.specs.declared.declarations.Declaration.TheVariants as declaration
use Rattle.coll_nodes.proofs.OwnNames.{own_declared}
use Rattle.coll_elements.specs.Elements.{Element, element_id, element_placed, element_text, elements_of, split}
use Rattle.coll_elements.proofs.Tests.{by_test}
use Rattle.coll_ranks.specs.WeightNumbers.{numbers_at, weight_at, weight_numbers}
use Rattle.coll_key.specs.LevelList.{level_lists_from}
use Rattle.coll_key.specs.TextOrder.{first_difference, level_lists, order_of}
use Rattle.coll_key.proofs.LevelLemmas.{level_lists_same}
use Rattle.coll_table.specs.Delta.{declaration_delta, declaration_refusal, delta, own_delta}
use Rattle.coll_table.specs.OwnStatements.{own_statement}
use Rattle.coll_table.specs.declared.refusals.Refusal.TheVariants.{DeclaredTwice}
use Rattle.coll_table.proofs.DeltaRefusals.{unrefused}
use Rattle.coll_texts.proofs.SoundLines.{passed}
use Rattle.coll_reviews.specs.Declaring.{declares_alone}
use Rattle.coll_word_lists.specs.Neighbours.{NumberedWord, WordPair, is_same_pair, neighbours, only_in}
use Rattle.coll_word_lists.specs.NumberedWords.{line_order}

-- A declaration more.

module _ (table : Collation) (new : Declaration) where
  -- the table with it
  abbrev more : Collation
  more = record table { declared = table.declared ++ new ∷ [] }

  same_weight : (id : Id) (weight : Weight) → weight_numbers more id weight ≡ weight_numbers table id weight
  same_weight id Ignore = refl
  same_weight id Own = refl
  same_weight id (Names ids) = refl

  -- each identifier has the numbers that it had
  same_numbers : (level : ℕ) (id : Id) → numbers_at more level id ≡ numbers_at table level id
  unfolding numbers_at
  same_numbers level id = same_weight id (weight_at table level id)

  all_same_numbers : (level : ℕ) (ids : List Id) → map (numbers_at more level) ids ≡ map (numbers_at table level) ids
  all_same_numbers level [] = refl
  all_same_numbers level (id ∷ ids) =
      ap (λ (n : List ℕ). n ∷ map (numbers_at more level) ids) (same_numbers level id) ∙ ap (λ (l : List (List ℕ)). numbers_at table level id ∷ l) (all_same_numbers level ids)

  same_placed : (d : Declaration) → element_placed more d ≡ element_placed table d
  same_placed (declaration.Symbol name) = refl
  same_placed (declaration.Element name text) = refl
  same_placed (declaration.Equivalence name symbol) = refl

  -- those placed are as they were, where it places none
  placed_still : element_placed table new ≡ [] → (ds : List Declaration) → flat_map (element_placed more) (ds ++ new ∷ []) ≡ flat_map (element_placed table) ds
  placed_still none [] = ap (λ (l : List Element). l ++ []) (same_placed new ∙ none)
  placed_still none (d ∷ ds) =
      ap (λ (l : List Element). l ++ flat_map (element_placed more) (ds ++ new ∷ [])) (same_placed d)
      ∙ ap (λ (l : List Element). element_placed table d ++ l) (placed_still none ds)

  module _ (none : element_placed table new ≡ []) where
    -- a text has the elements that it had
    same_elements : (text : List ℕ) → elements_of more text ≡ elements_of table text
    unfolding elements_of
    same_elements text = ap (λ (placed : List Element). split element_text placed element_id 0 text) (placed_still none table.declared)

    -- and the lists that it had
    same_lists : (text : List ℕ) → level_lists more text ≡ level_lists table text
    unfolding level_lists
    same_lists text =
        ap (λ (ids : List Id). level_lists_from table.rules 0 (numbers_at more) ids) (same_elements text)
        ∙ level_lists_same table.rules 0 (numbers_at more) (numbers_at table) (elements_of table text) (elements_of table text) (λ level low high. all_same_numbers level (elements_of table text))

    -- so texts have the order that they had
    same_order : (text other : List ℕ) → order_of more text other ≡ order_of table text other
    unfolding order_of
    same_order text other =
        ap (λ (lists : List (List ℕ)). first_difference lists (level_lists more other)) (same_lists text)
        ∙ ap (first_difference (level_lists table text)) (same_lists other)

-- a name that isn't declared isn't placed
undeclared_unplaced : (table : Collation) → IsWellFormed table → (name : List ℕ) → is_declared table.declared name ≡ false → is_placed table (Named name) ≡ false
undeclared_unplaced table well name absent =
    by_test (λ b. is_placed table (Named name) ≡ b → b ≡ false) (is_placed table (Named name))
    (λ on here. sym (own_declared table.declared name (found_holds same_id same_id_decides (IsKnown table.declared) (ids_of (entries_of table)) (Named name) well.built.known here)) ∙ absent)
    (λ off here. refl) refl

-- a declaration of a new name places no element
places_none : (table : Collation) → IsWellFormed table → (new : Declaration) → is_declared table.declared (name_of new) ≡ false → element_placed table new ≡ []
places_none table well (declaration.Symbol name) absent = refl
places_none table well (declaration.Element name text) absent =
    ap (λ (b : Bool). if b then record { name = name; text = text } ∷ [] else []) (undeclared_unplaced table well name absent)
places_none table well (declaration.Equivalence name symbol) absent = refl

-- texts have the same order by two tables
abbrev AreOrderedAlike : (table after : Collation) → Type 0
AreOrderedAlike table after = (text other : List ℕ) → order_of after text other ≡ order_of table text other

declared_alike : (table after : Collation) → IsWellFormed table → (new : Declaration) → declaration_delta table new ≡ Ok after → AreOrderedAlike table after
declared_alike table after well new e =
    let h = unrefused (declaration_refusal table new) (more table new) after e in
    let absent = (passed (is_declared table.declared (name_of new)) DeclaredTwice _ h.0).0 in
    subst (AreOrderedAlike table) h.1 (same_order table new (places_none table well new absent))

-- a statement that declares alone leaves texts in their order
pub ordered_alike : (table after : Collation) → IsWellFormed table → (s : Statement) → declares_alone s ≡ true → delta table s ≡ Ok after → AreOrderedAlike table after
unfolding delta own_statement own_delta
ordered_alike table after well (statement.Symbol name) alone e = declared_alike table after well (declaration.Symbol name) e
ordered_alike table after well (statement.Element name text) alone e = declared_alike table after well (declaration.Element name text) e
ordered_alike table after well (statement.Equivalence name symbol) alone e = declared_alike table after well (declaration.Equivalence name (named_own table.declared symbol)) e
ordered_alike table after well (statement.Block target lines) alone e = absurd cc
ordered_alike table after well (statement.SectionAfter name behind) alone e = absurd cc
ordered_alike table after well (statement.Reweight line) alone e = absurd cc

-- words that were sorted are sorted still
pub sorted_still : (table after : Collation) → AreOrderedAlike table after → (words : List NumberedWord) → IsSorted (line_order table) words → IsSorted (line_order after) words
sorted_still table after alike words sorted = λ k d low high.
    let next = get_or words (k + 1) d in
    let word = get_or words k d in
    ap (λ (o : Ordering). is_lt (ordering_then o (nat_cmp next.line word.line))) (alike next.text word.text) ∙ sorted k d low high

-- Nothing is new in a list that stays.

or_there : (b a : Bool) → a ≡ true → (b || a) ≡ true
or_there true a there = refl
or_there false a there = there

both_same : (b a : Bool) → b ≡ true → a ≡ true → (b && a) ≡ true
both_same b a on other = ap (λ (c : Bool). c && a) on ∙ other

same_itself : (pair : WordPair) → is_same_pair pair pair ≡ true
same_itself pair = both_same _ _ (eq-eqb pair.0.line pair.0.line refl) (eq-eqb pair.1.line pair.1.line refl)

there_itself : (pair : WordPair) (before later : List WordPair) → list_any (is_same_pair pair) (before ++ pair ∷ later) ≡ true
there_itself pair [] later = ap (λ (b : Bool). b || list_any (is_same_pair pair) later) (same_itself pair)
there_itself pair (first ∷ before) later = or_there (is_same_pair pair first) _ (there_itself pair before later)

none_apart : (before pairs : List WordPair) → filter (λ pair. not (list_any (is_same_pair pair) (before ++ pairs))) pairs ≡ []
none_apart before [] = refl
none_apart before (pair ∷ pairs) =
    ap (λ (b : Bool). if not b then pair ∷ filter (λ other. not (list_any (is_same_pair other) (before ++ pair ∷ pairs))) pairs
    else filter (λ other. not (list_any (is_same_pair other) (before ++ pair ∷ pairs))) pairs) (there_itself pair before pairs)
    ∙ ap (λ (all : List WordPair). filter (λ other. not (list_any (is_same_pair other) all)) pairs) (sym (append_assoc before (pair ∷ []) pairs))
    ∙ none_apart (before ++ pair ∷ []) pairs

-- no pair of a list is new beside itself
pub nothing_new : (words : List NumberedWord) → only_in words words ≡ []
nothing_new words = none_apart [] (neighbours words)
