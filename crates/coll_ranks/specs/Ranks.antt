-- The ranks of a table, compiled: what their look-ups find, and when they are those of a table.
use Rattle.std.specs.Prelude.{◌≡◌, ℕ, zero, suc, ◌+◌, ◌*◌, false, if◌then◌else◌, List, [], ◌∷◌}
use Rattle.std.specs.Prelude.{◌++◌, Option, Some, None, length, map, slice_index_or}
use Rattle.std.specs.List.{flat_map}
use Rattle.coll_syntax.specs.declared.identifiers.Id.{Id}
use Rattle.coll_syntax.specs.declared.identifiers.Id.TheVariants.{Char, Named, Undefined}
use Rattle.coll_syntax.specs.declared.weights.Weight.{Weight}
use Rattle.coll_syntax.specs.declared.weights.Weight.TheVariants.{Ignore, Own, Names}
use Rattle.coll_syntax.specs.Weights.{is_own}
use Rattle.coll_lookups.specs.NamePlaces.{NamePlacesValue, place_named}
use Rattle.coll_nodes.specs.Table.{Collation, entries_of}
use Rattle.coll_nodes.specs.declared.entries.Entry.{Entry}
use Rattle.coll_elements.specs.Elements.{elements_placed, split}
use Rattle.coll_elements.specs.Rank.{rank_of, known_rank}
use Rattle.coll_elements.specs.RankedElements.{RankedElement, ranked_text, ranked_in}
use Rattle.coll_ranks.specs.RankLists.{WeightsValue}
use Rattle.coll_ranks.specs.WeightNumbers.{number_of, undefined_weights}
use Rattle.coll_ranks.specs.declared.text_elements.TextElement.{TextElement}
use Rattle.coll_ranks.specs.declared.text_elements.TextElement.TheVariants.{Placed, Absent}

-- the ranks of identifiers: the places of names, a list with a number for each code point, 0 for a character that has none, and the
-- rank of UNDEFINED
pub record RanksById : Type 0 where
  pub names : NamePlacesValue
  pub characters : List ℕ
  pub undefined : ℕ

-- the ranks of a table as contracts see them: those of identifiers, the placed elements, and the compiled weights
pub record RanksValue : Type 0 where
  pub ids : RanksById
  pub elements : List RankedElement
  pub compiled : WeightsValue

-- What look-ups find.

-- a number as a rank; 0 is none
abbrev pub rank_if_any : ℕ → Option ℕ
rank_if_any zero = None
rank_if_any (suc n) = Some (suc n)

-- the rank of a character
abbrev pub rank_of_char : List ℕ → ℕ → Option ℕ
rank_of_char characters c = rank_if_any (slice_index_or characters c 0)

-- the rank of an identifier
abbrev pub rank_with : RanksById → Id → Option ℕ
rank_with ids (Char c) = rank_of_char ids.characters c
rank_with ids (Named name) = place_named ids.names name
rank_with ids Undefined = Some ids.undefined

-- the compiled weight at a level of what has this rank; 0 stands for what has no entry
abbrev pub compiled_weight : WeightsValue → (rank : ℕ) → (level : ℕ) → List ℕ
compiled_weight weights rank level = slice_index_or weights.lists (rank * weights.levels + level) []

-- the number that a rank in a weight of an element has, with what is added to it
abbrev pub added_to : ℕ → ℕ → ℕ
added_to added rank = number_of rank + added

-- what is added for a character without an entry, where UNDEFINED stands for itself
abbrev pub added_at : WeightsValue → (level : ℕ) → ℕ → ℕ
added_at weights level c = if slice_index_or weights.own level false then c else 0

-- the numbers of an element of a text at a level
abbrev pub compiled_numbers : WeightsValue → (level : ℕ) → TextElement → List ℕ
compiled_numbers weights level (Placed rank) = map (added_to 0) (compiled_weight weights rank level)
compiled_numbers weights level (Absent c) = map (added_to (added_at weights level c)) (compiled_weight weights 0 level)

-- the element that a character with this rank is, if it has one
abbrev pub character_element : Option ℕ → ℕ → TextElement
character_element None c = Absent c
character_element (Some rank) c = Placed rank

-- an element of a text: a collating element, or else the character
abbrev pub element_with : RanksById → Option RankedElement → ℕ → TextElement
element_with ids (Some ranked) c = Placed ranked.rank
element_with ids None c = character_element (rank_with ids (Char c)) c

-- the elements of a text behind this many characters
abbrev pub elements_behind : RanksValue → (skipped : ℕ) → List ℕ → List TextElement
elements_behind ranks skipped text = split ranked_text ranks.elements (element_with ranks.ids) skipped text

-- the elements of a text, by their ranks
unfoldable pub elements_by_ranks : RanksValue → List ℕ → List TextElement
elements_by_ranks ranks text = elements_behind ranks 0 text

-- When they are those of a table.

-- the compiled weight of an identifier: the ranks of what it names
abbrev pub compiled_by : (Id → ℕ) → Id → Weight → List ℕ
compiled_by rank id Ignore = []
compiled_by rank id Own = rank id ∷ []
compiled_by rank id (Names ids) = map rank ids

-- so many of these lists, and empty ones where there are no more
abbrev pub filled_up : ℕ → List (List ℕ) → List (List ℕ)
filled_up zero lists = []
filled_up (suc count) [] = [] ∷ filled_up count []
filled_up (suc count) (list ∷ lists) = list ∷ filled_up count lists

-- the compiled weights of an identifier, as many as there are levels
abbrev pub compiled_row_by : (Id → ℕ) → (levels : ℕ) → Id → List Weight → List (List ℕ)
compiled_row_by rank levels id weights = filled_up levels (map (compiled_by rank id) weights)

-- the compiled weights of an entry
abbrev pub compiled_entry : (Id → ℕ) → (levels : ℕ) → Entry → List (List ℕ)
compiled_entry rank levels entry = compiled_row_by rank levels entry.id entry.weights

-- the compiled weights of a table: those of UNDEFINED, and then those of each entry
abbrev pub compiled_weights : Collation → List (List ℕ)
compiled_weights table =
    compiled_row_by (known_rank table) (length table.rules) Undefined (undefined_weights table)
    ++ flat_map (compiled_entry (known_rank table) (length table.rules)) (entries_of table)

-- ranks are those of a table: they have its levels, each identifier has its rank in the table, they have its placed elements
-- and its compiled weights, and they know where UNDEFINED stands for itself
pub record AreRanksOf (ranks : RanksValue) (table : Collation) : Type 0 where
  pub levels : ranks.compiled.levels ≡ length table.rules
  pub identifiers : (id : Id) → rank_with ranks.ids id ≡ rank_of table id
  pub elements : ranks.elements ≡ map (ranked_in table) (elements_placed table)
  pub weights : ranks.compiled.lists ≡ compiled_weights table
  pub own : ranks.compiled.own ≡ map is_own (undefined_weights table)
