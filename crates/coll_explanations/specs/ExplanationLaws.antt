-- What follows from the definitions of an explanation: what is told of a level is told of the lists that keys are made of.
use Rattle.std.specs.Prelude.{◌≡◌, ◌≢◌, ◌≤◌, ℕ, suc, ◌-◌, List, ◌∷◌, Option, Some, None, map, take, slice_get}
use Rattle.std.specs.Ordering.{nat_cmp}
use Rattle.std.specs.declared.cmp.Ordering.{Ordering}
use Rattle.std.specs.declared.cmp.Ordering.TheVariants.{Less, Equal, Greater}
use Rattle.coll_syntax.specs.declared.identifiers.Id.{Id}
use Rattle.coll_syntax.specs.declared.rules.Rule.{Rule}
use Rattle.coll_nodes.specs.Table.{Collation}
use Rattle.coll_ranks.specs.WeightNumbers.{numbers_at}
use Rattle.coll_elements.specs.Elements.{elements_of}
use Rattle.coll_key.specs.LevelList.{level_list, level_lists_from}
use Rattle.coll_key.specs.TextOrder.{first_difference, list_order, order_of}
use Rattle.coll_explanations.specs.Explanations.{apart_at}
use Rattle.coll_explanations.specs.Sources.{sources_at}
use Rattle.coll_explanations.specs.ToldLists.{Apart, Told, end_word, told_list}

-- two lists of numbers are the same before a place, counted from 1, and differ there, where one of them may have ended
pub record DifferFirstAt (list other : List ℕ) (place : ℕ) : Type 0 where
  pub counted : 1 ≤ place
  pub same : take (place - 1) list ≡ take (place - 1) other
  pub apart : slice_get list (place - 1) ≢ slice_get other (place - 1)

-- the words of what stands there, if something does
abbrev pub words_or_end : Option Told → List ℕ
words_or_end None = end_word
words_or_end (Some told) = told.words

-- the words that tell what stands at a place, counted from 1
abbrev pub words_there : List Told → (place : ℕ) → List ℕ
words_there list place = words_or_end (slice_get list (place - 1))

-- the order of what stands at a place of two lists: that of the numbers; a list that has ended is less
abbrev pub order_there : Option ℕ → Option ℕ → Ordering
order_there None None = Equal
order_there None (Some n) = Less
order_there (Some n) None = Greater
order_there (Some n) (Some m) = nat_cmp n m

-- what is told of two lists: nothing where their numbers are the same, and else the first place at which they differ, and what stands
-- there, which decides the order of the lists
abbrev pub TellsFirst : (numbers other_numbers : List ℕ) → (list other : List Told) → Option Apart → Type 0
TellsFirst numbers other_numbers list other None = numbers ≡ other_numbers
TellsFirst numbers other_numbers list other (Some apart) =
    DifferFirstAt numbers other_numbers apart.place × (apart.words ≡ words_there list apart.place)
    × (apart.other_words ≡ words_there other apart.place)
    × (list_order numbers other_numbers ≡ order_there (slice_get numbers (apart.place - 1)) (slice_get other_numbers (apart.place - 1)))

-- the numbers that are told of a level are its list, from which keys are made
abbrev pub ToldNumbersAreListed : Type 0
ToldNumbersAreListed = (table : Collation) (level : ℕ) (rule : Rule) (elements : List Id)
    → map (λ (told : Told). told.number) (told_list rule (sources_at table level) elements)
    ≡ level_list rule (numbers_at table level) elements

-- of each level is told whether its lists are the same, and else the first place at which they differ, and what stands there, which
-- decides
abbrev pub FirstDifferencesAreTold : Type 0
FirstDifferencesAreTold = (table : Collation) (level : ℕ) (rule : Rule) (elements others : List Id)
    → TellsFirst (level_list rule (numbers_at table level) elements) (level_list rule (numbers_at table level) others)
    (told_list rule (sources_at table level) elements) (told_list rule (sources_at table level) others)
    (apart_at table level rule elements others)

-- the order of two texts with these elements, by the levels with these rules, from a level on
abbrev pub order_from : Collation → (level : ℕ) → List Rule → (elements others : List Id) → Ordering
order_from table level rules elements others =
    first_difference (level_lists_from rules level (numbers_at table) elements) (level_lists_from rules level (numbers_at table) others)

-- what an order is by what is told of its first level: that of the later levels where nothing is told, and else that of what stands at
-- the place that is told
abbrev pub DecidedBy : (numbers other_numbers : List ℕ) → (order later : Ordering) → Option Apart → Type 0
DecidedBy numbers other_numbers order later None = order ≡ later
DecidedBy numbers other_numbers order later (Some apart) =
    order ≡ order_there (slice_get numbers (apart.place - 1)) (slice_get other_numbers (apart.place - 1))

-- a level that is told as equal leaves the order to those behind it, and one that isn't decides
abbrev pub ToldLevelsDecide : Type 0
ToldLevelsDecide = (table : Collation) (level : ℕ) (rule : Rule) (rules : List Rule) (elements others : List Id)
    → DecidedBy (level_list rule (numbers_at table level) elements) (level_list rule (numbers_at table level) others)
    (order_from table level (rule ∷ rules) elements others) (order_from table (suc level) rules elements others)
    (apart_at table level rule elements others)

-- the order of two texts is that by all levels
abbrev pub OrdersAreOfLevels : Type 0
OrdersAreOfLevels = (table : Collation) (text other : List ℕ)
    → order_of table text other ≡ order_from table 0 table.rules (elements_of table text) (elements_of table other)
