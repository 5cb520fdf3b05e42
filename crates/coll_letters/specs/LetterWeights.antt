-- What characters weigh in a table, kept for the characters of words alone.
use Rattle.std.specs.Prelude.{◌≡◌, ◌<◌, ◌≤◌, ◌+◌, ℕ, Bool, false, true, List, [], ◌∷◌, ◌++◌, Option, All, length, map, chars}
use Rattle.std.specs.List.{flat_map}
use Rattle.std.specs.Ordering.{is_lt}
use Rattle.std.specs.declared.cmp.Ordering.{Ordering}
use Rattle.std.specs.declared.cmp.Ordering.TheVariants.{Equal}
use Rattle.coll_syntax.specs.declared.identifiers.Id.TheVariants.{Char}
use Rattle.coll_syntax.specs.declared.rules.Rule.{Rule}
use Rattle.coll_nodes.specs.Table.{Collation}
use Rattle.coll_elements.specs.Elements.{elements_of}
use Rattle.coll_ranks.specs.LevelWeights.{row_numbers}
use Rattle.coll_ranks.specs.RankLists.{WeightsValue}
use Rattle.coll_ranks.specs.WeightNumbers.{numbers_at}
use Rattle.coll_ranks.specs.declared.text_elements.ElementRow.{ElementRow}
use Rattle.coll_key.specs.LevelList.{items_of, level_list, listed}
use Rattle.coll_key.specs.TextOrder.{list_order}
use Rattle.coll_letters.specs.ElementMarks.{AreMarks}
use Rattle.coll_letters.specs.FirstNumbers.{AreFirstNumbers}
use Rattle.coll_letters.specs.StringRows.{AreStringRows}
use Rattle.coll_letters.specs.declared.letter_weights.FirstLetter.{FirstLetter}
use Rattle.coll_letters.specs.declared.letter_weights.LetterRow.{LetterRow}
use Rattle.coll_letters.specs.declared.letter_weights.LetterStep.{LetterStep}
use Rattle.coll_letters.specs.declared.letter_weights.LetterStep.TheVariants.{Decided, Later, PassedFirst, PassedSecond, Unknown}
use Rattle.coll_letters.specs.declared.letter_weights.LetterWeights.{LetterWeights}

-- a row has the numbers of a character
pub record IsRowOf (table : Collation) (weights : WeightsValue) (c : ℕ) (row : ElementRow) : Type 0 where
  pub numbers : (level : ℕ) → level < length table.rules → row_numbers weights level row ≡ numbers_at table level (Char c)

-- a character with its row
abbrev pub IsLetterRow : Collation → WeightsValue → LetterRow → Type 0
IsLetterRow table weights entry = IsRowOf table weights entry.letter entry.row

-- the rows that are kept are those of their characters and strings, and so are the numbers of the first level; and the marks are those of the table
pub record AreLetterWeights (table : Collation) (weights : LetterWeights) : Type 0 where
  pub rows : All (IsLetterRow table weights.made.weights) weights.rows.items
  pub strings : AreStringRows table weights.made.weights weights.strings
  pub firsts : AreFirstNumbers table weights.firsts
  pub marks : AreMarks table weights.marks

-- the numbers of a text's elements at a level, element by element
abbrev pub text_numbers : Collation → (level : ℕ) → List ℕ → List (List ℕ)
text_numbers table level text = map (numbers_at table level) (elements_of table text)

-- a text begins with an element that has this row, and goes on with the rest
pub record IsFirstLetter (table : Collation) (weights : WeightsValue) (text : List ℕ) (first : FirstLetter) : Type 0 where
  pub numbers : (level : ℕ) → level < length table.rules
      → text_numbers table level text ≡ row_numbers weights level first.row ∷ text_numbers table level (chars first.rest.now)
  pub shorter : length (chars first.rest.now) < length text

-- the numbers and gaps of a text at a level, in order
abbrev pub text_items : Collation → (level : ℕ) → List ℕ → List (Option ℕ)
text_items table level text = flat_map items_of (text_numbers table level text)

-- the list of a text at a level that is looked at from the front, where so many gaps came before the text
abbrev pub list_behind : Collation → (level : ℕ) → (position : Bool) → (gaps : ℕ) → (text : List ℕ) → List ℕ
list_behind table level position gaps text = listed position gaps (text_items table level text)

-- the order of two texts at such a level
abbrev pub order_behind : Collation → (level : ℕ) → (position : Bool) → (gaps : ℕ) → (text other : List ℕ) → Ordering
order_behind table level position gaps text other = list_order (list_behind table level position gaps text) (list_behind table level position gaps other)

-- a level orders two texts as it orders two others, whatever gaps came before: behind the others' own beginning there are perhaps more
abbrev pub OrdersAlikeAt : Collation → (level : ℕ) → (position : Bool) → (text other later others : List ℕ) → Type 0
OrdersAlikeAt table level position text other later others =
    (gaps : ℕ) → (after : ℕ) × (order_behind table level position gaps text other ≡ order_behind table level position after later others)

-- the same with positions and without
abbrev pub OrdersAlike : Collation → (level : ℕ) → (text other later others : List ℕ) → Type 0
OrdersAlike table level text other later others = (position : Bool) → OrdersAlikeAt table level position text other later others

-- a level orders two texts so, whatever gaps came before
abbrev pub OrdersSo : Collation → (level : ℕ) → (text other : List ℕ) → Ordering → Type 0
OrdersSo table level text other order = (position : Bool) (gaps : ℕ) → order ≡ order_behind table level position gaps text other

-- a level with this rule orders two texts so
abbrev pub IsLevelOrder : Collation → (level : ℕ) → Rule → (text other : List ℕ) → Ordering → Type 0
IsLevelOrder table level rule text other order =
    order ≡ list_order (level_list rule (numbers_at table level) (elements_of table text)) (level_list rule (numbers_at table level) (elements_of table other))

-- a step along two texts at a level: their first characters decide, or what comes later does
pub record GoesOn (table : Collation) (level : ℕ) (text other later others : List ℕ) : Type 0 where
  pub same : OrdersAlike table level text other later others
  pub shorter : length later < length text
  pub shorter_other : length others ≤ length other

-- or one of them is passed, which is ignored there
pub record Passes (table : Collation) (level : ℕ) (position : Bool) (text other later others : List ℕ) : Type 0 where
  pub same : OrdersAlikeAt table level position text other later others
  pub shorter : length later + length others < length text + length other

abbrev pub IsStep : Collation → (level : ℕ) → (position : Bool) → (text other : List ℕ) → LetterStep → Type 0
IsStep table level position text other (Decided order) = OrdersSo table level text other order
IsStep table level position text other (Later later others) = GoesOn table level text other (chars later.now) (chars others.now)
IsStep table level position text other (PassedFirst later) = Passes table level position text other (chars later.now) other
IsStep table level position text other (PassedSecond others) = Passes table level position text other text (chars others.now)
IsStep table level position text other Unknown = Unit {0}

-- the numbers of two elements decide the order of what begins with them
abbrev pub DecidesBoth : (numbers others : List ℕ) → Ordering → Type 0
DecidesBoth numbers others order =
    (position : Bool) (gaps : ℕ) (later later_others : List (Option ℕ))
    → order ≡ list_order (listed position gaps (items_of numbers ++ later)) (listed position gaps (items_of others ++ later_others))

-- or they leave it to what comes later
pub record LeavesBoth (numbers others : List ℕ) (first second : FirstLetter) (rest other_rest : List ℕ) : Type 0 where
  pub same : (position : Bool) (gaps : ℕ) (later later_others : List (Option ℕ))
      → list_order (listed position gaps (items_of numbers ++ later)) (listed position gaps (items_of others ++ later_others))
      ≡ list_order (listed position 0 later) (listed position 0 later_others)
  pub rest_is : rest ≡ first.rest.now
  pub other_is : other_rest ≡ second.rest.now

-- or one of them has none, and gaps aren't looked at
pub record PassesOne (position : Bool) (numbers : List ℕ) (first : FirstLetter) (rest : List ℕ) : Type 0 where
  pub none : numbers ≡ []
  pub plain : position ≡ false
  pub rest_is : rest ≡ first.rest.now

abbrev pub IsStepOfBoth : (position : Bool) → (numbers others : List ℕ) → (first second : FirstLetter) → LetterStep → Type 0
IsStepOfBoth position numbers others first second (Decided order) = DecidesBoth numbers others order
IsStepOfBoth position numbers others first second (Later later rest) = LeavesBoth numbers others first second later.now rest.now
IsStepOfBoth position numbers others first second (PassedFirst later) = PassesOne position numbers first later.now
IsStepOfBoth position numbers others first second (PassedSecond rest) = PassesOne position others second rest.now
IsStepOfBoth position numbers others first second Unknown = Unit {0}

-- the order of a list and an empty one, where this is that of a longer list and an empty one
abbrev pub order_at_end : (wanted : Ordering) → List ℕ → Ordering
order_at_end wanted [] = Equal
order_at_end wanted (number ∷ numbers) = wanted

-- or its first character is passed, which has no number there: it is the second text's where the first one would be less
pub record PassesAtEnd (table : Collation) (level : ℕ) (position : Bool) (text later : List ℕ) (wanted : Ordering) (is_less : Bool) : Type 0 where
  pub same : (gaps : ℕ) → list_behind table level position gaps text ≡ list_behind table level position gaps later
  pub shorter : length later < length text
  pub side : is_lt wanted ≡ is_less

-- where another text has ended, the order is this if this one has numbers at a level
abbrev pub IsStepAtEnd : Collation → (level : ℕ) → (position : Bool) → (text : List ℕ) → Ordering → LetterStep → Type 0
IsStepAtEnd table level position text wanted (Decided order) =
    (plain : Bool) (gaps : ℕ) → order ≡ order_at_end wanted (list_behind table level plain gaps text)
IsStepAtEnd table level position text wanted (Later later rest) = ⊥
IsStepAtEnd table level position text wanted (PassedFirst later) = PassesAtEnd table level position text (chars later.now) wanted false
IsStepAtEnd table level position text wanted (PassedSecond rest) = PassesAtEnd table level position text (chars rest.now) wanted true
IsStepAtEnd table level position text wanted Unknown = Unit {0}
