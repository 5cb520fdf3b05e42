-- The list of a level, where each number is told with where it comes from, and where two such lists differ first.
use Rattle.std.specs.Prelude.{ℕ, suc, ◌==◌, if◌then◌else◌, Bool, true, false, List, [], ◌∷◌, ◌++◌, Option, Some, None, codes, decimal, map}
use Rattle.std.specs.List.{flat_map}
use Rattle.coll_lex.specs.Characters.{space}
use Rattle.coll_syntax.specs.declared.identifiers.Id.{Id}
use Rattle.coll_syntax.specs.declared.rules.Rule.{Rule}
use Rattle.coll_texts.specs.PrintedParts.{id_bytes}
use Rattle.coll_key.specs.LevelList.{directed}
use Rattle.coll_key.specs.WrittenKey.{number_word}
use Rattle.coll_explanations.specs.Sources.{Source}

-- The words.

-- a number as in a written key, the identifier that has its rank, and the element that it comes from
abbrev pub number_words : (number : ℕ) → (id element : Id) → List ℕ
number_words number id element = number_word number ++ (space ∷ (id_bytes id ++ (codes " of " ++ id_bytes element)))

-- a position, and the element before which it stands
abbrev pub gap_words : (position : ℕ) → (element : Id) → List ℕ
gap_words position element = codes "gap " ++ (decimal position ++ (codes " before " ++ id_bytes element))

-- the word for a list that has ended
abbrev pub end_word : List ℕ
end_word = codes "end"

-- The list of a level.

-- what stands at a place of a list: a number, and the words that tell it
pub record Told : Type 0 where
  pub number : ℕ
  pub words : List ℕ

-- a number
abbrev pub told_number : Source → Told
told_number source = record { number = source.number; words = number_words source.number source.id source.element }

-- what stands before a number: with `position`, one more than the gaps before it
abbrev pub told_position : (position : Bool) → (gaps : ℕ) → Source → List Told
told_position true gaps source = record { number = suc gaps; words = gap_words (suc gaps) source.element } ∷ []
told_position false gaps source = []

-- the numbers of an element as items of a sequence; where it has none it is a gap
abbrev pub source_items : List Source → List (Option Source)
source_items [] = None ∷ []
source_items (source ∷ sources) = map Some (source ∷ sources)

-- the items of all elements, in order, where this gives the numbers of one
abbrev pub all_items : {P : Type 0} → (P → List Source) → List P → List (Option Source)
all_items sources elements = flat_map (λ element. source_items (sources element)) elements

-- the numbers of a sequence, each behind its position, where so many gaps came since the last one
abbrev pub told_from : (position : Bool) → (gaps : ℕ) → List (Option Source) → List Told
told_from position gaps [] = []
told_from position gaps (None ∷ sequence) = told_from position (suc gaps) sequence
told_from position gaps (Some source ∷ sequence) = told_position position gaps source ++ told_number source ∷ told_from position 0 sequence

-- the list of a level with this rule, where this gives the numbers of an element
abbrev pub told_list : {P : Type 0} → Rule → (P → List Source) → List P → List Told
told_list rule sources elements = told_from rule.position 0 (directed rule.backward (all_items sources elements))

-- Where two lists differ.

-- a place, counted from 1, and the words that tell what stands there in either list
pub record Apart : Type 0 where
  pub place : ℕ
  pub words : List ℕ
  pub other_words : List ℕ

-- the first place at which two lists differ, where this is the number of the first place
abbrev pub first_apart : (place : ℕ) → (list other : List Told) → Option Apart
first_apart place [] [] = None
first_apart place (told ∷ list) [] = Some (record { place = place; words = told.words; other_words = end_word })
first_apart place [] (told ∷ other) = Some (record { place = place; words = end_word; other_words = told.words })
first_apart place (told ∷ list) (opposite ∷ other) =
    if told.number == opposite.number then first_apart (suc place) list other
    else Some (record { place = place; words = told.words; other_words = opposite.words })
