-- What is left of a level's list on the way along it, a step along it, and a difference that was found.
use Rattle.std.specs.Prelude.{ℕ, suc, Bool, true, false, List, [], ◌∷◌, ◌++◌, Option, Some, None, map}
use Rattle.coll_syntax.specs.declared.identifiers.Id.{Id}
use Rattle.coll_syntax.specs.declared.identifiers.Id.TheVariants.{Char}
use Rattle.coll_elements.specs.declared.element_entries.ElementEntry.{ElementEntry}
use Rattle.coll_elements.specs.declared.element_entries.ElementEntry.TheVariants.{Placed, Absent}
use Rattle.coll_key.specs.LevelList.{directed}
use Rattle.coll_explanations.specs.Sources.{Source}
use Rattle.coll_explanations.specs.ToldLists.{Apart, Told, all_items, end_word, gap_words, number_words, told_number}
use Rattle.coll_explanations.specs.declared.differences.Difference.{Difference}
use Rattle.coll_explanations.specs.declared.level_numbers.Step.{Step}

-- the identifier of an element
abbrev pub id_of : ElementEntry → Id
id_of (Placed entry) = entry.now.id
id_of (Absent c) = Char c

-- the items that are left: those that are left of an element, and then those of the elements behind it
abbrev pub sources_left : {P : Type 0} → (P → List Source) → List Source → List P → List (Option Source)
sources_left sources left elements = map Some left ++ all_items sources elements

-- the sources of an element in the direction of a level
abbrev pub directed_sources : {P : Type 0} → (backward : Bool) → (P → List Source) → P → List Source
directed_sources backward sources element = directed backward (sources element)

-- how many gaps an element with these sources is
abbrev pub gap_count : {X : Type 0} → List X → ℕ
gap_count [] = 1
gap_count (x ∷ xs) = 0

-- the number of a step
abbrev pub source_of : Step → Source
source_of step = record { number = step.number; id = step.id.now; element = step.element.now }

-- the position of a step
abbrev pub position_of : Step → Told
position_of step = record { number = step.position; words = gap_words step.position step.element.now }

-- the numbers of a step, before others: its number, with `position` behind its position
abbrev pub before_told : (position : Bool) → Step → List Told → List Told
before_told true step list = position_of step ∷ told_number (source_of step) ∷ list
before_told false step list = told_number (source_of step) ∷ list

-- the place behind a number whose first place is this: with `position` it has two
abbrev pub place_behind : (position : Bool) → (place : ℕ) → ℕ
place_behind true place = suc (suc place)
place_behind false place = suc place

-- the words for what a step has at a place where positions stand, or at another; without a step the list has ended
abbrev pub step_words : (at_position : Bool) → Option Step → List ℕ
step_words at_position None = end_word
step_words true (Some step) = gap_words step.position step.element.now
step_words false (Some step) = number_words step.number step.id.now step.element.now

-- a difference as definitions see it
abbrev pub apart_of : Difference → Apart
apart_of difference =
    record {
      place = difference.place;
      words = step_words difference.at_position difference.step;
      other_words = step_words difference.at_position difference.other;
    }

-- a difference that was found, or else what is found later
abbrev pub apart_or : Option Apart → Option Apart → Option Apart
apart_or None later = later
apart_or (Some apart) later = Some apart
