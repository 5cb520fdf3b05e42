-- Placed elements as they are kept, each with its name, and what is found of one.
use Rattle.std.specs.Prelude.{◌≡◌, ◌<◌, ℕ, if◌then◌else◌, List, ◌++◌, Option, Some, None, map, length, chars, slice_get}
use Rattle.std.specs.List.{All}
use Rattle.std.specs.Option.{option_map}
use Rattle.coll_elements.specs.Elements.{begins_with}
use Rattle.coll_elements.specs.NameMaps.{NamedNumber, number_named}
use Rattle.coll_elements.specs.RankedElements.{RankedElement, ranked_text, last_string}
use Rattle.coll_elements.specs.declared.named_elements.PlacedElement.{PlacedElement}
use Rattle.coll_elements.specs.declared.named_elements.FoundElement.{FoundElement}

-- an element with its rank
abbrev pub ranked_element : (name text : List ℕ) → (rank : ℕ) → RankedElement
ranked_element name text rank = record { element = record { name = name; text = text }; rank = rank }

-- a kept element as contracts see it
abbrev pub kept_element : PlacedElement → RankedElement
kept_element kept = ranked_element kept.name kept.text kept.rank

-- kept elements as contracts see them
abbrev pub elements_in : List PlacedElement → List RankedElement
elements_in kept = map kept_element kept

-- the string of the element at a place, if there is one
abbrev pub string_at : List PlacedElement → Option ℕ → Option (List ℕ)
string_at kept None = None
string_at kept (Some place) = option_map (λ (element : PlacedElement). element.text) (slice_get kept place)

-- an element knows the length of its string, which has a character
pub record IsKeptWell (element : PlacedElement) : Type 0 where
  pub length_is : element.length ≡ length element.text
  pub some : 0 < length element.text

-- elements are kept well, and names lead to their elements
pub record AreNamed (kept : List PlacedElement) (places : List NamedNumber) : Type 0 where
  pub each : All IsKeptWell kept
  pub bounds : (name : List ℕ) (place : ℕ) → number_named places name ≡ Some place → place < length kept
  pub named : (name : List ℕ) → string_at kept (number_named places name) ≡ last_string (elements_in kept) name

-- this is an element with its rank
pub record IsKept (name text : List ℕ) (rank : ℕ) (element : PlacedElement) : Type 0 where
  pub name_is : element.name ≡ name
  pub text_is : element.text ≡ text
  pub length_is : element.length ≡ length text
  pub rank_is : element.rank ≡ rank

-- a text begins with an element, and goes on behind it
pub record IsFound (ranked : RankedElement) (text : List ℕ) (found : FoundElement) : Type 0 where
  pub rank : found.rank ≡ ranked.rank
  pub length_is : found.length ≡ length (ranked_text ranked)
  pub some : 0 < length (ranked_text ranked)
  pub goes_on : text ≡ ranked_text ranked ++ chars found.rest.now

-- an element is found where there is one
abbrev pub Finds : Option RankedElement → List ℕ → Option FoundElement → Type 0
Finds None text found = found ≡ None
Finds (Some ranked) text None = ⊥
Finds (Some ranked) text (Some found) = IsFound ranked text found

-- an element, if a text begins with it
abbrev pub if_begun : List ℕ → RankedElement → Option RankedElement
if_begun text ranked = if begins_with text (ranked_text ranked) then Some ranked else None
