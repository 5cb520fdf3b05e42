-- Placed elements in the order of their strings: the last string that a text begins with is the longest.
--
-- Strings are lists of bytes here, since texts are compared so.
use Rattle.std.specs.Prelude.{◌≡◌, ◌<◌, ◌≤◌, ℕ, ◌-◌, Bool, true, false, List, map, length, slice_index_or, []}
use Rattle.std.specs.Prelude.{chars, encode_utf8_all}
use Rattle.std.specs.Str.{IsUtf8}
use Rattle.std.specs.Ordering.{is_lt, nat_cmp}
use Rattle.std.specs.Cmp.Lexicographic.{slice_cmp}
use denote.Ref.{Bor}
use Rattle.coll_elements.specs.Elements.{begins_with}
use Rattle.coll_elements.specs.RankedElements.{RankedElement, ranked_text}
use Rattle.coll_elements.specs.declared.element_order.OrderedElement.{OrderedElement}

-- the first character of a string; an empty one has none, and no code point is this
abbrev pub first_of : List ℕ → ℕ
first_of string = slice_index_or string 0 4_294_967_296

-- a string stands before another
abbrev pub stands_before : (string other : List ℕ) → Bool
stands_before string other = is_lt (slice_cmp nat_cmp string other)

-- the string at a place
abbrev pub string_there : List (List ℕ) → ℕ → List ℕ
string_there strings place = slice_index_or strings place []

-- no string stands before an earlier one
abbrev pub AreAscending : List (List ℕ) → Type 0
AreAscending strings = (earlier place : ℕ) → earlier ≤ place → place < length strings
    → stands_before (string_there strings place) (string_there strings earlier) ≡ false

-- of the first strings, as many as the bound says, the last that a text begins with is the last among so many
pub record IsLastBegun (strings : List (List ℕ)) (text : List ℕ) (bound among : ℕ) : Type 0 where
  pub within : among ≤ bound
  pub begun : 0 < among → begins_with text (string_there strings (among - 1)) ≡ true
  pub apart : (place : ℕ) → among ≤ place → place < bound → begins_with text (string_there strings place) ≡ false

-- with each string stands among how many the last one is that it begins with, of those before it
abbrev pub AreLinked : (strings : List (List ℕ)) → (links : List ℕ) → Type 0
AreLinked strings links = (place : ℕ) → place < length strings
    → IsLastBegun strings (string_there strings place) place (slice_index_or links place 0)

-- what begins with a character stands between its start and its end
abbrev pub AreBetween : (firsts starts ends : List ℕ) → Type 0
AreBetween firsts starts ends =
    (first place : ℕ) → place < length firsts → slice_index_or firsts place 4_294_967_296 ≡ first → (slice_index_or starts first 0 ≤ place)
    × (place < slice_index_or ends first 0)

-- the strings of elements, their links, their first characters and their places in the order of the declarations
abbrev pub strings_in : List OrderedElement → List (List ℕ)
strings_in ordered = map (λ (element : OrderedElement). encode_utf8_all element.text) ordered

abbrev pub links_in : List OrderedElement → List ℕ
links_in ordered = map (λ (element : OrderedElement). element.among) ordered

abbrev pub firsts_in : List OrderedElement → List ℕ
firsts_in ordered = map (λ (element : OrderedElement). first_of element.text) ordered

abbrev pub places_in : List OrderedElement → List ℕ
places_in ordered = map (λ (element : OrderedElement). element.place) ordered

-- bytes spell a string that has a character, and this is its first
pub record IsString (bytes : List ℕ) (first : ℕ) : Type 0 where
  pub utf8 : IsUtf8 bytes
  pub some : 0 < length (chars bytes)
  pub first_is : first_of (chars bytes) ≡ first

-- bytes spell the string of an element, which has a character
pub record IsSpelled (ranked : RankedElement) (bytes : List ℕ) : Type 0 where
  pub utf8 : IsUtf8 bytes
  pub is : chars bytes ≡ ranked_text ranked
  pub some : 0 < length (ranked_text ranked)

-- the elements are in order, linked, and found by their first characters
pub record IsOrder (ordered : List OrderedElement) (starts ends : List ℕ) : Type 0 where
  pub ascending : AreAscending (strings_in ordered)
  pub strings : (place : ℕ) → place < length ordered
      → IsString (string_there (strings_in ordered) place) (slice_index_or (firsts_in ordered) place 4_294_967_296)
  pub linked : AreLinked (strings_in ordered) (links_in ordered)
  pub between : AreBetween (firsts_in ordered) starts ends
  pub bounded : (first : ℕ) → (slice_index_or starts first 0 ≤ slice_index_or ends first 0) × (slice_index_or ends first 0 ≤ length ordered)

-- strings are those of elements at these places: each string is that of its element; each element has one; and of alike strings
-- the later has the later place
pub record AreStringsOf (elements : List RankedElement) (strings : List (List ℕ)) (places : List ℕ) : Type 0 where
  pub counted : length places ≡ length strings
  pub each : (at : ℕ) (ranked : RankedElement) → at < length strings → ranked ≡ slice_index_or elements (slice_index_or places at 0) ranked
      → IsSpelled ranked (string_there strings at)
  pub within : (at : ℕ) → at < length strings → slice_index_or places at 0 < length elements
  pub every : (place : ℕ) → place < length elements → (at : ℕ) × (at < length strings) × (slice_index_or places at 0 ≡ place)
  pub alike : (earlier at : ℕ) → earlier ≤ at → at < length strings → string_there strings earlier ≡ string_there strings at
      → slice_index_or places earlier 0 ≤ slice_index_or places at 0

-- the strings of numbered strings, and their numbers
abbrev pub texts_of : List (Bor (List ℕ) × ℕ) → List (List ℕ)
texts_of numbered = map (λ (string : Bor (List ℕ) × ℕ). string.0.now) numbered

abbrev pub numbers_of : List (Bor (List ℕ) × ℕ) → List ℕ
numbers_of numbered = map (λ (string : Bor (List ℕ) × ℕ). string.1) numbered

-- these are the strings of the first elements, as many as this, each with the place of its element
pub record AreNumbered (elements : List RankedElement) (count : ℕ) (numbered : List (Bor (List ℕ) × ℕ)) : Type 0 where
  pub counted : length numbered ≡ count
  pub each : (place : ℕ) (ranked : RankedElement) → place < count → ranked ≡ slice_index_or elements place ranked
      → IsSpelled ranked (string_there (texts_of numbered) place)
  pub numbers : (place : ℕ) → place < count → slice_index_or (numbers_of numbered) place 0 ≡ place
