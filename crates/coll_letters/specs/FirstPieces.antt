-- The first element of a text, where elements may begin, and how it is found by the prefixes of the text.
use Rattle.std.specs.Prelude.{◌≡◌, ◌<◌, ◌≤◌, ℕ, List, ◌∷◌, ◌++◌, Option, Some, None, chars, length, take}
use Rattle.coll_syntax.specs.declared.identifiers.Id.TheVariants.{Char}
use Rattle.coll_nodes.specs.ElementTexts.{element_entry}
use Rattle.coll_nodes.specs.Table.{Collation}
use Rattle.coll_nodes.specs.declared.entries.Entry.{Entry}
use Rattle.coll_elements.specs.Elements.{elements_of}
use Rattle.coll_elements.specs.ElementEntries.{longest_prefix}
use Rattle.coll_letters.specs.declared.first_pieces.FirstPiece.{FirstPiece}
use Rattle.coll_letters.specs.declared.first_pieces.FirstPiece.TheVariants.{Letter, Element}
use Rattle.coll_letters.specs.declared.first_pieces.FoundString.{FoundString}

-- a text is cut behind so many characters
pub record IsSplitAt (text : List ℕ) (count : ℕ) (front rest : List ℕ) : Type 0 where
  pub whole : chars text ≡ chars front ++ chars rest
  pub size : length (chars front) ≡ count

-- no prefix of a text that has more characters than this is the string of an element that is placed
abbrev pub HasNoLongerPrefix : Collation → (text : List ℕ) → (most : ℕ) → Type 0
HasNoLongerPrefix table text most = (size : ℕ) → most < size → size ≤ length text → element_entry table (take size text) ≡ None

-- the longest string of an element that is placed and that a text begins with, and the text behind it
pub record IsLongestString (table : Collation) (text : List ℕ) (found : FoundString) : Type 0 where
  pub whole : text ≡ chars found.string.now ++ chars found.rest.now
  pub placed : element_entry table (chars found.string.now) ≡ Some found.entry.now
  pub longest : longest_prefix (element_entry table) text (length text) ≡ Some (found.entry.now, length (chars found.string.now))

-- it is found where there is one
abbrev pub FindsString : Collation → (text : List ℕ) → Option FoundString → Type 0
FindsString table text None = longest_prefix (element_entry table) text (length text) ≡ None
FindsString table text (Some found) = IsLongestString table text found

-- a text begins with a character, which is its first element
pub record BeginsWithLetter (table : Collation) (text : List ℕ) (c : ℕ) (rest : List ℕ) : Type 0 where
  pub elements : elements_of table text ≡ Char c ∷ elements_of table rest
  pub shorter : length rest < length text

-- a text begins with the string of a collating element that is placed, which is its first element
pub record BeginsWithString (table : Collation) (text string rest : List ℕ) : Type 0 where
  pub entry : Entry
  pub placed : element_entry table string ≡ Some entry
  pub elements : elements_of table text ≡ entry.id ∷ elements_of table rest
  pub shorter : length rest < length text

-- this is the first element of a text, and the text goes on with the rest
abbrev pub IsFirstPiece : Collation → (text : List ℕ) → FirstPiece → Type 0
IsFirstPiece table text (Letter c rest) = BeginsWithLetter table text c (chars rest.now)
IsFirstPiece table text (Element string rest) = BeginsWithString table text (chars string.now) (chars rest.now)
