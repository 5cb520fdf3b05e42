-- The elements of one text, each with its entry, and how the longest element is found by the prefixes of a text.
use Rattle.std.specs.Prelude.{◌≡◌, ◌<◌, ◌+◌, ℕ, zero, suc, List, [], ◌∷◌, ◌++◌, Option, Some, None, chars, length, take}
use Rattle.std.specs.Option.{option_or}
use Rattle.coll_syntax.specs.declared.identifiers.Id.{Id}
use Rattle.coll_syntax.specs.declared.identifiers.Id.TheVariants.{Char}
use Rattle.coll_nodes.specs.ElementTexts.{element_entry}
use Rattle.coll_nodes.specs.Placement.{entry_at}
use Rattle.coll_nodes.specs.Table.{Collation, entries_of}
use Rattle.coll_nodes.specs.declared.entries.Entry.{Entry}
use Rattle.coll_elements.specs.declared.element_entries.FoundPrefix.{FoundPrefix}
use Rattle.coll_elements.specs.declared.element_entries.ElementEntry.{ElementEntry}
use Rattle.coll_elements.specs.declared.element_entries.ElementEntry.TheVariants.{Placed, Absent}

-- this is the element of an identifier: its entry, or a character that has none
abbrev pub IsElementOf : Collation → Id → ElementEntry → Type 0
IsElementOf table id (Placed entry) = entry_at (entries_of table) id ≡ Some entry.now
IsElementOf table id (Absent c) = (id ≡ Char c) × (entry_at (entries_of table) id ≡ None)

-- these are the elements of identifiers, one for each, in order
abbrev pub AreElementsOf : Collation → List Id → List ElementEntry → Type 0
AreElementsOf table [] [] = Unit {0}
AreElementsOf table [] (element ∷ elements) = ⊥
AreElementsOf table (id ∷ ids) [] = ⊥
AreElementsOf table (id ∷ ids) (element ∷ elements) = IsElementOf table id element × AreElementsOf table ids elements

-- an entry with the length of the prefix of a text by which it was found
abbrev pub with_length : Option Entry → (length_of : ℕ) → Option (Entry × ℕ)
with_length None n = None
with_length (Some entry) n = Some (entry, n)

-- of the prefixes of a text up to this length, the longest that has an entry: the entry, and the length of the prefix
abbrev pub longest_prefix : (List ℕ → Option Entry) → (text : List ℕ) → (most : ℕ) → Option (Entry × ℕ)
longest_prefix entry_of text zero = None
longest_prefix entry_of text (suc n) = option_or (with_length (entry_of (take (suc n) text)) (suc n)) (longest_prefix entry_of text n)

-- this is the entry of a prefix of a text, and the text goes on with the rest
pub record IsPrefix (text : List ℕ) (entry : Entry) (size : ℕ) (found : FoundPrefix) : Type 0 where
  pub entry_is : found.entry.now ≡ entry
  pub size_is : size + length (chars found.rest.now) ≡ length text
  pub goes_on : text ≡ take size text ++ chars found.rest.now

-- a prefix is found where there is one
abbrev pub FindsPrefix : (text : List ℕ) → Option (Entry × ℕ) → Option FoundPrefix → Type 0
FindsPrefix text None None = Unit {0}
FindsPrefix text None (Some found) = ⊥
FindsPrefix text (Some prefix) None = ⊥
FindsPrefix text (Some prefix) (Some found) = IsPrefix text prefix.0 prefix.1 found

-- no placed element of a table has a string of more characters than this
abbrev pub HasNoLonger : Collation → (most : ℕ) → Type 0
HasNoLonger table most = (text : List ℕ) → most < length text → element_entry table text ≡ None
