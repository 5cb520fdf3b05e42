-- Which characters stand first in the strings of the elements of a table, which pairs of characters, and how many characters follow.
use Rattle.std.specs.Prelude.{◌≡◌, ◌⊎◌, ◌<◌, ◌≤◌, ◌+◌, ◌*◌, ◌%◌, ℕ, suc, List, [], ◌∷◌, Option, None, Ok, false, length, slice_index_or, IfSome}
use Rattle.coll_syntax.specs.declared.statements.Statement.{Statement}
use Rattle.coll_nodes.specs.Table.{Collation}
use Rattle.coll_nodes.specs.declared.declarations.Declaration.{Declaration}
use Rattle.coll_nodes.specs.declared.declarations.Declaration.TheVariants as declaration
use Rattle.coll_elements.specs.Elements.{begins_with, element_text, elements_placed, longest}
use Rattle.coll_table.specs.Delta.{delta}
use Rattle.coll_letters.specs.declared.element_marks.ElementMarks.{ElementMarks}

-- no collating element that is placed begins with a character that this text follows
abbrev pub StandsAlone : Collation → ℕ → (rest : List ℕ) → Type 0
StandsAlone table c rest = longest element_text (elements_placed table) (c ∷ rest) ≡ None

-- what is declared is no element that a text begins with
abbrev pub BeginsOther : (text : List ℕ) → Declaration → Type 0
BeginsOther text (declaration.Symbol name) = Unit {0}
BeginsOther text (declaration.Equivalence name symbol) = Unit {0}
BeginsOther text (declaration.Element name string) = begins_with text string ≡ false

-- the place of the mark of two characters that stand one behind the other; other pairs may have the same one
abbrev pub place_of_pair : (first second : ℕ) → ℕ
place_of_pair first second = (first * 61 + second) % 4_096

-- the mark of two characters: how many characters the longest string has that begins with them, or with others of the same place
abbrev pub pair_mark : ElementMarks → (first second : ℕ) → ℕ
pair_mark marks first second = slice_index_or marks.pairs.items (place_of_pair first second) 0

-- a text goes on with a character that is marked as second in no string that begins so, or not at all
abbrev pub GoesOnOther : ElementMarks → ℕ → (rest : List ℕ) → Type 0
GoesOnOther marks c [] = Unit {0}
GoesOnOther marks c (d ∷ rest) = pair_mark marks c d ≡ 0

-- no string of an element with which a text begins has more characters than this, by the marks
abbrev pub IsMostAt : ElementMarks → ℕ → (rest : List ℕ) → (most : ℕ) → Type 0
IsMostAt marks c [] most = 1 ≤ most
IsMostAt marks c (d ∷ rest) most = (1 ≤ most) × (pair_mark marks c d ≤ most)

-- by the marks no element begins with a character that this text follows
abbrev pub IsApart : ElementMarks → ℕ → (rest : List ℕ) → Type 0
IsApart marks c rest =
    (slice_index_or marks.firsts c 0 ≡ 0) ⊎ ((slice_index_or marks.firsts c 0 < 2) × GoesOnOther marks c rest)

-- behind a place a text goes on with a byte that is a character by itself and is marked as second in no string that begins so, or not at all
abbrev pub GoesOnOtherAt : ElementMarks → (bytes : List ℕ) → (place : ℕ) → Type 0
GoesOnOtherAt marks bytes place =
    (length bytes ≤ suc place) ⊎ ((slice_index_or bytes (suc place) 0 < 128) × (pair_mark marks (slice_index_or bytes place 0) (slice_index_or bytes (suc place) 0) ≡ 0))

-- by the marks no element begins with the byte at a place
abbrev pub IsApartAt : ElementMarks → (bytes : List ℕ) → (place : ℕ) → Type 0
IsApartAt marks bytes place =
    (slice_index_or marks.firsts (slice_index_or bytes place 0) 0 ≡ 0) ⊎ ((slice_index_or marks.firsts (slice_index_or bytes place 0) 0 < 2) × GoesOnOtherAt marks bytes place)

-- the byte at a place is a character by itself, and no element begins with it there
pub record IsAloneAt (marks : ElementMarks) (bytes : List ℕ) (place : ℕ) : Type 0 where
  pub within : place < length bytes
  pub alone : slice_index_or bytes place 0 < 128
  pub apart : IsApartAt marks bytes place

-- two texts have the same byte at a place, which is such a character in both
pub record IsSameAt (marks : ElementMarks) (text other : List ℕ) (place : ℕ) : Type 0 where
  pub same : slice_index_or text place 0 ≡ slice_index_or other place 0
  pub first : IsAloneAt marks text place
  pub second : IsAloneAt marks other place

-- what begins with the byte at a place has ended where two texts begin to be sure, by the mark of it and the next byte
abbrev pub EndsBefore : ElementMarks → (bytes : List ℕ) → (front place : ℕ) → Type 0
EndsBefore marks bytes front place =
    (suc place < front) × (place + pair_mark marks (slice_index_or bytes place 0) (slice_index_or bytes (suc place) 0) ≤ front)

-- two texts have the same byte at a place, which is a character by itself: no element begins with it in either, or it ends before so many bytes
pub record IsSureAt (marks : ElementMarks) (text other : List ℕ) (front place : ℕ) : Type 0 where
  pub within : place < length text
  pub other_within : place < length other
  pub low : slice_index_or text place 0 < 128
  pub same : slice_index_or text place 0 ≡ slice_index_or other place 0
  pub ends : (IsApartAt marks text place × IsApartAt marks other place) ⊎ EndsBefore marks text front place

-- so many bytes behind a place what begins there has ended
abbrev pub IsLeftAt : ElementMarks → (text other : List ℕ) → (place left : ℕ) → Type 0
IsLeftAt marks text other place left =
    (IsApartAt marks text place × IsApartAt marks other place)
    ⊎ ((1 ≤ left) × (pair_mark marks (slice_index_or text place 0) (slice_index_or text (suc place) 0) ≤ suc left))

-- no mark is lower than it was
pub record KeepMarks (old new : ElementMarks) : Type 0 where
  pub firsts : (c : ℕ) → slice_index_or old.firsts c 0 ≤ slice_index_or new.firsts c 0
  pub pairs : (place : ℕ) → slice_index_or old.pairs.items place 0 ≤ slice_index_or new.pairs.items place 0

-- the first character of a string is marked, a single one as the whole, and else the first two with how many it has
abbrev pub AreMarked : ElementMarks → (string : List ℕ) → Type 0
AreMarked marks [] = ⊥
AreMarked marks (c ∷ []) = 2 ≤ slice_index_or marks.firsts c 0
AreMarked marks (c ∷ d ∷ rest) = (1 ≤ slice_index_or marks.firsts c 0) × (length (c ∷ d ∷ rest) ≤ pair_mark marks c d)

-- the marks tell of what is declared
abbrev pub TellsOf : ElementMarks → Declaration → Type 0
TellsOf marks (declaration.Symbol name) = Unit {0}
TellsOf marks (declaration.Equivalence name symbol) = Unit {0}
TellsOf marks (declaration.Element name text) = AreMarked marks text

-- and of all of these
abbrev pub TellOfAll : ElementMarks → List Declaration → Type 0
TellOfAll marks [] = Unit {0}
TellOfAll marks (d ∷ ds) = TellsOf marks d × TellOfAll marks ds

-- the marks are those of a table: they tell of all that it declares, so where they tell that no element begins, none that is placed does
abbrev pub AreMarks : Collation → ElementMarks → Type 0
AreMarks table marks = TellOfAll marks table.declared

-- the marks that were those of a table are those of the table that a statement makes of it
abbrev pub StayMarks : Statement → (marks after : Option ElementMarks) → Type 0
StayMarks s marks after =
    (old new : Collation) → delta old s ≡ Ok new → IfSome marks (AreMarks old) → IfSome after (AreMarks new)
