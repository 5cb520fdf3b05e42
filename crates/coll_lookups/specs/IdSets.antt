-- Sets of identifiers: which are there, by their names, their characters, and whether UNDEFINED is one.
use Rattle.std.specs.Prelude.{◌≡◌, ℕ, Bool, if◌then◌else◌, ◌||◌, List, [], ◌∷◌, ◌++◌, map, chars, string_bytes, encode_utf8_all}
use Rattle.std.specs.declared.string.String.{String}
use Rattle.std.specs.List.{AllByRecursion}
use Rattle.coll_syntax.specs.Identifier.{same_name, same_id, has_name, has_id}
use Rattle.coll_syntax.specs.declared.identifiers.Id.{Id}
use Rattle.coll_syntax.specs.declared.identifiers.Id.TheVariants.{Char, Named, Undefined}

-- the characters of a text
abbrev pub characters_of : {Y : Type 0} → String Y → List ℕ
characters_of text = chars (string_bytes text)

-- the characters of texts
abbrev pub all_characters_of : {Y : Type 0} → List (String Y) → List (List ℕ)
all_characters_of texts = map characters_of texts

-- the characters of a text are those of its bytes, and no others
abbrev pub IsText : {Y : Type 0} → String Y → Type 0
IsText text = encode_utf8_all (characters_of text) ≡ string_bytes text

-- this holds of each text
abbrev pub AreTexts : {Y : Type 0} → List (String Y) → Type 0
AreTexts texts = AllByRecursion IsText texts

-- a set has one name more, unless it was there
abbrev pub AddsName : (old new : List (List ℕ)) → List ℕ → Type 0
AddsName old new name = (other : List ℕ) → has_name new other ≡ (same_name other name || has_name old other)

-- a look-up has one identifier more, unless it was there
abbrev pub AddsId : List Id → List Id → Id → Type 0
AddsId old new id = (other : Id) → has_id new other ≡ (same_id other id || has_id old other)

-- the identifiers of a look-up: its names, its characters, and UNDEFINED where it has that
abbrev pub ids_in_set : List (List ℕ) → List ℕ → Bool → List Id
ids_in_set names characters undefined =
    map Named names ++ (map Char characters ++ (if undefined then Undefined ∷ [] else []))
