-- Maps from texts to numbers, as look-ups by name keep them.
use Rattle.std.specs.Prelude.{◌≡◌, ℕ, if◌then◌else◌, List, [], ◌∷◌, Option, Some, None, map, encode_utf8_all, string_bytes}
use Rattle.std.specs.List.{AllByRecursion}
use Rattle.std.specs.declared.string.String.{String}
use Rattle.coll_syntax.specs.Identifier.{same_name}
use Rattle.coll_lookups.specs.IdSets.{characters_of}

-- a name and its number
pub record NamedNumber : Type 0 where
  pub name : List ℕ
  pub number : ℕ

-- the number of a name
abbrev pub number_named : List NamedNumber → List ℕ → Option ℕ
number_named [] name = None
number_named (first ∷ later) name = if same_name name first.name then Some first.number else number_named later name

-- the names of a map, and their numbers
abbrev pub named_numbers : {Y : Type 0} → List (String Y × ℕ) → List NamedNumber
named_numbers entries = map (λ e. record { name = characters_of e.0; number = e.1 }) entries

-- the bytes of a text are those of its characters, and no others
abbrev pub IsText : {Y : Type 0} → String Y → Type 0
IsText text = encode_utf8_all (characters_of text) ≡ string_bytes text

-- this holds of each key
abbrev pub AreKeys : {K V : Type 0} → (K → Type 0) → List (K × V) → Type 0
AreKeys good entries = AllByRecursion (λ e. good e.0) entries
