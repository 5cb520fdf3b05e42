-- What is true of every table.
use Rattle.std.specs.Prelude.{◌≡◌, ◌≤◌, ℕ, Bool, true, false, IsTrue, List, [], ◌∷◌, length, All, Some, None}
use Rattle.std.specs.List.{list_any}
use Rattle.coll_lex.specs.Names.{IsName}
use Rattle.coll_syntax.specs.Identifier.{same_name, same_id}
use Rattle.coll_syntax.specs.Proper.{IsElementText, IsId, IsProperWeight}
use Rattle.coll_syntax.specs.declared.identifiers.Id.{Id}
use Rattle.coll_syntax.specs.declared.weights.Weight.{Weight}
use Rattle.coll_nodes.specs.declared.declarations.Declaration.{Declaration}
use Rattle.coll_nodes.specs.declared.entries.Entry.{Entry}
use Rattle.coll_nodes.specs.Table.{Collation, Section, names_of, texts_of, entries_of, ids_of}
use Rattle.coll_nodes.specs.Table.{section_names, is_known, is_symbol, is_placed}
use Rattle.coll_nodes.specs.Entries.{names_only, ids_named}
use Rattle.coll_nodes.specs.OwnNames.{MeanSymbols}
use Rattle.coll_nodes.specs.Limits.{most_entries, most_declarations, most_sections}

-- no member of a list is the same as a later one
abbrev pub AreDistinct : {X : Type 0} → (X → X → Bool) → List X → Type 0
AreDistinct same [] = Unit {0}
AreDistinct same (x ∷ xs) = (list_any (same x) xs ≡ false) × AreDistinct same xs

-- a section has no name
abbrev pub IsUnnamed : Section → Type 0
IsUnnamed section = section.name ≡ None

-- a section has a name, and that is one
abbrev pub IsNamed : Section → Type 0
IsNamed section = (name : List ℕ) × (section.name ≡ Some name) × IsName name

-- the first section has no name, and each other has one
abbrev pub FirstIsUnnamed : List Section → Type 0
FirstIsUnnamed [] = ⊥
FirstIsUnnamed (first ∷ others) = IsUnnamed first × All IsNamed others

-- a weight that an entry may keep: within the limits of the language, and no list that names only the entry
abbrev pub IsKeptWeight : Id → Weight → Type 0
IsKeptWeight id weight = IsProperWeight weight × (names_only id weight ≡ false)

-- the weights that an entry has, by whether it is a collating symbol: none, or one for each level
abbrev pub HasWeights : (levels : ℕ) → (symbol : Bool) → Entry → Type 0
HasWeights levels true entry = entry.weights ≡ []
HasWeights levels false entry = (length entry.weights ≡ levels) × All (IsKeptWeight entry.id) entry.weights

-- an entry has one weight for each level, and none if it is a collating symbol
abbrev pub IsWeighted : (levels : ℕ) → List Declaration → Entry → Type 0
IsWeighted levels declared entry = HasWeights levels (is_symbol declared entry.id) entry

-- an identifier may stand in a table where this is declared: a name has to be declared as an own name
abbrev pub IsKnown : List Declaration → Id → Type 0
IsKnown declared id = IsTrue (is_known declared id)

-- each identifier that an entry's weights name is placed
abbrev pub HasPlacedWeights : Collation → Entry → Type 0
HasPlacedWeights table entry = All (λ id. IsTrue (is_placed table id)) (ids_named entry)

-- what holds of a table already while it is read: all but that it has a level and that the identifiers in its weights are
-- placed. It has at most four levels; names declared and names of sections are names, strings may be those of elements, and
-- identifiers placed are identifiers; of each of these four none stands twice; the symbol of each second name is declared before
-- it; the first section alone has no name; each name placed is an own name that is declared; each entry has one weight for each
-- level, and none if it is a collating symbol, and no weight is a list that names only its entry; the limits hold
pub record IsBuilt (table : Collation) : Type 0 where
  pub few_levels : length table.rules ≤ 4
  pub names : All IsName (names_of table.declared)
  pub texts : All IsElementText (texts_of table.declared)
  pub distinct_names : AreDistinct same_name (names_of table.declared)
  pub distinct_texts : AreDistinct same_name (texts_of table.declared)
  pub meant : MeanSymbols table.declared
  pub first_unnamed : FirstIsUnnamed table.sections
  pub ids : All IsId (ids_of (entries_of table))
  pub distinct_sections : AreDistinct same_name (section_names table.sections)
  pub distinct_entries : AreDistinct same_id (ids_of (entries_of table))
  pub known : All (IsKnown table.declared) (ids_of (entries_of table))
  pub weighted : All (IsWeighted (length table.rules) table.declared) (entries_of table)
  pub few_entries : length (entries_of table) ≤ most_entries
  pub few_declarations : length table.declared ≤ most_declarations
  pub few_sections : length table.sections ≤ most_sections

-- what holds of a table that is being read, and: it has a level, so that its rules are one to four, and each identifier in a
-- weight is placed
pub record IsWellFormed (table : Collation) : Type 0 where
  pub built : IsBuilt table
  pub some_levels : 1 ≤ length table.rules
  pub weights_placed : All (HasPlacedWeights table) (entries_of table)
