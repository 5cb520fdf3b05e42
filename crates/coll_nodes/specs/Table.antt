-- What a table is: its rules, what it declares, and its sections with their entries in order (POSIX.1-2017, 7.3.2).
use Rattle.std.specs.Prelude.{ℕ, Bool, true, false, List, [], ◌∷◌, Option, Some, None, map}
use Rattle.std.specs.List.{flat_map, list_any}
use Rattle.coll_syntax.specs.Identifier.{same_name, has_name, has_id}
use Rattle.coll_syntax.specs.declared.identifiers.Id.{Id}
use Rattle.coll_syntax.specs.declared.identifiers.Id.TheVariants.{Char, Named, Undefined}
use Rattle.coll_syntax.specs.declared.rules.Rule.{Rule}
use Rattle.coll_nodes.specs.declared.declarations.Declaration.{Declaration}
use Rattle.coll_nodes.specs.declared.declarations.Declaration.TheVariants.{Symbol, Element, Equivalence}
use Rattle.coll_nodes.specs.declared.entries.Entry.{Entry}

-- a section: its name, which the first has not, and its entries in order (the project's own)
pub record Section : Type 0 where
  pub name : Option (List ℕ)
  pub entries : List Entry

-- a table: the rules of its levels (7.3.2.3), what it declares, in order (7.3.2.1 and 7.3.2.2, and second names, the project's own
-- meaning of a line), and its sections, in order
pub record Collation : Type 0 where
  pub rules : List Rule
  pub declared : List Declaration
  pub sections : List Section

-- the name that a declaration declares
abbrev pub name_of : Declaration → List ℕ
name_of (Symbol name) = name
name_of (Element name text) = name
name_of (Equivalence name symbol) = name

-- the string of a declaration, if it has one
abbrev pub text_of : Declaration → List (List ℕ)
text_of (Symbol name) = []
text_of (Element name text) = text ∷ []
text_of (Equivalence name symbol) = []

-- the names that are declared, in order
abbrev pub names_of : List Declaration → List (List ℕ)
names_of declared = map name_of declared

-- the strings of the collating elements that are declared, in order
abbrev pub texts_of : List Declaration → List (List ℕ)
texts_of declared = flat_map text_of declared

-- a string is declared
abbrev pub has_text : List Declaration → List (List ℕ) → Bool
has_text declared text = list_any (has_name (texts_of declared)) text

-- the entries of all sections, joined
abbrev pub joined_entries : List Section → List Entry
joined_entries sections = flat_map (λ (section : Section). section.entries) sections

-- the entries of a table, in order
abbrev pub entries_of : Collation → List Entry
entries_of table = joined_entries table.sections

-- the identifiers of entries
abbrev pub ids_of : List Entry → List Id
ids_of entries = map (λ (entry : Entry). entry.id) entries

-- the name of a section, if it has one
abbrev pub named : Option (List ℕ) → List (List ℕ)
named None = []
named (Some name) = name ∷ []

-- the names of sections, in order
abbrev pub section_names : List Section → List (List ℕ)
section_names sections = flat_map (λ (section : Section). named section.name) sections

-- an identifier stands in these sections
abbrev pub is_placed_in : List Section → Id → Bool
is_placed_in sections id = has_id (ids_of (joined_entries sections)) id

-- an identifier stands in a table
abbrev pub is_placed : Collation → Id → Bool
is_placed table id = is_placed_in table.sections id

-- a name is declared in any way
abbrev pub is_declared : List Declaration → List ℕ → Bool
is_declared declared name = has_name (names_of declared) name

-- a declaration declares a name as an own name, under which an entry may stand in the order
abbrev pub declares_own : List ℕ → Declaration → Bool
declares_own name (Symbol declared) = same_name name declared
declares_own name (Element declared text) = same_name name declared
declares_own name (Equivalence declared symbol) = false

-- a name is declared as an own name
abbrev pub is_own_name : List Declaration → List ℕ → Bool
is_own_name declared name = list_any (declares_own name) declared

-- an identifier may stand in a table where this is declared: a name has to be an own name; characters and UNDEFINED need no
-- declaration
abbrev pub is_known : List Declaration → Id → Bool
is_known declared (Char c) = true
is_known declared (Named name) = is_own_name declared name
is_known declared Undefined = true

-- a declaration declares a name as a collating symbol
abbrev pub declares_symbol : List ℕ → Declaration → Bool
declares_symbol name (Symbol declared) = same_name name declared
declares_symbol name (Element declared text) = false
declares_symbol name (Equivalence declared symbol) = false

-- a name is declared as a collating symbol
abbrev pub is_symbol_name : List Declaration → List ℕ → Bool
is_symbol_name declared name = list_any (declares_symbol name) declared

-- an identifier is a collating symbol where this is declared
abbrev pub is_symbol : List Declaration → Id → Bool
is_symbol declared (Char c) = false
is_symbol declared (Named name) = is_symbol_name declared name
is_symbol declared Undefined = false
