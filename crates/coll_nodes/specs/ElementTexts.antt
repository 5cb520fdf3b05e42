-- Which collating element has a string (POSIX.1-2017, 7.3.2.2).
use Rattle.std.specs.Prelude.{ℕ, if◌then◌else◌, List, [], ◌∷◌, Option, Some, None}
use Rattle.std.specs.Option.{option_or}
use Rattle.coll_syntax.specs.Identifier.{same_name}
use Rattle.coll_syntax.specs.declared.identifiers.Id.TheVariants.{Named}
use Rattle.coll_nodes.specs.Placement.{entry_at}
use Rattle.coll_nodes.specs.Table.{Collation, entries_of}
use Rattle.coll_nodes.specs.declared.contents.Content.{Content}
use Rattle.coll_nodes.specs.declared.contents.Content.TheVariants as content
use Rattle.coll_nodes.specs.declared.declarations.Declaration.{Declaration}
use Rattle.coll_nodes.specs.declared.declarations.Declaration.TheVariants.{Symbol, Element, Equivalence}
use Rattle.coll_nodes.specs.declared.entries.Entry.{Entry}

-- the name of an element, if a declaration is one with this string
abbrev pub name_if_spelled : (text : List ℕ) → Declaration → Option (List ℕ)
name_if_spelled text (Symbol name) = None
name_if_spelled text (Element name string) = if same_name text string then Some name else None
name_if_spelled text (Equivalence name symbol) = None

-- the name of the element with a string: the first that is declared with it
abbrev pub element_name : List Declaration → (text : List ℕ) → Option (List ℕ)
element_name [] text = None
element_name (first ∷ later) text = option_or (name_if_spelled text first) (element_name later text)

-- the name of the element that a declaration is, if it is one
abbrev pub name_if_element : Declaration → Option (List ℕ)
name_if_element (Symbol name) = None
name_if_element (Element name string) = Some name
name_if_element (Equivalence name symbol) = None

-- the name of the element that a node declares, if it is one
abbrev pub element_name_in : Content → Option (List ℕ)
element_name_in (content.Declared declaration) = name_if_element declaration
element_name_in (content.Begun name ring) = None
element_name_in (content.Placed entry) = None

-- the entry of a name, if there is a name and it has one
abbrev pub entry_if_named : List Entry → Option (List ℕ) → Option Entry
entry_if_named entries None = None
entry_if_named entries (Some name) = entry_at entries (Named name)

-- the entry of the element with a string, if one has it and is placed
abbrev pub element_entry : Collation → (text : List ℕ) → Option Entry
element_entry table text = entry_if_named (entries_of table) (element_name table.declared text)
