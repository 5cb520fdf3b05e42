-- What stands beside an entry among all entries, and the section in which it stands.
use Rattle.std.specs.Prelude.{ℕ, if◌then◌else◌, List, [], ◌∷◌, Option, Some, None}
use Rattle.coll_syntax.specs.Identifier.{same_id, has_id}
use Rattle.coll_syntax.specs.declared.identifiers.Id.{Id}
use Rattle.coll_nodes.specs.Table.{Section, ids_of}
use Rattle.coll_nodes.specs.declared.entries.Entry.{Entry}

-- the first of a list
abbrev pub first_of : {X : Type 0} → List X → Option X
first_of [] = None
first_of (first ∷ later) = Some first

-- the last of a list, or, where it has none, what stands before it
abbrev pub last_behind : {X : Type 0} → Option X → List X → Option X
last_behind before [] = before
last_behind before (first ∷ later) = last_behind (Some first) later

-- the entry directly before that of an identifier, where one may stand before all these
abbrev pub entry_between : (before : Option Entry) → List Entry → Id → Option Entry
entry_between before [] id = None
entry_between before (entry ∷ entries) id = if same_id id entry.id then before else entry_between (Some entry) entries id

-- the entry directly before that of an identifier, if both are there
abbrev pub entry_before : List Entry → Id → Option Entry
entry_before entries id = entry_between None entries id

-- the entry directly behind that of an identifier, if both are there
abbrev pub entry_behind : List Entry → Id → Option Entry
entry_behind [] id = None
entry_behind (entry ∷ entries) id = if same_id id entry.id then first_of entries else entry_behind entries id

-- the last entry, if there is one
abbrev pub last_entry : List Entry → Option Entry
last_entry entries = last_behind None entries

-- the name of the section in which the entry of an identifier stands, if there is one, and it has a name
abbrev pub section_name : List Section → Id → Option (List ℕ)
section_name [] id = None
section_name (section ∷ sections) id = if has_id (ids_of section.entries) id then section.name else section_name sections id
